-- Files that are lexed once more have the tokens that they had.
use Rattle.std.proofs.Common.{◌≡◌, ℕ, zero, suc, ◌+◌, ◌*◌, ◌<◌, ◌≤◌, List, [], ◌∷◌, ◌++◌, length, refl, sym, ap, ◌∙◌, subst, arith, append_assoc, append-nil}
use Rattle.std.specs.Prelude.{drop, get_or}
use Rattle.jn_base.specs.declared.number.FileNo.{FileNo}
use Rattle.jn_known.specs.Known.{known_names}
use Rattle.jn_trees.specs.declared.token.Token.{Token}
use Rattle.jn_lexer.specs.Lexed.{Lexed}
use Rattle.jn_front.specs.declared.source.SourceRead.{SourceRead}
use Rattle.jn_front.specs.Files.{files_of_reads}
use Rattle.jn_front.specs.Phases.{LexedFrom}

-- a text has one reading
abbrev pub OneReading : Type 0
OneReading = (file : FileNo) (text : List ℕ) (old : List (List ℕ)) (ts us : List Token) (ns ms : List (List ℕ)) → Lexed file text old ts ns → Lexed file text old us ms → (ts ≡ us) × (ns ≡ ms)

-- after the tokens that were found, the others are those of the files that are left
abbrev pub Rest : ℕ → List (List ℕ) → List SourceRead → List (List Token) → List (List Token) → List (List ℕ) → Type 0
Rest k names reads done tss last = (left : List (List Token)) × (done ++ left ≡ tss) × LexedFrom k names (files_of_reads reads) left last

drop_nothing : (reads : List SourceRead) → drop 0 reads ≡ reads
drop_nothing [] = refl
drop_nothing (read ∷ reads) = refl

-- so many files were lexed
pub record IsLexed (reads : List SourceRead) (k : ℕ) (names : List (List ℕ)) (done : List (List Token)) : Type 0 where
  pub within : k ≤ length reads
  pub few : length names ≤ 30 + k * 1048576
  pub rest : (tss : List (List Token)) (last : List (List ℕ)) → LexedFrom 0 known_names (files_of_reads reads) tss last → Rest k names (drop k reads) done tss last

known_few : length known_names ≡ 30
known_few = refl

pub begins : (reads : List SourceRead) (names : List (List ℕ)) → names ≡ known_names → IsLexed reads 0 names []
begins reads names is = record {
  within = omega arith;
  few = let long : length names ≡ length known_names = ap length is in let f = known_few in omega (arith, long, f);
  rest = λ tss last lexed. (tss, refl, subst (λ rs. LexedFrom 0 names (files_of_reads rs) tss last) (sym (drop_nothing reads)) (subst (λ ns. LexedFrom 0 ns (files_of_reads reads) tss last) (sym is) lexed));
}

module _ (one : OneReading) where
  step : (k : ℕ) (names : List (List ℕ)) (read : SourceRead) (reads : List SourceRead) (done all : List (List Token)) (ts : List Token) (new : List (List ℕ)) (tss : List (List Token)) (last : List (List ℕ)) → Lexed (record { 0 = k }) read.file.bytes names ts new → all ≡ done ++ ts ∷ [] → Rest k names (read ∷ reads) done tss last → Rest (k + 1) new reads all tss last
  step k names read reads done all ts new tss last lexed put ([], e, l) = absurd l
  step k names read reads done all ts new tss last lexed put (us ∷ more, e, l) =
      let same = one (record { 0 = k }) read.file.bytes names us ts l.0 new l.1 lexed in
      (more, ap (λ x. x ++ more) put ∙ append_assoc done (ts ∷ []) more ∙ ap (λ t. done ++ t ∷ more) (sym same.0) ∙ e, subst (λ n. LexedFrom (k + 1) n (files_of_reads reads) more last) same.1 l.2)

  pub next : (reads : List SourceRead) (k : ℕ) (names : List (List ℕ)) (done all : List (List Token)) (read : SourceRead) (ts : List Token) (new : List (List ℕ)) → k < length reads → drop k reads ≡ read ∷ drop (k + 1) reads → length read.file.bytes ≤ 1048576 → length new ≤ length names + length read.file.bytes → Lexed (record { 0 = k }) read.file.bytes names ts new → all ≡ done ++ ts ∷ [] → IsLexed reads k names done → IsLexed reads (k + 1) new all
  next reads k names done all read ts new lt here fits more lexed put so = record {
    within = omega (arith, lt);
    few = let f = so.few in omega (arith, f, fits, more);
    rest = λ tss last whole. step k names read (drop (k + 1) reads) done all ts new tss last lexed put (subst (λ rs. Rest k names rs done tss last) here (so.rest tss last whole));
  }

-- the next file has tokens
pub lexes : (reads : List SourceRead) (k : ℕ) (names : List (List ℕ)) (done : List (List Token)) (read : SourceRead) → drop k reads ≡ read ∷ drop (k + 1) reads → ((tokens : List (List Token)) × (last : List (List ℕ)) × LexedFrom 0 known_names (files_of_reads reads) tokens last) → IsLexed reads k names done → (tokens : List Token) × (new : List (List ℕ)) × Lexed (record { 0 = k }) read.file.bytes names tokens new
lexes reads k names done read here some so = by (subst (λ rs. Rest k names rs done some.0 some.1) here (so.rest some.0 some.1 some.2))
  where
    by : Rest k names (read ∷ drop (k + 1) reads) done some.0 some.1 → (tokens : List Token) × (new : List (List ℕ)) × Lexed (record { 0 = k }) read.file.bytes names tokens new
    by ([], e, l) = absurd l
    by (us ∷ more, e, l) = (us, l.0, l.1)

-- after the last file all are found
pub all_lexed : (reads : List SourceRead) (k : ℕ) (names : List (List ℕ)) (done : List (List Token)) → length reads ≤ k → IsLexed reads k names done → (tss : List (List Token)) (last : List (List ℕ)) → LexedFrom 0 known_names (files_of_reads reads) tss last → done ≡ tss
all_lexed reads k names done le so tss last whole = by (subst (λ rs. Rest k names rs done tss last) (drop_all reads k le) (so.rest tss last whole))
  where
    drop_all : (xs : List SourceRead) (k : ℕ) → length xs ≤ k → drop k xs ≡ []
    drop_all [] zero l = refl
    drop_all [] (suc k) l = refl
    drop_all (x ∷ xs) zero l = absurd (omega (arith, l))
    drop_all (x ∷ xs) (suc k) l = drop_all xs k (omega (arith, l))

    by : Rest k names [] done tss last → done ≡ tss
    by ([], e, l) = sym (append-nil done) ∙ e
    by (us ∷ more, e, l) = absurd l

-- the file at a place, and its size
pub at_place : (reads : List SourceRead) (k : ℕ) (d : SourceRead) (read : SourceRead) → k < length reads → read ≡ get_or reads k d → drop k reads ≡ read ∷ drop (k + 1) reads
at_place [] k d read lt is = absurd (omega (arith, lt))
at_place (x ∷ xs) zero d read lt is = ap (λ y. y ∷ xs) (sym is) ∙ ap (λ ys. read ∷ ys) (sym (drop_nothing xs))
at_place (x ∷ xs) (suc k) d read lt is = at_place xs k d read (omega (arith, lt)) is ∙ ap (λ j. read ∷ drop j (x ∷ xs)) (let e : suc (k + 1) ≡ suc k + 1 = omega arith in e)
