-- Files that were read one after another.
use Rattle.std.proofs.Common.{◌≡◌, ℕ, zero, suc, ◌+◌, ◌<◌, ◌≤◌, true, false, List, [], ◌∷◌, ◌++◌, length, map, take, get_or, Option, Some, None, Result, Ok, Err, inl, inr, refl, sym, ap, ◌∙◌, subst, arith, append-nil, append_assoc}
use Rattle.std.specs.Result.{IsErrAnd}
use Rattle.std.specs.Prelude.{IfOk, string_bytes}
use Rattle.std.specs.declared.string.String.{String}
use Rattle.std.specs.declared.alloc.Global.{Global}
use Rattle.std.proofs.lemmas.List.{take_more, take_all, length-take}
use Rattle.jn_outside.specs.declared.given.Given.{Given}
use Rattle.jn_outside.specs.Files.{Holding, Holds, Gives}
use Rattle.jn_outside.specs.Gave.{given, BeginsWith, Begins, GivesTooMany, GivesLittle}
use Rattle.jn_base.specs.declared.refusal.Fail.{Fail}
use Rattle.jn_base.specs.declared.refusal.Fail.TheVariants.{Refused, OutOfMemory}
use Rattle.jn_outside.specs.declared.files.Failed.{Failed}
use Rattle.jn_front.specs.declared.source.SourceFile.{SourceFile}
use Rattle.jn_front.specs.declared.source.SourceRead.{SourceRead}
use Rattle.jn_front.specs.Files.{ReadFrom, AreHeld, AreGiven, given_of, StartsOnly, AllHeld, AreReads, CannotRead, IsReadAs, names_of, file_limit}

-- ---- one file

one_held : (held : Option Holding) (name bytes : List ℕ) → Gives held name bytes → AreHeld held (record { name = name; bytes = bytes } ∷ [])
one_held None name bytes g = tt
one_held (Some h) name bytes g = (g, tt)

-- no more than the limit was given
one_given : (old new : List Given) (name bytes : List ℕ) → length bytes ≤ file_limit + 1 → new ≡ old ++ given name bytes ∷ [] → AreGiven old new (record { name = name; bytes = bytes } ∷ [])
one_given old new name bytes le gave = gave ∙ ap (λ front. old ++ given name front ∷ []) (sym (take_all (file_limit + 1) bytes le))

whole_from : (held : Option Holding) (old new : List Given) (name bytes : List ℕ) (read : SourceRead) → IsReadAs name bytes true read → Gives held name bytes → length bytes ≤ file_limit → new ≡ old ++ given name bytes ∷ [] → ReadFrom held (name ∷ []) old new (read ∷ [])
whole_from held old new name bytes read is g le gave = record {
  files = record { name = name; bytes = bytes } ∷ [];
  named = refl;
  told = one_held held name bytes g;
  given = one_given old new name bytes (omega (arith, le)) gave;
  are = (inl (is.1, is.0, le), tt);
}

pub read_whole_from : {E : Type 0} (held : Option Holding) (old new : List Given) (name bytes : List ℕ) (r : Result SourceRead E) → IfOk r (IsReadAs name bytes true) → Gives held name bytes → length bytes ≤ file_limit → new ≡ old ++ given name bytes ∷ [] → IfOk r (λ read. ReadFrom held (name ∷ []) old new (read ∷ []))
read_whole_from held old new name bytes (Ok read) is g le gave = whole_from held old new name bytes read is g le gave
read_whole_from held old new name bytes (Err e) is g le gave = tt

-- of a file that is too large the first bytes were given
longer_from : (held : Option Holding) (old new : List Given) (name bytes front : List ℕ) (read : SourceRead) → IsReadAs name [] false read → Gives held name bytes → file_limit < length bytes → front ≡ take (file_limit + 1) bytes → new ≡ old ++ given name front ∷ [] → ReadFrom held (name ∷ []) old new (read ∷ [])
longer_from held old new name bytes front read is g lt first gave = record {
  files = record { name = name; bytes = bytes } ∷ [];
  named = refl;
  told = one_held held name bytes g;
  given = gave ∙ ap (λ bytes. old ++ given name bytes ∷ []) first;
  are = (inr (is.1, is.0, lt), tt);
}

longer_held : (h : Holding) (old new : List Given) (name front : List ℕ) (read : SourceRead) → IsReadAs name [] false read → (o : Option (List ℕ)) → h name ≡ o → length front ≡ file_limit + 1 → BeginsWith o front → new ≡ old ++ given name front ∷ [] → ReadFrom (Some h) (name ∷ []) old new (read ∷ [])
longer_held h old new name front read is None e many first gave = absurd first
longer_held h old new name front read is (Some bytes) e many first gave =
    let same : front ≡ take (file_limit + 1) bytes = sym first ∙ ap (λ n. take n bytes) many in
    let long : length front ≡ length (take (file_limit + 1) bytes) = ap length same in
    longer_from (Some h) old new name bytes front read is e (omega (arith, long, many, length-take (file_limit + 1) bytes)) same gave

large_from : (held : Option Holding) (old new : List Given) (name front : List ℕ) (read : SourceRead) → IsReadAs name [] false read → length front ≡ file_limit + 1 → Begins held name front → new ≡ old ++ given name front ∷ [] → ReadFrom held (name ∷ []) old new (read ∷ [])
large_from None old new name front read is many first gave = longer_from None old new name front front read is tt (omega (arith, many)) (sym (take_all (file_limit + 1) front (omega (arith, many)))) gave
large_from (Some h) old new name front read is many first gave = longer_held h old new name front read is (h name) refl many first gave

pub read_large_from : {E : Type 0} (held : Option Holding) (old new : List Given) (name none : List ℕ) (r : Result SourceRead E) → none ≡ [] → IfOk r (IsReadAs name none false) → GivesTooMany held name file_limit old new → IfOk r (λ read. ReadFrom held (name ∷ []) old new (read ∷ []))
read_large_from held old new name none (Ok read) empty is m = large_from held old new name m.front read (subst (λ bytes. IsReadAs name bytes false read) empty is) m.many m.first m.gave
read_large_from held old new name none (Err e) empty is m = tt

-- ---- one file more

pub none_read : (held : Option Holding) (gave : List Given) (names : List (List ℕ)) (reads : List SourceRead) → names ≡ [] → reads ≡ [] → ReadFrom held names gave gave reads
none_read held gave names reads no_names no_reads = subst (λ ns. ReadFrom held ns gave gave reads) (sym no_names) (subst (λ rs. ReadFrom held [] gave gave rs) (sym no_reads) (record { files = []; named = refl; told = all held; given = sym (append-nil gave); are = tt }))
  where
    all : (held : Option Holding) → AreHeld held []
    all None = tt
    all (Some h) = tt

held_both : (held : Option Holding) (xs ys : List SourceFile) → AreHeld held xs → AreHeld held ys → AreHeld held (xs ++ ys)
held_both None xs ys a b = tt
held_both (Some h) [] ys a b = b
held_both (Some h) (x ∷ xs) ys a b = (a.0, held_both (Some h) xs ys a.1 b)

reads_both : (xs ys : List SourceRead) (fs gs : List SourceFile) → AreReads xs fs → AreReads ys gs → AreReads (xs ++ ys) (fs ++ gs)
reads_both [] ys [] gs a b = b
reads_both [] ys (f ∷ fs) gs a b = absurd a
reads_both (x ∷ xs) ys [] gs a b = absurd a
reads_both (x ∷ xs) ys (f ∷ fs) gs a b = (a.0, reads_both xs ys fs gs a.1 b)

names_both : (fs gs : List SourceFile) → names_of (fs ++ gs) ≡ names_of fs ++ names_of gs
names_both [] gs = refl
names_both (f ∷ fs) gs = ap (λ ns. f.name ∷ ns) (names_both fs gs)

given_both : (fs gs : List SourceFile) → map given_of (fs ++ gs) ≡ map given_of fs ++ map given_of gs
given_both [] gs = refl
given_both (f ∷ fs) gs = ap (λ given. given_of f ∷ given) (given_both fs gs)

both : (held : Option Holding) (old now new : List Given) (names more : List (List ℕ)) (xs ys : List SourceRead) → ReadFrom held names old now xs → ReadFrom held more now new ys → ReadFrom held (names ++ more) old new (xs ++ ys)
both held old now new names more xs ys a b = record {
  files = a.files ++ b.files;
  named = names_both a.files b.files ∙ ap (λ ns. ns ++ names_of b.files) a.named ∙ ap (λ ns. names ++ ns) b.named;
  told = held_both held a.files b.files a.told b.told;
  given = b.given ∙ ap (λ gs. gs ++ map given_of b.files) a.given ∙ append_assoc old (map given_of a.files) (map given_of b.files) ∙ ap (λ gs. old ++ gs) (sym (given_both a.files b.files));
  are = reads_both xs ys a.files b.files a.are b.are;
}

map_both : (xs ys : List (String Global)) → map string_bytes (xs ++ ys) ≡ map string_bytes xs ++ map string_bytes ys
map_both [] ys = refl
map_both (x ∷ xs) ys = ap (λ ns. string_bytes x ∷ ns) (map_both xs ys)

names_more : (names : List (String Global)) (i : ℕ) (d : String Global) (text : List ℕ) → i < length names → text ≡ string_bytes (get_or names i d) → map string_bytes (take (i + 1) names) ≡ map string_bytes (take i names) ++ text ∷ []
names_more names i d text lt is = ap (map string_bytes) (take_more names i d lt) ∙ map_both (take i names) (get_or names i d ∷ []) ∙ ap (λ t. map string_bytes (take i names) ++ t ∷ []) (sym is)

pub one_more : (held now : Option Holding) (old gave new : List Given) (names : List (String Global)) (i : ℕ) (d : String Global) (text : List ℕ) (reads more : List SourceRead) (read : SourceRead) → now ≡ held → i < length names → text ≡ string_bytes (get_or names i d) → ReadFrom held (map string_bytes (take i names)) old gave reads → ReadFrom now (text ∷ []) gave new (read ∷ []) → more ≡ reads ++ read ∷ [] → ReadFrom held (map string_bytes (take (i + 1) names)) old new more
one_more held now old gave new names i d text reads more read same lt is before next more_is =
    subst (λ ns. ReadFrom held ns old new more) (sym (names_more names i d text lt is)) (subst (λ rs. ReadFrom held (map string_bytes (take i names) ++ text ∷ []) old new rs) (sym more_is)
    (both held old gave new (map string_bytes (take i names)) (text ∷ []) reads (read ∷ []) before (subst (λ h. ReadFrom h (text ∷ []) gave new (read ∷ [])) same next)))

-- ---- what was started

-- a front is the front of its own length
front_is : (k : ℕ) (names : List (List ℕ)) → take k names ≡ take (length (take k names)) names
front_is zero names = refl
front_is (suc k) [] = refl
front_is (suc k) (name ∷ names) = ap (λ ns. name ∷ ns) (front_is k names)

abbrev names_given : List Given → List (List ℕ)
names_given gave = map (λ (g : Given). g.name) gave

many_given : (gave : List Given) → length (names_given gave) ≡ length gave
many_given [] = refl
many_given (g ∷ gs) = ap suc (many_given gs)

starts : (names : List (List ℕ)) (old new added : List Given) (k : ℕ) → new ≡ old ++ added → names_given added ≡ take k names → StartsOnly names old new
starts names old new added k gave named = record {
  added = added;
  gave = gave;
  named = named ∙ front_is k names ∙ ap (λ n. take n names) (ap length (sym named) ∙ many_given added);
}

files_given : (files : List SourceFile) → names_given (map given_of files) ≡ names_of files
files_given [] = refl
files_given (f ∷ fs) = ap (λ ns. f.name ∷ ns) (files_given fs)

names_given_both : (fs gs : List Given) → names_given (fs ++ gs) ≡ names_given fs ++ names_given gs
names_given_both [] gs = refl
names_given_both (f ∷ fs) gs = ap (λ ns. f.name ∷ ns) (names_given_both fs gs)

map_take : (k : ℕ) (names : List (String Global)) → map string_bytes (take k names) ≡ take k (map string_bytes names)
map_take zero names = refl
map_take (suc k) [] = refl
map_take (suc k) (name ∷ names) = ap (λ ns. string_bytes name ∷ ns) (map_take k names)

-- after files that were read
pub starts_so_far : (held : Option Holding) (old new : List Given) (names : List (String Global)) (i : ℕ) (reads : List SourceRead) → ReadFrom held (map string_bytes (take i names)) old new reads → StartsOnly (map string_bytes names) old new
starts_so_far held old new names i reads from =
    starts (map string_bytes names) old new (map given_of from.files) i from.given (files_given from.files ∙ from.named ∙ map_take i names)

one_name : (text bytes : List ℕ) (ns : List (List ℕ)) → ns ++ names_given (given text bytes ∷ []) ≡ ns ++ text ∷ []
one_name text bytes ns = refl

-- after files that were read, and one that wasn't
pub starts_more : (held : Option Holding) (old gave new : List Given) (names : List (String Global)) (i most : ℕ) (d : String Global) (text : List ℕ) (reads : List SourceRead) → i < length names → text ≡ string_bytes (get_or names i d) → ReadFrom held (map string_bytes (take i names)) old gave reads → GivesLittle text most gave new → StartsOnly (map string_bytes names) old new
starts_more held old gave new names i most d text reads lt is from (inl same) = starts_so_far held old new names i reads (subst (λ g. ReadFrom held (map string_bytes (take i names)) old g reads) (sym same) from)
starts_more held old gave new names i most d text reads lt is from (inr one) =
    let last : List Given = given text one.bytes ∷ [] in
    starts (map string_bytes names) old new (map given_of from.files ++ last) (i + 1)
    (one.gave ∙ ap (λ gs. gs ++ last) from.given ∙ append_assoc old (map given_of from.files) last)
    (names_given_both (map given_of from.files) last ∙ ap (λ ns. ns ++ names_given last) (files_given from.files ∙ from.named) ∙ one_name text one.bytes (map string_bytes (take i names)) ∙ sym (names_more names i d text lt is) ∙ map_take (i + 1) names)

pub held_at : (held : Option Holding) (names : List (String Global)) (i : ℕ) (d : String Global) → i < length names → AllHeld held (map string_bytes names) → Holds held (string_bytes (get_or names i d))
held_at held [] i d lt all = absurd (omega (arith, lt))
held_at held (name ∷ names) zero d lt all = all.0
held_at held (name ∷ names) (suc i) d lt all = held_at held names i d (omega (arith, lt)) all.1

-- the name that is read next is held
pub held_now : (held now : Option Holding) (names : List (String Global)) (i : ℕ) (d : String Global) (text : List ℕ) → now ≡ held → i < length names → text ≡ string_bytes d → d ≡ get_or names i d → AllHeld held (map string_bytes names) → Holds now text
held_now held now names i d text same lt value item all =
    subst (λ h. Holds h text) (sym same) (subst (λ t. Holds held t) (sym (value ∙ ap string_bytes item)) (held_at held names i d lt all))

pub cannot_read : (A B : Type 0) (fail : Fail Failed) → CannotRead {A = A} (Err fail) → CannotRead {A = B} (Err fail)
cannot_read A B (Refused failed) c = tt
cannot_read A B OutOfMemory c = absurd c

-- an error that is passed on says the same
pub passed_on : (A B : Type 0) (r : Result A (Fail Failed)) (fail : Fail Failed) → IsErrAnd r (λ e. e ≡ fail) → CannotRead r → CannotRead {A = B} (Err fail)
passed_on A B (Ok a) fail same c = absurd c
passed_on A B (Err e) fail same c = subst (λ f. CannotRead {A = B} (Err f)) same (cannot_read A B e c)
