-- Reading the longest piece again and again ends at the greatest place.
use Rattle.std.proofs.Common.{◌≡◌, ℕ, zero, suc, ◌+◌, ◌-◌, ◌<◌, ◌≤◌, List, [], ◌∷◌, ◌++◌, length, refl, sym, ap, ◌∙◌, subst, arith, append_assoc, append-nil, length-append, Some, None, Bool, true}
use Rattle.jn_trees.specs.declared.token.TokenKind.{TokenKind}
use Rattle.jn_trees.specs.Pieces.{Language, spell_pieces, InOrder, IsPlace}
use Rattle.jn_parse_decl_law.specs.Runs.{Found, SoundPiece, FullPiece, run, ReadsRow}

-- a reader of one piece that is sound and full, where pieces and the end of the tokens are quiet
pub record PieceReader (L : Language) : Type 0 where
  pub read : L.State → List TokenKind → Found L
  pub quiet : List TokenKind → Bool
  pub sound : (s : L.State) (ts : List TokenKind) → SoundPiece L s ts (read s ts)
  pub full : (s : L.State) (p : L.Piece) (rest : List TokenKind) → L.May s p → FullPiece L quiet p rest (read s (L.spelling p ++ rest))
  pub starts : (s : L.State) (p : L.Piece) (rest : List TokenKind) → L.May s p → quiet (L.spelling p ++ rest) ≡ true
  pub stops : quiet [] ≡ true

run_sound : (L : Language) (R : PieceReader L) (n : ℕ) (s : L.State) (ts : List TokenKind) → InOrder L s (run L R.read n s ts).0 × (ts ≡ spell_pieces L (run L R.read n s ts).0 ++ (run L R.read n s ts).1)
run_sound L R zero s ts = (tt, refl)
run_sound L R (suc n) s ts =
    (elim (R.read s ts) as (λ o. SoundPiece L s ts o → (let q = elim o as (λ _. List L.Piece × List TokenKind) [ None ↦ ([], ts) | Some r ↦ (let q = run L R.read n (L.next s r.0) r.1 in (r.0 ∷ q.0, q.1)) ] in InOrder L s q.0 × (ts ≡ spell_pieces L q.0 ++ q.1))) [
      | None ↦ λ _. (tt, refl)
      | Some r ↦ λ g.
          let h = run_sound L R n (L.next s r.0) r.1 in
          ((g.1, h.0), g.0 ∙ ap (λ x. L.spelling r.0 ++ x) h.1 ∙ sym (append_assoc (L.spelling r.0) (spell_pieces L (run L R.read n (L.next s r.0) r.1).0) (run L R.read n (L.next s r.0) r.1).1))
    ])
    (R.sound s ts)

run_shorter : (L : Language) (R : PieceReader L) (n : ℕ) (s : L.State) (ts : List TokenKind) → length (run L R.read n s ts).1 ≤ length ts
run_shorter L R n s ts = let h = run_sound L R n s ts in omega (arith, ap length h.1, length-append (spell_pieces L (run L R.read n s ts).0) (run L R.read n s ts).1)

quiet_pieces : (L : Language) (R : PieceReader L) (s : L.State) (p : L.Piece) (ps : List L.Piece) (rest : List TokenKind) → InOrder L s (p ∷ ps) → R.quiet (spell_pieces L (p ∷ ps) ++ rest) ≡ true
quiet_pieces L R s p ps rest h = ap R.quiet (append_assoc (L.spelling p) (spell_pieces L ps) rest) ∙ R.starts s p (spell_pieces L ps ++ rest) h.0

-- no pieces in order go further than the run
further : (L : Language) (R : PieceReader L) (n : ℕ) (s : L.State) (ps : List L.Piece) (rest : List TokenKind) → InOrder L s ps → length (spell_pieces L ps ++ rest) < n → length (run L R.read n s (spell_pieces L ps ++ rest)).1 ≤ length rest
further L R zero s ps rest o lt = absurd (omega (arith, lt))
further L R (suc n) s [] rest o lt = run_shorter L R (suc n) s rest
further L R (suc n) s (p ∷ []) rest o lt =
    subst (λ x. length (run L R.read (suc n) s x).1 ≤ length rest) (sym (append_assoc (L.spelling p) [] rest))
    ((elim (R.read s (L.spelling p ++ rest)) as (λ o. FullPiece L R.quiet p rest o → length (elim o as (λ _. List L.Piece × List TokenKind) [ None ↦ ([], L.spelling p ++ rest) | Some r ↦ (let q = run L R.read n (L.next s r.0) r.1 in (r.0 ∷ q.0, q.1)) ]).1 ≤ length rest)
    [ None ↦ λ f. absurd f | Some r ↦ λ f. let short = run_shorter L R n (L.next s r.0) r.1 in omega (arith, short, f.0) ])
    (R.full s p rest o.0))
further L R (suc n) s (p ∷ (q ∷ qs)) rest o lt =
    let more = spell_pieces L (q ∷ qs) ++ rest in
    subst (λ x. length (run L R.read (suc n) s x).1 ≤ length rest) (sym (append_assoc (L.spelling p) (spell_pieces L (q ∷ qs)) rest))
    ((elim (R.read s (L.spelling p ++ more)) as (λ o. FullPiece L R.quiet p more o → SoundPiece L s (L.spelling p ++ more) o → length (elim o as (λ _. List L.Piece × List TokenKind) [ None ↦ ([], L.spelling p ++ more) | Some r ↦ (let q = run L R.read n (L.next s r.0) r.1 in (r.0 ∷ q.0, q.1)) ]).1 ≤ length rest) [
      | None ↦ λ f g. absurd f
      | Some r ↦ λ f g.
          let same : r ≡ (p, more) = f.1 (quiet_pieces L R (L.next s p) q qs rest o.1) in
          let long : length ((L.spelling p ++ spell_pieces L (q ∷ qs)) ++ rest) ≡ length (L.spelling p ++ more) = ap length (append_assoc (L.spelling p) (spell_pieces L (q ∷ qs)) rest) in
          let small : length more < n = omega (arith, ap (λ (x : L.Piece × List TokenKind). length x.1) same, g.2, lt, long) in
          subst (λ (x : L.Piece × List TokenKind). length (run L R.read n (L.next s x.0) x.1).1 ≤ length rest) (sym same) (further L R n (L.next s p) (q ∷ qs) rest o.1 small)
    ])
    (R.full s p more o.0) (R.sound s (L.spelling p ++ more)))

-- the place where the run stops
pub run_place : (L : Language) (R : PieceReader L) (s : L.State) (ts : List TokenKind) → IsPlace L s ts (length ts - length (run L R.read (suc (length ts)) s ts).1)
run_place L R s ts =
    let end = run L R.read (suc (length ts)) s ts in
    let h = run_sound L R (suc (length ts)) s ts in
    let long : length ts ≡ length (spell_pieces L end.0) + length end.1 = ap length h.1 ∙ length-append (spell_pieces L end.0) end.1 in
    record {
      reached = record { pieces = end.0; rest = end.1; ordered = h.0; spelled = h.1; place = omega (arith, long) };
      greatest = λ m b.
          let far : length (run L R.read (suc (length ts)) s (spell_pieces L b.pieces ++ b.rest)).1 ≤ length b.rest = further L R (suc (length ts)) s b.pieces b.rest b.ordered (omega (arith, ap length b.spelled)) in
          let same : length end.1 ≤ length b.rest = subst (λ x. length (run L R.read (suc (length ts)) s x).1 ≤ length b.rest) (sym b.spelled) far in
          omega (arith, b.place, same, long, ap length b.spelled, length-append (spell_pieces L b.pieces) b.rest);
    }

-- pieces that are read one after another are in order, and what is left stands after them
pub row_sound : (L : Language) (R : PieceReader L) (s : L.State) (ts : List TokenKind) (ps : List L.Piece) (u : L.State) (rest : List TokenKind) → ReadsRow L R.read s ts ps u rest → InOrder L s ps × (ts ≡ spell_pieces L ps ++ rest)
row_sound L R s ts [] u rest h = (tt, h.1)
row_sound L R s ts (p ∷ ps) u rest h =
    let more = row_sound L R (L.next s p) h.0 ps u rest h.2 in
    let here : SoundPiece L s ts (Some (p, h.0)) = subst (λ o. SoundPiece L s ts o) h.1 (R.sound s ts) in
    ((here.1, more.0), here.0 ∙ ap (λ x. L.spelling p ++ x) more.1 ∙ sym (append_assoc (L.spelling p) (spell_pieces L ps) rest))

-- one piece more
pub row_more : (L : Language) (read : L.State → List TokenKind → Found L) (s : L.State) (ts : List TokenKind) (ps : List L.Piece) (u : L.State) (rest : List TokenKind) (p : L.Piece) (us : List TokenKind) → ReadsRow L read s ts ps u rest → read u rest ≡ Some (p, us) → ReadsRow L read s ts (ps ++ p ∷ []) (L.next u p) us
row_more L read s ts [] u rest p us h e = (us, ap (λ x. read x ts) h.0 ∙ ap (λ x. read u x) h.1 ∙ e, (ap (λ x. L.next x p) h.0, refl))
row_more L read s ts (q ∷ qs) u rest p us h e = (h.0, h.1, row_more L read (L.next s q) h.0 qs u rest p us h.2 e)

-- a row that nothing goes on with is what the run reads
pub row_run : (L : Language) (R : PieceReader L) (n : ℕ) (s : L.State) (ts : List TokenKind) (ps : List L.Piece) (u : L.State) (rest : List TokenKind) → ReadsRow L R.read s ts ps u rest → R.read u rest ≡ None → length ts < n → run L R.read n s ts ≡ (ps, rest)
row_run L R zero s ts ps u rest h e lt = absurd (omega (arith, lt))
row_run L R (suc n) s ts [] u rest h e lt =
    let stop : R.read s ts ≡ None = ap (λ x. R.read x ts) h.0 ∙ ap (λ x. R.read u x) h.1 ∙ e in
    ap (λ o. elim o as (λ _. List L.Piece × List TokenKind) [ None ↦ ([], ts) | Some r ↦ (let q = run L R.read n (L.next s r.0) r.1 in (r.0 ∷ q.0, q.1)) ]) stop ∙ ap (λ x. ([], x)) h.1
row_run L R (suc n) s ts (p ∷ ps) u rest h e lt =
    let here : SoundPiece L s ts (Some (p, h.0)) = subst (λ o. SoundPiece L s ts o) h.1 (R.sound s ts) in
    let more : run L R.read n (L.next s p) h.0 ≡ (ps, rest) = row_run L R n (L.next s p) h.0 ps u rest h.2 e (omega (arith, here.2, lt)) in
    ap (λ o. elim o as (λ _. List L.Piece × List TokenKind) [ None ↦ ([], ts) | Some r ↦ (let q = run L R.read n (L.next s r.0) r.1 in (r.0 ∷ q.0, q.1)) ]) h.1 ∙ ap (λ (q : List L.Piece × List TokenKind). (p ∷ q.0, q.1)) more

-- it ends at the place
pub row_place : (L : Language) (R : PieceReader L) (s : L.State) (ts : List TokenKind) (ps : List L.Piece) (u : L.State) (rest : List TokenKind) → ReadsRow L R.read s ts ps u rest → R.read u rest ≡ None → IsPlace L s ts (length ts - length rest)
row_place L R s ts ps u rest h e =
    let same : run L R.read (suc (length ts)) s ts ≡ (ps, rest) = row_run L R (suc (length ts)) s ts ps u rest h e (omega arith) in
    subst (λ (q : List L.Piece × List TokenKind). IsPlace L s ts (length ts - length q.1)) same (run_place L R s ts)

abbrev pub last_state : (L : Language) → L.State → List L.Piece → L.State
last_state L s [] = s
last_state L s (p ∷ ps) = last_state L (L.next s p) ps

exactly : (L : Language) (quiet : List TokenKind → Bool) (p : L.Piece) (rest : List TokenKind) (o : Found L) → FullPiece L quiet p rest o → quiet rest ≡ true → o ≡ Some (p, rest)
exactly L quiet p rest None f e = absurd f
exactly L quiet p rest (Some r) f e = ap (λ x. Some x) (f.1 e)

quiet_row : (L : Language) (R : PieceReader L) (s : L.State) (ps : List L.Piece) → InOrder L s ps → R.quiet (spell_pieces L ps ++ []) ≡ true
quiet_row L R s [] o = R.stops
quiet_row L R s (p ∷ ps) o = quiet_pieces L R s p ps [] o

-- pieces in order are read one after another
pub row_full : (L : Language) (R : PieceReader L) (s : L.State) (ps : List L.Piece) → InOrder L s ps → ReadsRow L R.read s (spell_pieces L ps ++ []) ps (last_state L s ps) []
row_full L R s [] o = (refl, refl)
row_full L R s (p ∷ ps) o =
    let more = spell_pieces L ps ++ [] in
    let here : R.read s (L.spelling p ++ more) ≡ Some (p, more) = exactly L R.quiet p more (R.read s (L.spelling p ++ more)) (R.full s p more o.0) (quiet_row L R (L.next s p) ps o.1) in
    (more, ap (λ x. R.read s x) (append_assoc (L.spelling p) (spell_pieces L ps) []) ∙ here, row_full L R (L.next s p) ps o.1)

pub nothing_left : (L : Language) (s : L.State) (o : Found L) → SoundPiece L s [] o → o ≡ None
nothing_left L s None h = refl
nothing_left L s (Some r) h = absurd (omega (arith, h.2))

-- a row that nothing goes on with, and pieces in order that spell all tokens, are one
pub row_one : (L : Language) (R : PieceReader L) (s : L.State) (ts : List TokenKind) (ps qs : List L.Piece) (u : L.State) (rest : List TokenKind) → ReadsRow L R.read s ts ps u rest → R.read u rest ≡ None → InOrder L s qs → ts ≡ spell_pieces L qs → (ps ≡ qs) × (rest ≡ [])
row_one L R s ts ps qs u rest h e o spelled =
    let v = last_state L s qs in
    let all : ts ≡ spell_pieces L qs ++ [] = spelled ∙ sym (append-nil (spell_pieces L qs)) in
    let full : ReadsRow L R.read s ts qs v [] = subst (λ x. ReadsRow L R.read s x qs v []) (sym all) (row_full L R s qs o) in
    let end : R.read v [] ≡ None = nothing_left L v (R.read v []) (R.sound v []) in
    let a : run L R.read (suc (length ts)) s ts ≡ (ps, rest) = row_run L R (suc (length ts)) s ts ps u rest h e (omega arith) in
    let b : run L R.read (suc (length ts)) s ts ≡ (qs, []) = row_run L R (suc (length ts)) s ts qs v [] full end (omega arith) in
    let both : ◌≡◌ {A = List L.Piece × List TokenKind} (ps, rest) (qs, []) = sym a ∙ b in
    (ap (λ (q : List L.Piece × List TokenKind). q.0) both, ap (λ (q : List L.Piece × List TokenKind). q.1) both)
