-- Texts cut at their first separator.
use Rattle.std.proofs.Common.{◌≡◌, ℕ, ◌+◌, ◌<◌, Bool, true, false, List, [], ◌∷◌, ◌++◌, length, take, drop, get_or, Some, None, refl, sym, ap, ◌∙◌, arith, append-nil}
use Rattle.std.specs.Prelude.{cond, eqb}
use Rattle.std.proofs.lemmas.List.{drop_more, take_more}
use Rattle.jn_script.specs.Script.{lines, pieces, put_first, without_empty_end}
use Rattle.jn_script.specs.Cut.{IsFirstCut}

-- bytes put before the first piece
abbrev pub put_all : List ℕ → List (List ℕ) → List (List ℕ)
put_all front [] = front ∷ []
put_all front (piece ∷ pieces) = (front ++ piece) ∷ pieces

no_piece : (separator : ℕ) (text : List ℕ) → pieces separator text ≡ [] → ⊥
no_piece separator [] e = absurd cc
no_piece separator (byte ∷ bytes) e = by (eqb byte separator) (pieces separator bytes) e
  where
    by : (b : Bool) (rest : List (List ℕ)) → cond b ([] ∷ rest) (put_first byte rest) ≡ [] → ⊥
    by true rest e = absurd cc
    by false [] e = absurd cc
    by false (p ∷ ps) e = absurd cc

put_one : (front : List ℕ) (byte : ℕ) (rest : List (List ℕ)) → (rest ≡ [] → ⊥) → put_all front (put_first byte rest) ≡ put_all (front ++ byte ∷ []) rest
put_one front byte [] some = absurd (some refl)
put_one front byte (piece ∷ pieces) some = ap (λ p. p ∷ pieces) (again front)
  where
    again : (front : List ℕ) → front ++ byte ∷ piece ≡ (front ++ byte ∷ []) ++ piece
    again [] = refl
    again (x ∷ xs) = ap (λ ys. x ∷ ys) (again xs)

-- there is some piece
pub some_piece : (separator : ℕ) (text : List ℕ) → (piece : List ℕ) × (rest : List (List ℕ)) × (pieces separator text ≡ piece ∷ rest)
some_piece separator text = by (pieces separator text) (no_piece separator text)
  where
    by : (all : List (List ℕ)) → (all ≡ [] → ⊥) → (piece : List ℕ) × (rest : List (List ℕ)) × (all ≡ piece ∷ rest)
    by [] some = absurd (some refl)
    by (piece ∷ rest) some = (piece, rest, refl)

module _ (separator : ℕ) (text : List ℕ) where
  -- no separator stands before this place
  abbrev pub NoneBefore : ℕ → Type 0
  NoneBefore at = pieces separator text ≡ put_all (take at text) (pieces separator (drop at text))

  pub none_first : NoneBefore 0
  none_first = let p = some_piece separator text in p.2 ∙ ap (put_all []) (sym p.2)

  module _ (at d : ℕ) (lt : at < length text) (none : NoneBefore at) where
    opened : pieces separator text ≡ put_all (take at text) (cond (eqb (get_or text at d) separator) ([] ∷ pieces separator (drop (at + 1) text)) (put_first (get_or text at d) (pieces separator (drop (at + 1) text))))
    opened = none ∙ ap (λ bytes. put_all (take at text) (pieces separator bytes)) (drop_more text at d lt)

    pub cut_here : eqb (get_or text at d) separator ≡ true → IsFirstCut separator text (Some at)
    cut_here e = (lt, opened ∙ ap (λ b. put_all (take at text) (cond b ([] ∷ pieces separator (drop (at + 1) text)) (put_first (get_or text at d) (pieces separator (drop (at + 1) text))))) e ∙ ap (λ p. p ∷ pieces separator (drop (at + 1) text)) (append-nil (take at text)))

    pub cut_later : eqb (get_or text at d) separator ≡ false → NoneBefore (at + 1)
    cut_later e =
        opened
        ∙ ap (λ b. put_all (take at text) (cond b ([] ∷ pieces separator (drop (at + 1) text)) (put_first (get_or text at d) (pieces separator (drop (at + 1) text))))) e
        ∙ put_one (take at text) (get_or text at d) (pieces separator (drop (at + 1) text)) (no_piece separator (drop (at + 1) text))
        ∙ ap (λ front. put_all front (pieces separator (drop (at + 1) text))) (sym (take_more text at d lt))

  pub cut_nowhere : NoneBefore (length text) → IsFirstCut separator text None
  cut_nowhere none = none ∙ whole text
    where
      whole : (xs : List ℕ) → put_all (take (length xs) xs) (pieces separator (drop (length xs) xs)) ≡ xs ∷ []
      whole xs = (λ i. put_all (all xs i) (pieces separator (gone xs i))) ∙ ap (λ p. p ∷ []) (append-nil xs)
        where
          all : (xs : List ℕ) → take (length xs) xs ≡ xs
          all [] = refl
          all (x ∷ xs) = ap (λ ys. x ∷ ys) (all xs)

          gone : (xs : List ℕ) → drop (length xs) xs ≡ []
          gone [] = refl
          gone (x ∷ xs) = gone xs

-- ---- lines

-- the last line
pub lines_last : (text : List ℕ) → 0 < length text → pieces 10 text ≡ text ∷ [] → lines text ≡ text ∷ []
lines_last [] some e = absurd (omega (arith, some))
lines_last (byte ∷ bytes) some e = ap without_empty_end e

-- a line, and those after it
pub lines_more : (text one rest : List ℕ) → pieces 10 text ≡ one ∷ pieces 10 rest → lines text ≡ one ∷ lines rest
lines_more text one rest e =
    let p = some_piece 10 rest in
    ap without_empty_end (e ∙ ap (λ ps. one ∷ ps) p.2) ∙ ap (λ ps. one ∷ without_empty_end ps) (sym p.2)

pub gone_all : (xs : List ℕ) → drop (length xs) xs ≡ []
gone_all [] = refl
gone_all (x ∷ xs) = gone_all xs
