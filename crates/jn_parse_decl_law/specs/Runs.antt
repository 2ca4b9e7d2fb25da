-- Pieces read one after another.
use Rattle.std.specs.Prelude.{◌≡◌, ℕ, zero, suc, ◌≤◌, ◌<◌, List, [], ◌∷◌, ◌++◌, length, Bool, true, Option, Some, None}
use Rattle.jn_trees.specs.declared.token.TokenKind.{TokenKind}
use Rattle.jn_trees.specs.Pieces.{Language}

-- a piece and the tokens after it, or none
abbrev pub Found : Language → Type 0
Found L = Option (L.Piece × List TokenKind)

-- what is read may stand there, spells the front, and has tokens
abbrev pub SoundPiece : (L : Language) → L.State → List TokenKind → Found L → Type 0
SoundPiece L s ts None = Unit {0}
SoundPiece L s ts (Some r) = (ts ≡ L.spelling r.0 ++ r.1) × L.May s r.0 × (length r.1 < length ts)

-- the piece is read, or one that goes further; and just it, where quiet tokens follow
abbrev pub FullPiece : (L : Language) → (List TokenKind → Bool) → L.Piece → List TokenKind → Found L → Type 0
FullPiece L quiet p rest None = ⊥
FullPiece L quiet p rest (Some r) = (length r.1 ≤ length rest) × (quiet rest ≡ true → r ≡ (p, rest))

-- reading again and again, at most n times: the pieces, and what is left
abbrev pub run : (L : Language) → (L.State → List TokenKind → Found L) → ℕ → L.State → List TokenKind → List L.Piece × List TokenKind
run L read zero s ts = ([], ts)
run L read (suc n) s ts = elim (read s ts) as (λ _. List L.Piece × List TokenKind) [ None ↦ ([], ts) | Some r ↦ (let q = run L read n (L.next s r.0) r.1 in (r.0 ∷ q.0, q.1)) ]

-- these pieces are read one after another, and then u stands around and the rest is left
abbrev pub ReadsRow : (L : Language) → (L.State → List TokenKind → Found L) → L.State → List TokenKind → List L.Piece → L.State → List TokenKind → Type 0
ReadsRow L read s ts [] u rest = (s ≡ u) × (ts ≡ rest)
ReadsRow L read s ts (p ∷ ps) u rest = (us : List TokenKind) × (read s ts ≡ Some (p, us)) × ReadsRow L read (L.next s p) us ps u rest
