-- Pieces, so many bytes further on.
use Rattle.std.specs.Prelude.{ℕ, ◌+◌, List, [], ◌∷◌}
use Rattle.jn_lexer.specs.Pieces.{Piece}

-- a piece, so many bytes further on
abbrev pub shifted_piece : ℕ → Piece → Piece
shifted_piece by p = record { lexeme = p.lexeme; from = by + p.from; to = by + p.to }

-- each of them
abbrev pub shifted : ℕ → List Piece → List Piece
shifted by [] = []
shifted by (p ∷ ps) = shifted_piece by p ∷ shifted by ps
