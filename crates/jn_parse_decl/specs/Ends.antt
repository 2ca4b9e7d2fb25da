-- Where the pieces of a file end.
use Rattle.std.specs.Prelude.{◌≡◌, ℕ, List, None}
use Rattle.jn_base.specs.declared.refusal.Fail.{Fail}
use Rattle.jn_base.specs.declared.refusal.Fail.TheVariants.{Refused, OutOfMemory}
use Rattle.jn_trees.specs.declared.token.TokenKind.{TokenKind}
use Rattle.jn_trees.specs.Trees.{SourceTree}
use Rattle.jn_trees.specs.Spelling.{spell_file}
use Rattle.jn_trees.specs.WellFormed.{GoodFile}
use Rattle.jn_trees.specs.Pieces.{Around, AtStart, pieces, IsPlace}
use Rattle.jn_parse_decl_law.specs.Built.{Built}
use Rattle.jn_parse_decl_law.specs.PieceReader.{piece_reader}
use Rattle.jn_parse_decl_law.specs.Progress.{IsReached}

-- pieces read in turn build this, and before the rest stands no piece more
pub record EndsAt (ts : List TokenKind) (built : Built) (rest : List TokenKind) : Type 0 where
  pub around : Around
  pub reached : IsReached ts built around rest
  pub stuck : piece_reader around rest ≡ None

-- the tokens spell this well-formed file
abbrev pub IsWhole : List TokenKind → SourceTree → Type 0
IsWhole ts tree = GoodFile tree × (ts ≡ spell_file tree)

-- they spell none, and pieces end at this place
pub record NoFile (ts : List TokenKind) (place : ℕ) : Type 0 where
  pub no_tree : (tree : SourceTree) → GoodFile tree → ts ≡ spell_file tree → ⊥
  pub ends : IsPlace pieces AtStart ts place

-- there was no memory, or pieces end at the place that is given
abbrev pub NoFileAt : List TokenKind → Fail ℕ → Type 0
NoFileAt ts (Refused place) = NoFile ts place
NoFileAt ts OutOfMemory = Unit {0}
