-- How far a file has been read.
use Rattle.std.specs.Prelude.{◌≡◌, suc, List, length, Bool, not}
use Rattle.jn_trees.specs.declared.token.TokenKind.{TokenKind}
use Rattle.jn_trees.specs.Pieces.{Piece, Around, AtStart, pieces}
use Rattle.jn_parse_stmt_law.specs.Fronts.{starts_else}
use Rattle.jn_parse_decl_law.specs.Runs.{run, ReadsRow}
use Rattle.jn_parse_decl_law.specs.Built.{Built, nothing, add_all}
use Rattle.jn_parse_decl_law.specs.PieceReader.{piece_reader}

-- pieces of a file, read again and again: the pieces, and what is left
unfoldable pub file_run : List TokenKind → List Piece × List TokenKind
file_run ts = run pieces piece_reader (suc (length ts)) AtStart ts

-- reading one piece after another from the start on makes this of the tokens; then this stands around and the rest is left
pub record IsReached (ts : List TokenKind) (built : Built) (around : Around) (rest : List TokenKind) : Type 0 where
  pub row : List Piece
  pub read : ReadsRow pieces piece_reader AtStart ts row around rest
  pub made : built ≡ add_all nothing row

-- no `else` comes first
abbrev pub no_else_first : List TokenKind → Bool
no_else_first ts = not (starts_else ts)
