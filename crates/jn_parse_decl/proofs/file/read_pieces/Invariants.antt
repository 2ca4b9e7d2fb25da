use Rattle.std.proofs.Common.{length}
use Rattle.jn_trees.specs.Pieces.{kinds}
use Rattle.jn_parse_decl_law.specs.Progress.{IsReached}
use Rattle.jn_parse_decl.specs.Seen.{built_view, around_view}
use Rattle.jn_parse_decl.proofs.file.read_pieces.Given as goal

abbrev pub invariant-pieces : goal.invariant-pieces
invariant-pieces g l = IsReached (kinds l.tokens) (built_view l.built) (around_view l.around) (kinds l.left)

abbrev pub decreases-pieces : goal.decreases-pieces
decreases-pieces g l = length (kinds l.left)
