use Rattle.std.proofs.Common.{◌≡◌, length}
use Rattle.jn_trees.specs.View.{identifier_names}
use Rattle.jn_trees.specs.Pieces.{kinds}
use Rattle.jn_parse_decl_law.specs.PieceReader.{read_dots}
use Rattle.jn_parse_decl.specs.Front.{prepend}
use Rattle.jn_parse_decl.proofs.names.dotted_names.Given as goal

abbrev pub invariant-names : goal.invariant-names
invariant-names l = read_dots (kinds l.tokens) ≡ prepend (identifier_names l.all.items) (read_dots (kinds l.left))

abbrev pub decreases-names : goal.decreases-names
decreases-names l = length (kinds l.left)
