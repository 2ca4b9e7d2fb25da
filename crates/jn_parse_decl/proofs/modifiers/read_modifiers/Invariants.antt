use Rattle.std.proofs.Common.{◌≡◌, length}
use Rattle.jn_trees.specs.View.{marks}
use Rattle.jn_trees.specs.Pieces.{kinds}
use Rattle.jn_parse_decl_law.specs.PieceReader.{read_all_marks}
use Rattle.jn_parse_decl.specs.Front.{prepend}
use Rattle.jn_parse_decl.proofs.modifiers.read_modifiers.Given as goal

abbrev pub invariant-modifiers : goal.invariant-modifiers
invariant-modifiers l = read_all_marks (kinds l.tokens) ≡ prepend (marks l.all.items) (read_all_marks (kinds l.left))

abbrev pub decreases-modifiers : goal.decreases-modifiers
decreases-modifiers l = length (kinds l.left)
