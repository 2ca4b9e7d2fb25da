use Rattle.std.proofs.Common.{◌≡◌, length}
use Rattle.jn_trees.specs.Pieces.{kinds}
use Rattle.jn_trees.specs.View.{local_marks}
use Rattle.jn_parse_stmt_law.specs.Parts.{read_marks}
use Rattle.jn_parse_stmt.proofs.Runs.{ahead}
use Rattle.jn_parse_stmt.proofs.parts.read_local_modifiers.Given as goal

abbrev pub invariant-modifiers : goal.invariant-modifiers
invariant-modifiers l = read_marks (kinds l.tokens) ≡ ahead (local_marks l.modifiers.items) (read_marks (kinds l.left))

abbrev pub decreases-modifiers : goal.decreases-modifiers
decreases-modifiers l = length l.left
