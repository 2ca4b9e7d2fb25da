use Rattle.std.proofs.Common.{◌≡◌, length}
use Rattle.jn_trees.specs.Pieces.{kinds}
use Rattle.jn_trees.specs.View.{declarator_views}
use Rattle.jn_parse_expr_law.specs.Reader.{reader}
use Rattle.jn_parse_stmt_law.specs.Parts.{all_declarators}
use Rattle.jn_parse_stmt.proofs.Runs.{Declaring}
use Rattle.jn_parse_stmt.proofs.parts.more_declarators.Given as goal

abbrev pub invariant-declarators : goal.invariant-declarators
invariant-declarators l = Declaring (reader l.depth).whole (declarator_views l.declarators.items) (kinds l.left) (all_declarators (reader l.depth).whole (kinds l.tokens))

abbrev pub decreases-declarators : goal.decreases-declarators
decreases-declarators l = length l.left
