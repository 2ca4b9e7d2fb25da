use Rattle.std.proofs.Common.{◌≡◌, length}
use Rattle.jn_trees.specs.View.{annotation_names}
use Rattle.jn_trees.specs.Pieces.{kinds}
use Rattle.jn_parse_expr_law.specs.Reader.{annotations}
use Rattle.jn_parse_expr.proofs.Annotated.{prepended}
use Rattle.jn_parse_expr.proofs.creation.annotations.Given as goal

-- the annotations so far, and those that are left
abbrev pub invariant-annotations : goal.invariant-annotations
invariant-annotations l = annotations (kinds l.tokens) ≡ prepended (annotation_names l.all.items) (annotations (kinds l.left))

abbrev pub decreases-annotations : goal.decreases-annotations
decreases-annotations l = length l.left
