use Rattle.std.proofs.Common.{◌≡◌, length}
use Rattle.jn_trees.specs.Pieces.{kinds}
use Rattle.jn_trees.specs.View.{annotation_names}
use Rattle.jn_parse_stmt_law.specs.Parts.{read_annotations}
use Rattle.jn_parse_stmt.proofs.Runs.{ahead}
use Rattle.jn_parse_stmt.proofs.parts.read_annotations.Given as goal

abbrev pub invariant-annotations : goal.invariant-annotations
invariant-annotations l = read_annotations (kinds l.tokens) ≡ ahead (annotation_names l.annotations.items) (read_annotations (kinds l.left))

abbrev pub decreases-annotations : goal.decreases-annotations
decreases-annotations l = length l.left
