use Rattle.std.proofs.Common.{◌≡◌, drop}
use Rattle.jn_points.specs.Members.{some_of}
use Rattle.jn_trees.specs.View.{annotation_names}
use Rattle.jn_lsp_actions.specs.Nulls as spec
use Rattle.jn_lsp_actions.proofs.nullable.names_say.Given as goal

abbrev pub invariant-loop-annotation : goal.invariant-loop-annotation
invariant-loop-annotation l = some_of spec.is_nullity (annotation_names l.annotations) ≡ some_of spec.is_nullity (annotation_names (drop l.annotation-index l.annotations))
