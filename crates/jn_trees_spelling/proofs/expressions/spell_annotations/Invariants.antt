use Rattle.std.proofs.Common.{◌≡◌, ◌++◌, drop}
use Rattle.jn_trees.specs.Spelling.{spell_annotations}
use Rattle.jn_trees.specs.View.{annotation_names}
use Rattle.jn_trees_spelling.proofs.expressions.spell_annotations.Given as goal

abbrev pub invariant-loop-annotation : goal.invariant-loop-annotation
invariant-loop-annotation l = l.kinds.items ++ spell_annotations (annotation_names (drop l.annotation-index l.annotations)) ≡ l.fn.kinds.items ++ spell_annotations (annotation_names l.annotations)
