use Rattle.std.proofs.Common.{◌≡◌, drop}
use Rattle.jn_trees.specs.View.{annotation_names, local_marks}
use Rattle.jn_parse_decl_law.specs.PieceReader.{annotation_names_of}
use Rattle.jn_parse_decl.proofs.Rows.{with_names}
use Rattle.jn_parse_decl.proofs.parameters.annotations_of.Given as goal

abbrev pub invariant-loop-modifier : goal.invariant-loop-modifier
invariant-loop-modifier l = with_names (annotation_names l.all.items) (annotation_names_of (local_marks (drop l.modifier-index l.modifiers))) ≡ annotation_names_of (local_marks l.modifiers)
