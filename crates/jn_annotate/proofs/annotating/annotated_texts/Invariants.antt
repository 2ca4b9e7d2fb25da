use Rattle.std.proofs.Common.{◌≡◌, ◌++◌, drop}
use Rattle.std.specs.Prelude.{map}
use Rattle.jn_trees.specs.View.{file_view}
use Rattle.jn_annotate.specs.Annotated.{annotated_from}
use Rattle.jn_annotate.proofs.annotating.annotated_texts.Given as goal

abbrev pub invariant-loop-text : goal.invariant-loop-text
invariant-loop-text l = l.new.items ++ annotated_from l.imports l.said.slots l.sig (drop l.text-index l.texts) l.tokens (map file_view l.trees) l.fields l.methods ≡ annotated_from l.imports l.said.slots l.sig l.texts l.fn.tokens (map file_view l.fn.trees) l.program.fields l.fn.methods
