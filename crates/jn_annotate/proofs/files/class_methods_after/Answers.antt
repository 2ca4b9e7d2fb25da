use Rattle.std.proofs.Common.{ap, ◌∙◌, false}
use Rattle.jn_annotate.proofs.Walking.{class_methods, missing}
use Rattle.jn_annotate.proofs.files.class_methods_after.Goals as goal

pub returns-else-has_constructor : goal.returns-else-has_constructor
returns-else-has_constructor c = c.next_methods.ensures ∙ class_methods c.args.methods.now c.methods_after-rest.result.now _ _ false c.methods_after-rest.ensures (c.has_constructor.ensures ∙ ap missing c.if-has_constructor.false)
