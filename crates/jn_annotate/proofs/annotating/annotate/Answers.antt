use Rattle.jn_annotate.proofs.Texts.{chosen_many}
use Rattle.jn_annotate.proofs.annotating.annotate.Goals as goal

pub annotate_said-requires-clause-slots : goal.annotate_said-requires-clause-slots
annotate_said-requires-clause-slots c = chosen_many c.args.terse c.args.program.now c.args.sig.now c.in-Ok.said.slots c.in-Ok.ensures c.requires.slots
