use Rattle.jn_renumber.specs.Renumbered.{renumbered_annotation}
use Rattle.jn_renumber.proofs.Lists.{Changing}
use Rattle.jn_renumber.proofs.names.renumber_annotations.Given as goal

abbrev pub invariant-loop-at : goal.invariant-loop-at
invariant-loop-at l = Changing (renumbered_annotation l.numbers) l.initial.annotations.items l.annotations.items l.at
