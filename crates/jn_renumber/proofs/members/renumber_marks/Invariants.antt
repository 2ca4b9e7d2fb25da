use Rattle.jn_renumber.specs.Renumbered.{renumbered_mark}
use Rattle.jn_renumber.proofs.Lists.{Changing}
use Rattle.jn_renumber.proofs.members.renumber_marks.Given as goal

abbrev pub invariant-loop-at : goal.invariant-loop-at
invariant-loop-at l = Changing (renumbered_mark l.numbers) l.initial.modifiers.items l.modifiers.items l.at
