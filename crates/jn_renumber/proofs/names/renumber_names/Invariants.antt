use Rattle.jn_renumber.specs.Renumbered.{renumbered_name}
use Rattle.jn_renumber.proofs.Lists.{Changing}
use Rattle.jn_renumber.proofs.names.renumber_names.Given as goal

abbrev pub invariant-loop-at : goal.invariant-loop-at
invariant-loop-at l = Changing (renumbered_name l.numbers) l.initial.names.items l.names.items l.at
