use Rattle.jn_places.specs.PlacedView.{placed_parameter}
use Rattle.jn_renumber.specs.Renumbered.{renumbered_parameter}
use Rattle.jn_renumber.proofs.Lists.{Renumbering}
use Rattle.jn_renumber.proofs.members.renumber_parameters.Given as goal

abbrev pub invariant-loop-at : goal.invariant-loop-at
invariant-loop-at l = Renumbering placed_parameter (renumbered_parameter l.numbers) l.initial.parameters.items l.parameters.items l.at
