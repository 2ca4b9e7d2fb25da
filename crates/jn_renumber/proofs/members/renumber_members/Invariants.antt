use Rattle.jn_places.specs.PlacedView.{placed_member}
use Rattle.jn_renumber.specs.Renumbered.{renumbered_member}
use Rattle.jn_renumber.proofs.Lists.{Renumbering}
use Rattle.jn_renumber.proofs.members.renumber_members.Given as goal

abbrev pub invariant-loop-at : goal.invariant-loop-at
invariant-loop-at l = Renumbering placed_member (renumbered_member l.numbers) l.initial.members.items l.members.items l.at
