use Rattle.jn_places.specs.PlacedView.{placed_type}
use Rattle.jn_renumber.specs.Renumbered.{renumbered_type}
use Rattle.jn_renumber.proofs.Lists.{Renumbering}
use Rattle.jn_renumber.proofs.files.renumber_types.Given as goal

abbrev pub invariant-loop-at : goal.invariant-loop-at
invariant-loop-at l = Renumbering placed_type (renumbered_type l.numbers) l.initial.types.items l.types.items l.at
