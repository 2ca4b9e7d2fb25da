use Rattle.jn_places.specs.PlacedView.{placed_views}
use Rattle.jn_renumber.specs.Renumbered.{renumbered_list}
use Rattle.jn_renumber.proofs.Lists.{Going}
use Rattle.jn_renumber.proofs.expressions.+renumbering.Given as goal

abbrev pub invariant-renumber_list-loop-at : goal.invariant-renumber_list-loop-at
invariant-renumber_list-loop-at l = goal.unvisited-renumber_list-loop-at l × Going l.numbers (renumbered_list l.numbers (placed_views l.initial.expressions.items)) l.expressions.items l.at
