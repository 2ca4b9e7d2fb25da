use Rattle.jn_places.specs.PlacedView.{placed_statements}
use Rattle.jn_renumber.specs.Renumbered.{renumbered_statements}
use Rattle.jn_renumber.proofs.Lists.{GoingOn}
use Rattle.jn_renumber.proofs.statements.+statements.Given as goal

abbrev pub invariant-renumber_statements-loop-at : goal.invariant-renumber_statements-loop-at
invariant-renumber_statements-loop-at l = goal.unvisited-renumber_statements-loop-at l × GoingOn l.numbers (renumbered_statements l.numbers (placed_statements l.initial.statements.items)) l.statements.items l.at
