use Rattle.jn_scopes.proofs.Finding.{Looking}
use Rattle.jn_scopes.proofs.variables.Variables.find.Given as goal

abbrev pub invariant-loop-at : goal.invariant-loop-at
invariant-loop-at l = Looking l.self-inside.items.items l.name.0 l.at

abbrev pub decreases-loop-at : goal.decreases-loop-at
decreases-loop-at l = l.at
