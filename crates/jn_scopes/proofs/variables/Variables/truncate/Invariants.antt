use Rattle.std.proofs.Common.{◌≡◌, length, take}
use Rattle.jn_scopes.proofs.variables.Variables.truncate.Given as goal

abbrev pub invariant-loop-self : goal.invariant-loop-self
invariant-loop-self l = take l.names l.self ≡ take l.names l.initial.self

abbrev pub decreases-loop-self : goal.decreases-loop-self
decreases-loop-self l = length l.self
