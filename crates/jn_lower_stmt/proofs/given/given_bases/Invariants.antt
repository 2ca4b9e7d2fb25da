use Rattle.std.proofs.Common.{◌≡◌, ◌++◌, take}
use Rattle.jn_lower_stmt.proofs.given.given_bases.Given as goal

abbrev pub invariant-loop-base : goal.invariant-loop-base
invariant-loop-base l = l.bases.items ≡ l.initial.bases.items ++ take l.base-index l.params
