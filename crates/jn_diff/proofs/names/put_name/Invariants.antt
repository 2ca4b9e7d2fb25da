use Rattle.std.proofs.Common.{◌≡◌, ◌++◌, length, true}
use Rattle.jn_diff.specs.Names.{trimmed}
use Rattle.jn_diff.proofs.names.put_name.Given as goal

abbrev pub invariant-loop-rest : goal.invariant-loop-rest
invariant-loop-rest l = l.text.items ++ trimmed l.fresh l.rest ≡ l.fn.text.items ++ trimmed true l.name

abbrev pub decreases-loop-rest : goal.decreases-loop-rest
decreases-loop-rest l = length l.rest
