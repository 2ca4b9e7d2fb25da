use Rattle.std.proofs.Common.{◌≡◌}
use Rattle.jn_transfer.specs.Covered.{numbered}
use Rattle.jn_transfer.proofs.edges.with_numbers.Given as goal

abbrev pub invariant-loop-to : goal.invariant-loop-to
invariant-loop-to l = numbered l.numbered.items ≡ l.yielded
