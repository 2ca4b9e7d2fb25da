use Rattle.std.proofs.Common.{◌≡◌, ◌+◌, drop}
use Rattle.jn_classtable.specs.Items as spec
use Rattle.jn_classtable.proofs.counting.items.Given as goal

abbrev pub invariant-loop-head : goal.invariant-loop-head
invariant-loop-head l = l.total + spec.items (drop l.head-index l.heads) ≡ spec.items l.heads
