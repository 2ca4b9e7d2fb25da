use Rattle.std.proofs.Common.{◌≡◌, ◌+◌, drop}
use Rattle.jn_classtable.specs.Items as spec
use Rattle.jn_classtable.proofs.counting.with_methods.Given as goal

abbrev pub invariant-loop-head : goal.invariant-loop-head
invariant-loop-head l = l.total + spec.methods_items (drop l.head-index l.heads) ≡ l.fn.total + spec.methods_items l.heads
