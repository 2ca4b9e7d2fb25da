use Rattle.std.proofs.Common.{◌≡◌, drop}
use Rattle.jn_points.specs.Members as members
use Rattle.jn_index.specs.Busy as spec
use Rattle.jn_index.proofs.busy.some_busy.Given as goal

abbrev pub invariant-loop-k : goal.invariant-loop-k
invariant-loop-k l = members.some_of (spec.is_busy_method l.program l.named) (drop l.k-index l.methods) ≡ members.some_of (spec.is_busy_method l.program l.named) l.methods
