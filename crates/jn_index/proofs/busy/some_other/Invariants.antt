use Rattle.std.proofs.Common.{◌≡◌, drop}
use Rattle.jn_points.specs.Members as members
use Rattle.jn_index.specs.Busy as spec
use Rattle.jn_index.proofs.busy.some_other.Given as goal

abbrev pub invariant-loop-number : goal.invariant-loop-number
invariant-loop-number l = members.some_of (spec.is_other l.program l.m l.over) (drop l.number-index l.numbers) ≡ members.some_of (spec.is_other l.program l.m l.over) l.numbers
