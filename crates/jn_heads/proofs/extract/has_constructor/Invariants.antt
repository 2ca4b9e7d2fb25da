use Rattle.std.proofs.Common.{◌≡◌, drop}
use Rattle.jn_heads.specs.Extract as spec
use Rattle.jn_heads.proofs.extract.has_constructor.Given as goal

abbrev pub invariant-loop-head : goal.invariant-loop-head
invariant-loop-head l = spec.has_constructor (drop l.head-index l.heads) ≡ spec.has_constructor l.heads
