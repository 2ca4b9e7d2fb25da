use Rattle.std.proofs.Common.{◌≡◌, take}
use Rattle.std.specs.Prelude.{filter}
use Rattle.jn_index.specs.Index as spec
use Rattle.jn_index.proofs.constructors.constructors_among.Given as goal

abbrev pub invariant-loop-method : goal.invariant-loop-method
invariant-loop-method l = l.found ≡ filter (spec.is_constructor l.program) (take l.method-index l.methods)
