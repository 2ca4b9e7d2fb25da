use Rattle.std.proofs.Common.{◌≡◌, take}
use Rattle.std.specs.Prelude.{map, filter}
use Rattle.jn_index.specs.Index as spec
use Rattle.jn_index.proofs.constructors.constructors.Given as goal

abbrev pub invariant-loop-methods : goal.invariant-loop-methods
invariant-loop-methods l = l.lists.items ≡ map (filter (spec.is_constructor l.program)) (take l.methods-index l.own)
