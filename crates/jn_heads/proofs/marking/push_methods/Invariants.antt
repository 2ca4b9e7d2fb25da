use Rattle.std.proofs.Common.{◌≡◌, ◌++◌, map, drop}
use Rattle.jn_heads.specs.Types as types
use Rattle.jn_heads.specs.Inferred as spec
use Rattle.jn_heads.proofs.marking.push_methods.Given as goal

abbrev pub invariant-loop-head : goal.invariant-loop-head
invariant-loop-head l = l.slots ++ types.methods_slots l.declared (map (spec.mark_method l.mark) (drop l.head-index l.heads)) ≡ l.fn.slots ++ types.methods_slots l.declared (map (spec.mark_method l.mark) l.heads)
