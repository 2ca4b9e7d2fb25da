use Rattle.std.proofs.Common.{◌≡◌, ◌++◌, drop}
use Rattle.std.specs.Prelude.{flat_map}
use Rattle.jn_places.specs.PlacedView.{placed_members}
use Rattle.jn_heads.specs.Types as types
use Rattle.jn_heads.specs.Inferred as spec
use Rattle.jn_heads.proofs.marking.members_methods.Given as goal

abbrev pub invariant-loop-member : goal.invariant-loop-member
invariant-loop-member l = l.slots ++ types.methods_slots l.declared (flat_map (spec.method_marks l.infer l.interface) (placed_members (drop l.member-index l.members))) ≡ l.fn.slots ++ types.methods_slots l.declared (flat_map (spec.method_marks l.infer l.interface) (placed_members l.members))
