use Rattle.std.proofs.Common.{◌≡◌, ◌++◌, drop}
use Rattle.std.specs.Prelude.{flat_map}
use Rattle.jn_places.specs.PlacedView.{placed_members}
use Rattle.jn_heads.specs.Extract as spec
use Rattle.jn_heads.proofs.extract.field_heads.Given as goal

abbrev pub invariant-loop-member : goal.invariant-loop-member
invariant-loop-member l = l.heads ++ flat_map (spec.field_heads) (placed_members (drop l.member-index l.members)) ≡ flat_map (spec.field_heads) (placed_members l.members)
