use Rattle.std.proofs.Common.{◌≡◌, false, drop}
use Rattle.std.specs.Prelude.{flat_map}
use Rattle.jn_heads.specs.Extract.{has_constructor, method_heads}
use Rattle.jn_places.specs.PlacedView.{placed_members}
use Rattle.jn_program.proofs.sources.writes_constructor.Given as goal

abbrev pub invariant-loop-member : goal.invariant-loop-member
invariant-loop-member l = has_constructor (flat_map (method_heads false) (placed_members (drop l.member-index l.members))) ≡ has_constructor (flat_map (method_heads false) (placed_members l.members))
