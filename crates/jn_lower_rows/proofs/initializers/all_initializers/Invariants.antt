use Rattle.std.proofs.Common.{◌≡◌, ◌++◌, drop}
use Rattle.jn_places.specs.PlacedView.{placed_members}
use Rattle.jn_lowering.specs.BodyRows as spec
use Rattle.jn_lower_rows.proofs.initializers.all_initializers.Given as goal

abbrev pub invariant-loop-member : goal.invariant-loop-member
invariant-loop-member l = l.rows ++ spec.member_rows l.whole.program.now l.whole.method.0 (placed_members (drop l.member-index l.members)) ≡ l.fn.rows ++ spec.member_rows l.whole.program.now l.whole.method.0 (placed_members l.members)
