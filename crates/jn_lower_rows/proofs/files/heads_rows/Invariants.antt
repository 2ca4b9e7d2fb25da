use Rattle.std.proofs.Common.{◌≡◌, ◌++◌, drop}
use Rattle.jn_lowering.specs.FileRows as spec
use Rattle.jn_places.specs.PlacedView.{placed_members}
use Rattle.jn_lower_rows.proofs.files.heads_rows.Given as goal

abbrev pub invariant-loop-member : goal.invariant-loop-member
invariant-loop-member l = l.rows ++ spec.heads_rows l.interface (placed_members (drop l.member-index l.members)) ≡ l.fn.rows ++ spec.heads_rows l.interface (placed_members l.members)
