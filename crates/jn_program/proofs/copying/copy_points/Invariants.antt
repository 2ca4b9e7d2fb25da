use Rattle.std.proofs.Common.{◌≡◌, take}
use Rattle.jn_program.proofs.copying.copy_points.Given as goal

abbrev pub invariant-loop-point : goal.invariant-loop-point
invariant-loop-point l = l.copy.items ≡ take l.point-index l.points
