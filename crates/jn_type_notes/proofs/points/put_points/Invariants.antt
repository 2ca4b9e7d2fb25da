use Rattle.std.proofs.Common.{◌≡◌, ◌++◌, drop}
use Rattle.jn_type_notes.specs.Mismatched.{points_found}
use Rattle.jn_type_notes.proofs.points.put_points.Given as goal

abbrev pub invariant-loop-point : goal.invariant-loop-point
invariant-loop-point l = l.found ++ points_found l.program l.body (drop l.point-index l.points) ≡ l.fn.found ++ points_found l.program l.body l.points
