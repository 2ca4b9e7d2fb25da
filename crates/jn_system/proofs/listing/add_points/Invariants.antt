use Rattle.std.proofs.Common.{List, drop}
use Rattle.jn_base.specs.declared.number.WordNo.{WordNo}
use Rattle.jn_inference_law.specs.Reading.{points_reads}
use Rattle.jn_system.specs.ReadLists.{Adds}
use Rattle.jn_system.proofs.listing.add_points.Given as goal

abbrev pub invariant-loop-point : goal.invariant-loop-point
invariant-loop-point l = (last : List WordNo) → Adds l.count (points_reads l.program (drop l.point-index l.points)) l.list.items last → Adds l.count (points_reads l.program l.points) l.fn.list.items last
