use Rattle.std.proofs.Common.{take}
use Rattle.jn_origins.specs.Targets.{Added, all_targets}
use Rattle.jn_origins.proofs.senders.add_points.Given as goal

abbrev pub invariant-loop-point : goal.invariant-loop-point
invariant-loop-point l = Added l.program l.body.0 (all_targets l.program l.body.0 (take l.point-index l.points)) l.fn.lists.items l.lists.items
