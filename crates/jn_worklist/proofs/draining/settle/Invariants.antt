use Rattle.std.proofs.Common.{◌≤◌}
use Rattle.jn_sigtable.specs.System.{ones_in, least, IsLeast}
use Rattle.jn_worklist.specs.Drains.{IsDraining}
use Rattle.jn_worklist.proofs.draining.settle.Given as goal

abbrev pub invariant-loop : goal.invariant-loop
invariant-loop g l =
    IsDraining (g.C.Constraints.describe l.system) l.fn.words l.words l.dirty
    × (l.counter ≤ ones_in (g.C.Constraints.describe l.system).words l.words)
    × IsLeast (g.C.Constraints.describe l.system) l.fn.words (least (g.C.Constraints.describe l.system) l.fn.words)
