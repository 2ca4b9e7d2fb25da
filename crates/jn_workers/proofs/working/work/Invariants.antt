use Rattle.std.proofs.Common.{◌≡◌, ◌-◌}
use Rattle.jn_sigtable.specs.Machine.{IsAtRest}
use Rattle.jn_sigtable.specs.Words.{view_of, system_of, bound_of, IsPassOf}
use Rattle.jn_workers.proofs.working.work.Given as goal

abbrev pub invariant-loop-room : goal.invariant-loop-room
invariant-loop-room g l = record {
  own : IsPassOf g.C.Constraints.describe l.table l.pass;
  idle : IsAtRest (g.C.Constraints.describe (system_of l.table)) (view_of l.pass);
  share : (view_of l.pass).share ≡ (view_of l.fn.pass).share;
}

abbrev pub decreases-loop-room : goal.decreases-loop-room
decreases-loop-room g l = bound_of g.C.Constraints.describe l.table - (view_of l.pass).taken
