use Rattle.std.proofs.Common.{◌≡◌, ◌≤◌}
use Rattle.jn_sigtable.specs.Machine.{IsAtRest}
use Rattle.jn_sigtable.specs.Words.{view_of, system_of, bound_of, IsPassOf}
use Rattle.jn_workers.specs.Ends.{StillSeen, SeenIn, SeenUpTo, Took}
use Rattle.jn_workers.proofs.working.visit.Given as goal

abbrev pub invariant-loop-place : goal.invariant-loop-place
invariant-loop-place g l = record {
  own : IsPassOf g.C.Constraints.describe l.table l.pass;
  idle : IsAtRest (g.C.Constraints.describe (system_of l.table)) (view_of l.pass);
  share : (view_of l.pass).share ≡ (view_of l.fn.pass).share;
  bound : (view_of l.pass).taken ≤ bound_of g.C.Constraints.describe l.table;
  took : Took l.took (view_of l.fn.pass) (view_of l.pass) (StillSeen (view_of l.fn.pass) (view_of l.pass) × (SeenIn (g.C.Constraints.describe (system_of l.table)) (view_of l.fn.pass) l.dirty l.bits → SeenUpTo (g.C.Constraints.describe (system_of l.table)) (view_of l.pass) l.dirty l.place));
}
