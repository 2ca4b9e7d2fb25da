use Rattle.std.proofs.Common.{◌≡◌, ◌<◌, ◌≤◌}
use Rattle.jn_sigtable.specs.Machine.{IsAtRest}
use Rattle.jn_sigtable.specs.Words.{view_of, system_of, bound_of, IsPassOf}
use Rattle.jn_workers.specs.Ends.{SeenBelow, Took}
use Rattle.jn_workers.proofs.working.round.Given as goal

abbrev pub invariant-loop-word : goal.invariant-loop-word
invariant-loop-word g l = record {
  own : IsPassOf g.C.Constraints.describe l.table l.pass;
  idle : IsAtRest (g.C.Constraints.describe (system_of l.table)) (view_of l.pass);
  share : (view_of l.pass).share ≡ (view_of l.fn.pass).share;
  bound : 0 < l.word → (view_of l.pass).taken ≤ bound_of g.C.Constraints.describe l.table;
  took : Took l.took (view_of l.fn.pass) (view_of l.pass) (SeenBelow (g.C.Constraints.describe (system_of l.table)) (view_of l.pass) l.word);
}
