use Rattle.std.proofs.Common.{ℕ}
use Rattle.jn_sigtable.specs.Words.{view_of}
use Rattle.jn_worklist.specs.Plans.{IsDue, IsDueBy}
use Rattle.jn_worklist.specs.Runs.{IsMarkingOn}
use Rattle.jn_worklist.proofs.marking.mark_due.Given as goal

abbrev pub invariant-loop-at : goal.invariant-loop-at
invariant-loop-at g l = record {
  marking : IsMarkingOn g.C.Constraints.describe l.task.table.now l.task.body.0 (view_of l.fn.pass) l.pass l.due;
  from : (x : ℕ) → IsDue l.due x → IsDueBy l.task.plan.now l.output l.new l.at x;
}
