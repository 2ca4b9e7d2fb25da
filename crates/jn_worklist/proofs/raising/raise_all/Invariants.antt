use Rattle.std.proofs.Common.{◌≡◌, ℕ, length}
use Rattle.jn_sigtable.specs.Words.{view_of}
use Rattle.jn_worklist.specs.Plans.{IsDue, IsDueBy}
use Rattle.jn_worklist.specs.Runs.{IsRaisingOn}
use Rattle.jn_worklist.proofs.raising.raise_all.Given as goal

abbrev pub invariant-loop-at : goal.invariant-loop-at
invariant-loop-at g l = record {
  raising : IsRaisingOn g.C.Constraints.describe l.task.table.now l.task.body.0 (view_of l.fn.pass) l.pass l.values l.output l.at l.due;
  flags : length l.new ≡ length l.output;
  from : (x : ℕ) → IsDue l.due x → IsDueBy l.task.plan.now l.output l.new 0 x;
}
