use Rattle.std.proofs.Common.{◌≡◌}
use Rattle.jn_worklist.specs.Drains.{IsDrainingBut, IsWithinBody, Moved}
use Rattle.jn_worklist.proofs.draining.run.Given as goal

abbrev pub invariant-loop-at : goal.invariant-loop-at
invariant-loop-at g l =
    ((start : _) → IsDrainingBut (g.C.Constraints.describe l.system) start l.fn.body.0 l.fn.words l.fn.dirty
    → IsWithinBody (g.C.Constraints.describe l.system) start l.fn.body.0 l.fn.words l.output.items l.at l.words l.dirty)
    × Moved l.raised (g.C.Constraints.describe l.system) l.fn.words l.words (l.dirty ≡ l.fn.dirty)
