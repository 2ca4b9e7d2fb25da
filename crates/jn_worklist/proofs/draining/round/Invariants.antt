use Rattle.std.proofs.Common.{ℕ, ◌<◌}
use Rattle.jn_worklist.specs.Plans.{IsDue}
use Rattle.jn_worklist.specs.Drains.{IsDraining, Moved}
use Rattle.jn_worklist.proofs.draining.round.Given as goal

abbrev pub invariant-loop-body : goal.invariant-loop-body
invariant-loop-body g l =
    ((start : _) → IsDraining (g.C.Constraints.describe l.system) start l.fn.words l.fn.dirty → IsDraining (g.C.Constraints.describe l.system) start l.words l.dirty)
    × Moved l.raised (g.C.Constraints.describe l.system) l.fn.words l.words ((x : ℕ) → x < l.body → IsDue l.dirty x → ⊥)
