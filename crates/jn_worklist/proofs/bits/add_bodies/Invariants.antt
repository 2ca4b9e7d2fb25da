use Rattle.std.proofs.Common.{◌≡◌, ◌⊎◌, ◌↔◌, ℕ, length, take}
use Rattle.jn_worklist.specs.Plans.{IsDue, Lists}
use Rattle.jn_worklist.proofs.bits.add_bodies.Given as goal

abbrev pub invariant-loop-at : goal.invariant-loop-at
invariant-loop-at l =
    (length l.due ≡ length l.fn.due)
    × ((x : ℕ) → IsDue l.due x ↔ (IsDue l.fn.due x ⊎ Lists (take l.at l.bodies) x))
