use Rattle.std.proofs.Common.{◌-◌, ◌≡◌, ◌≤◌, ◌<◌, ◌+◌, ◌^◌, length, ℕ, ◌*◌}
use Rattle.jn_diag.specs.Sweep.{IsPosition}
use Rattle.jn_diag.proofs.Sweeping.{line_longer}
use Rattle.jn_diag.proofs.sweep.swept.Given as goal

abbrev pub invariant-loop-position : goal.invariant-loop-position
invariant-loop-position l = IsPosition l.text l.position × (l.position.before ≤ l.to)

abbrev pub decreases-loop-position : goal.decreases-loop-position
decreases-loop-position l = l.to - l.position.before
