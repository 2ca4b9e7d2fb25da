use Rattle.std.proofs.Common.{ℕ, ◌<◌}
use Rattle.jn_again.specs.Losing.{Follows, Grows, Lost}
use Rattle.jn_again.proofs.finding.round.Given as goal

abbrev pub invariant-loop-body : goal.invariant-loop-body
invariant-loop-body g l =
    Grows l.fn.lost l.lost
    × Lost l.any l.fn.lost l.lost ((b : ℕ) → b < l.body → Follows (g.C.Constraints.describe l.edit.old.now) l.edit.start.now l.edit.last.now l.edit.changed.now l.lost b)
