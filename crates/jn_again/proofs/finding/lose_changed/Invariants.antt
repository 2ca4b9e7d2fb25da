use Rattle.jn_again.specs.Losing.{LoseSent}
use Rattle.jn_again.proofs.finding.lose_changed.Given as goal

abbrev pub invariant-loop-body : goal.invariant-loop-body
invariant-loop-body g l = LoseSent (g.C.Constraints.describe l.edit.old.now) (g.C.Constraints.describe l.edit.new.now) l.edit.before.now l.edit.start.now l.edit.last.now l.edit.changed.now l.body l.lost
