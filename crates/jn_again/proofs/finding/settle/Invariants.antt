use Rattle.jn_again.specs.Losing.{LoseSent}
use Rattle.jn_again.proofs.finding.settle.Given as goal

abbrev pub invariant-loop : goal.invariant-loop
invariant-loop g l = LoseSent (g.C.Constraints.describe l.edit.old.now) (g.C.Constraints.describe l.edit.new.now) l.edit.before.now l.edit.start.now l.edit.last.now l.edit.changed.now (g.C.Constraints.describe l.edit.old.now).bodies l.lost
