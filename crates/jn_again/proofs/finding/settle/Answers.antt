use Rattle.jn_again.proofs.Rounds.{keepable, sent_still}
use Rattle.jn_again.proofs.finding.settle.Goals as goal

pub loop-preserved : goal.loop-preserved
loop-preserved g c = sent_still (g.C.Constraints.describe c.args.edit.now.old.now) (g.C.Constraints.describe c.args.edit.now.new.now) c.args.edit.now.before.now c.args.edit.now.start.now c.args.edit.now.last.now c.args.edit.now.changed.now (g.C.Constraints.describe c.args.edit.now.old.now).bodies c.loop.lost c.round.new.lost c.in_ok-more.ensures.grows c.loop.invariant

pub returns-then-not-more : goal.returns-then-not-more
returns-then-not-more g c = λ e. keepable (g.C.Constraints.describe c.args.edit.now.old.now) (g.C.Constraints.describe c.args.edit.now.new.now) c.args.edit.now.before.now c.args.edit.now.start.now c.args.edit.now.last.now c.args.edit.now.changed.now c.in_ok-more.more c.loop.lost c.round.new.lost c.if-not-more.true c.loop.invariant c.in_ok-more.ensures.grows c.in_ok-more.ensures.still
