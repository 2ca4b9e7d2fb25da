use Rattle.std.proofs.Common.{◌≡◌, arith}
use Rattle.jn_again.proofs.Gone.{grows_on, grows_self}
use Rattle.jn_again.proofs.Rounds.{follow_all, follow_more, follow_none}
use Rattle.jn_again.proofs.finding.round.Goals as goal

pub loop-body-init : goal.loop-body-init
loop-body-init g c = (grows_self c.args.lost.now, follow_none (g.C.Constraints.describe c.args.edit.now.old.now) (g.C.Constraints.describe c.args.edit.now.new.now) c.args.edit.now.before.now c.args.edit.now.start.now c.args.edit.now.last.now c.args.edit.now.changed.now c.args.lost.now)

pub loop-body-preserved : goal.loop-body-preserved
loop-body-preserved g c =
    let f = c.in_ok-more.ensures in (
      grows_on c.args.lost.now c.loop-body.lost c.follow.new.lost c.loop-body.invariant.0 f.grows,
      follow_more (g.C.Constraints.describe c.args.edit.now.old.now) (g.C.Constraints.describe c.args.edit.now.new.now) c.args.edit.now.before.now c.args.edit.now.start.now c.args.edit.now.last.now c.args.edit.now.changed.now c.loop-body.any c.in_ok-more.more c.args.lost.now c.loop-body.lost c.follow.new.lost c.loop-body.body c.loop-body.invariant.1 f.still,
    )

pub returns-clause-grows : goal.returns-clause-grows
returns-clause-grows g c = c.loop-body.invariant.0

pub returns-clause-still : goal.returns-clause-still
returns-clause-still g c =
    let all : c.loop-body.body ≡ (g.C.Constraints.describe c.args.edit.now.old.now).bodies = let t = c.loop-body-test.false in let l = c.bodies-body-end.ensures in let a = c.loop-body.auto.body-end in omega arith in
    follow_all (g.C.Constraints.describe c.args.edit.now.old.now) (g.C.Constraints.describe c.args.edit.now.new.now) c.args.edit.now.before.now c.args.edit.now.start.now c.args.edit.now.last.now c.args.edit.now.changed.now c.loop-body.any c.args.lost.now c.loop-body.lost c.loop-body.body (g.C.Constraints.describe c.args.edit.now.old.now).bodies all c.loop-body.invariant.1
