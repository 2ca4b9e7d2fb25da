use Rattle.std.proofs.Common.{◌≡◌, ℕ, subst, arith}
use Rattle.jn_again.specs.Losing.{LoseSent}
use Rattle.jn_again.proofs.Rounds.{sent_more}
use Rattle.jn_again.proofs.finding.lose_changed.Goals as goal

pub loop-body-preserved : goal.loop-body-preserved
loop-body-preserved g c = sent_more (g.C.Constraints.describe c.args.edit.now.old.now) (g.C.Constraints.describe c.args.edit.now.new.now) c.args.edit.now.before.now c.args.edit.now.start.now c.args.edit.now.last.now c.args.edit.now.changed.now c.loop-body.body c.loop-body.lost c.lose_sent.new.lost c.in_ok-lose_sent.ensures.grows c.in_ok-lose_sent.ensures.sent c.loop-body.invariant

pub returns : goal.returns
returns g c =
    let all : c.loop-body.body ≡ (g.C.Constraints.describe c.args.edit.now.old.now).bodies = let t = c.loop-body-test.false in let l = c.bodies-body-end.ensures in let a = c.loop-body.auto.body-end in omega arith in
    subst (λ (n : ℕ). LoseSent (g.C.Constraints.describe c.args.edit.now.old.now) (g.C.Constraints.describe c.args.edit.now.new.now) c.args.edit.now.before.now c.args.edit.now.start.now c.args.edit.now.last.now c.args.edit.now.changed.now n c.loop-body.lost) all c.loop-body.invariant
