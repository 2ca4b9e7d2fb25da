use Rattle.std.proofs.Common.{◌≡◌, ℕ, refl, ◌∙◌, subst, arith}
use Rattle.jn_resume.specs.Open.{AreLeftOpen}
use Rattle.jn_resume.proofs.AtRest.{open_more, open_none}
use Rattle.jn_resume.proofs.closing.mark_all_open.Goals as goal

pub loop-body-init : goal.loop-body-init
loop-body-init g c = (refl, open_none (g.C.Constraints.describe c.args.system.now) c.args.words.now _ c.args.left.now)

pub loop-body-preserved : goal.loop-body-preserved
loop-body-preserved g c =
    let f = c.in_ok-open.ensures in (
      f.count ∙ c.loop-body.invariant.0,
      open_more (g.C.Constraints.describe c.args.system.now) c.args.words.now c.loop-body.any c.in_ok-open.open c.loop-body.left c.mark_open.new.left c.loop-body.body f.kept f.open c.loop-body.invariant.1,
    )

pub returns-clause-open : goal.returns-clause-open
returns-clause-open g c =
    let all : c.loop-body.body ≡ (g.C.Constraints.describe c.args.system.now).bodies = let t = c.loop-body-test.false in let l = c.bodies-body-end.ensures in let a = c.loop-body.auto.body-end in omega arith in
    subst (λ (n : ℕ). AreLeftOpen (g.C.Constraints.describe c.args.system.now) c.args.words.now c.loop-body.left c.loop-body.any n) all c.loop-body.invariant.1
