use Rattle.std.proofs.Common.{ap, ◌∙◌, add-one, arith}
use Rattle.std.specs.Prelude.{slice_set}
use Rattle.jn_env.proofs.Along.{over_step, over_end}
use Rattle.jn_env.proofs.env.Env.give.Goals as goal

pub loop-i-preserved : goal.loop-i-preserved
loop-i-preserved c =
    let given = c.args.quals.now in
    let i = c.loop-i.i in
    let q = c.index-quals-i.result in
    record {
      quals = rw add-one (c.set_at.ensures.quals ∙ ap (λ qs. slice_set qs i q) c.loop-i.invariant.quals ∙ over_step given c.args.self.now.quals i q c.loop-i-test.true c.index-quals-i.is);
      facts = c.set_at.ensures.facts ∙ c.loop-i.invariant.facts;
      assigned = c.set_at.ensures.assigned ∙ c.loop-i.invariant.assigned;
    }

pub returns-clause-quals : goal.returns-clause-quals
returns-clause-quals c = c.loop-i.invariant.quals ∙ over_end c.args.quals.now c.args.self.now.quals c.loop-i.i (omega (arith, c.loop-i-test.false))
