use Rattle.std.proofs.Common.{sym, ◌∙◌, arith}
use Rattle.jn_unkept.specs.Making.{point_of}
use Rattle.jn_unkept.specs.Unkept.{is_asked}
use Rattle.jn_unkept.proofs.Below.{step_below}
use Rattle.jn_unkept.proofs.stored.last_asked.Goals as goal

pub loop-at-preserved : goal.loop-at-preserved
loop-at-preserved c = step_below (λ k. is_asked c.args.reg (point_of c.args.body.now k)) c.loop-at.at _ (omega (arith, c.loop-at-test.true)) (sym c.is_asked.ensures ∙ c.if-is_asked.false) c.loop-at.invariant
