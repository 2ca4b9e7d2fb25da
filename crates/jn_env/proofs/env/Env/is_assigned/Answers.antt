use Rattle.std.proofs.Common.{eqb}
use Rattle.jn_env.proofs.Along.{on_next}
use Rattle.jn_env.proofs.env.Env.is_assigned.Goals as goal

pub loop-i-preserved : goal.loop-i-preserved
loop-i-preserved c =
    on_next (λ k. eqb k c.args.field) c.args.own.now c.args.self.now.assigned c.loop-i.i 0 c.is_assigned_as.result _ c.loop-i-test.true c.is_assigned_as.ensures c.if-is_assigned_as.false c.loop-i.invariant
