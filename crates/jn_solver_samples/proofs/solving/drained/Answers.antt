use Rattle.std.proofs.Common.{inl, arith}
use Rattle.jn_solver_samples.proofs.AllDue.{all_due}
use Rattle.jn_solver_samples.proofs.solving.drained.Goals as goal

pub drain-requires-clause-each : goal.drain-requires-clause-each
drain-requires-clause-each g c = λ b inside. inl (all_due c.in_ok-dirty.dirty.items c.bodies.result (c.in_ok-dirty.ensures.items_if_clones_equal (λ y e. e)) b (let n = c.bodies.ensures in omega arith))
