use Rattle.jn_tree_world.specs.Worlds.{world_of}
use Rattle.jn_tree_world.proofs.Binding.{bound, stop_then, stops}
use Rattle.jn_tree_simple.proofs.each.holds.Goals as goal

pub returns-in_err-given : goal.returns-in_err-given
returns-in_err-given c = λ names turns m r h. stops (λ x. x) _ c.in_err-given.field-0.0 c.from_residual.result (world_of c.args.w.now) c.from_residual.ensures.1 (stop_then c.in_err-given.field-0.0 _ _ _ (c.in_err-given.ensures names turns m r h))

pub returns : goal.returns
returns c = λ names turns m r h. bound (λ x. x) _ _ c.in_ok-given.given (world_of c.args.w.now) c.truth.result (world_of c.args.w.now) (c.in_ok-given.ensures names turns m r h) (c.truth.ensures (world_of c.args.w.now))
