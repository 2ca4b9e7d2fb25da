use Rattle.jn_tree_world.specs.Worlds.{world_of}
use Rattle.jn_tree_world.proofs.Binding.{bound, deref_first, stop_then, stops}
use Rattle.jn_tree_world.proofs.place.checked_length.Goals as goal

pub returns-in_err-not_null : goal.returns-in_err-not_null
returns-in_err-not_null c = rw (deref_first c.args.of.now c.args.at (world_of c.args.w.now)) (stops (λ x. x) _ c.in_err-not_null.field-0.0 c.from_residual.result (world_of c.args.w.now) c.from_residual.ensures.1 (stop_then c.in_err-not_null.field-0.0 _ _ _ (c.in_err-not_null.ensures (world_of c.args.w.now))))

pub returns : goal.returns
returns c = rw (deref_first c.args.of.now c.args.at (world_of c.args.w.now)) (bound (λ x. x) _ _ tt (world_of c.args.w.now) c.read_length.result _ (c.in_ok-not_null.ensures (world_of c.args.w.now)) (c.read_length.ensures))
