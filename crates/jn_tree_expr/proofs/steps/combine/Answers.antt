use Rattle.jn_tree_world.specs.Worlds.{world_of}
use Rattle.jn_tree_world.proofs.Binding.{bound, stop_then, stops}
use Rattle.jn_tree_expr.proofs.steps.combine.Goals as goal

pub returns-in_err-made : goal.returns-in_err-made
returns-in_err-made c = stops (λ x. x) _ c.in_err-made.field-0.0 c.from_residual.result (world_of c.args.w.now) c.from_residual.ensures.1 (stop_then c.in_err-made.field-0.0 _ _ _ (c.in_err-made.ensures c.args.c.now.program.now (world_of c.args.w.now)))

pub returns : goal.returns
returns c = bound (λ x. x) _ _ c.in_ok-made.made (world_of c.args.w.now) c.write_place.result (world_of c.write_place.new.w) (c.in_ok-made.ensures c.args.c.now.program.now (world_of c.args.w.now)) (rw c.program.ensures at c.write_place.ensures)
