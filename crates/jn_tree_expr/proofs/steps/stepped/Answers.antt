use Rattle.jn_meaning.specs.Expressions as spec
use Rattle.jn_tree_world.specs.Worlds.{world_of}
use Rattle.jn_tree_world.proofs.Binding.{bound}
use Rattle.jn_tree_expr.proofs.steps.stepped.Goals as goal

pub returns : goal.returns
returns c = bound (λ x. x) _ _ c.in_ok-made.made (world_of c.args.w.now) c.write_place.result (world_of c.write_place.new.w) (rw (c.step_operator.ensures, c.one.ensures) at (c.in_ok-made.ensures (world_of c.args.w.now))) (rw c.program.ensures at c.write_place.ensures)
