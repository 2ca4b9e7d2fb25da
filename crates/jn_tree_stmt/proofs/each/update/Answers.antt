use Rattle.std.proofs.Common.{refl}
use Rattle.jn_meaning.specs.Statements.{Onward}
use Rattle.jn_tree_world.specs.Worlds.{world_of}
use Rattle.jn_tree_world.proofs.Binding.{stop_then, stops}
use Rattle.jn_tree_simple.proofs.Founding.{has_behind}
use Rattle.jn_tree_stmt.specs.Leaving.{left_of}
use Rattle.jn_tree_stmt.proofs.each.update.Goals as goal

pub returns-in_err-move_on : goal.returns-in_err-move_on
returns-in_err-move_on c = λ names turns m r k. rw c.in_default.is (stops left_of _ c.in_err-move_on.field-0.0 c.from_residual.result (world_of c.move_on.new.w) c.from_residual.ensures.1 (stop_then c.in_err-move_on.field-0.0 _ _ _ (stop_then c.in_err-move_on.field-0.0 _ _ _ (c.in_err-move_on.ensures names turns m r k))))

pub returns : goal.returns
returns c = λ names turns m r k. rw c.in_default.is (has_behind _ _ Onward (world_of c.move_on.new.w) _ (has_behind _ _ c.in_ok-move_on.field-0 (world_of c.move_on.new.w) _ (c.in_ok-move_on.ensures names turns m r k) refl) refl)
