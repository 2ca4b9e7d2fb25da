use Rattle.std.proofs.Common.{refl}
use Rattle.jn_meaning.specs.Statements.{Onward}
use Rattle.jn_tree_world.specs.Worlds.{world_of}
use Rattle.jn_tree_world.proofs.Binding.{stop_then, stops}
use Rattle.jn_tree_simple.proofs.Founding.{has_behind}
use Rattle.jn_tree_stmt.specs.Leaving.{left_of}
use Rattle.jn_tree_stmt.proofs.turns.update.Goals as goal

pub returns-in_err-effects : goal.returns-in_err-effects
returns-in_err-effects g c = record { means = λ turns m k. rw c.in_default.is (stops left_of _ c.in_err-effects.field-0.0 c.from_residual.result (world_of c.effects.new.w) c.from_residual.ensures.1 (stop_then c.in_err-effects.field-0.0 _ _ _ (c.in_err-effects.ensures.means turns m k))) }

pub returns : goal.returns
returns g c = record { means = λ turns m k. rw c.in_default.is (has_behind _ _ Onward (world_of c.effects.new.w) _ (c.in_ok-effects.ensures.means turns m k) refl) }
