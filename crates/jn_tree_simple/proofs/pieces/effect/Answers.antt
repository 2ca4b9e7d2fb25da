use Rattle.std.proofs.Common.{refl}
use Rattle.jn_tree_world.specs.Worlds.{world_of}
use Rattle.jn_tree_world.proofs.Binding.{stop_then, stops}
use Rattle.jn_tree_simple.specs.Standings.{onward_of}
use Rattle.jn_tree_simple.proofs.Founding.{has_behind}
use Rattle.jn_tree_simple.proofs.pieces.effect.Goals as goal

pub returns-in_err-value_in : goal.returns-in_err-value_in
returns-in_err-value_in g c = record { means = λ turns m h. stops onward_of _ c.in_err-value_in.field-0.0 c.from_residual.result (world_of c.value_in.new.w) c.from_residual.ensures.1 (stop_then c.in_err-value_in.field-0.0 _ _ _ (c.in_err-value_in.ensures.means turns m h)) }

pub returns : goal.returns
returns g c = record { means = λ turns m h. has_behind _ _ c.in_ok-value_in.field-0 (world_of c.value_in.new.w) _ (c.in_ok-value_in.ensures.means turns m h) refl }
