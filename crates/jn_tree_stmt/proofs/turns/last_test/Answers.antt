use Rattle.std.proofs.Common.{refl}
use Rattle.jn_tree_world.specs.Worlds.{world_of}
use Rattle.jn_tree_world.proofs.Binding.{stop_then, stops}
use Rattle.jn_tree_simple.proofs.Founding.{has_behind}
use Rattle.jn_tree_simple.specs.Standings.{flow_of}
use Rattle.jn_tree_stmt.proofs.turns.last_test.Goals as goal

pub returns-in_err-holds_in : goal.returns-in_err-holds_in
returns-in_err-holds_in g c = record { means = λ turns m k. stops flow_of _ c.in_err-holds_in.field-0.0 c.from_residual.result (world_of c.holds_in.new.w) c.from_residual.ensures.1 (stop_then c.in_err-holds_in.field-0.0 _ _ _ (c.in_err-holds_in.ensures.means turns m k)) }

pub returns : goal.returns
returns g c = record { means = λ turns m k. has_behind _ _ c.in_ok-holds_in.field-0 (world_of c.holds_in.new.w) _ (c.in_ok-holds_in.ensures.means turns m k) refl }
