use Rattle.jn_tree_world.specs.Worlds.{world_of}
use Rattle.jn_tree_world.proofs.Binding.{stop_then, stops}
use Rattle.jn_tree_simple.proofs.Founding.{has_behind, stop_behind}
use Rattle.jn_tree_stmt.proofs.Rounds.{spend_stops, spent_on}
use Rattle.jn_tree_stmt.proofs.turns.tested.Goals as goal

pub returns-in_err-holds : goal.returns-in_err-holds
returns-in_err-holds g c = record { means = λ turns m k. stops (λ x. x) _ c.in_err-holds.field-0.0 c.from_residual.result (world_of c.holds_in.new.w) c.from_residual.ensures.1 (stop_then c.in_err-holds.field-0.0 _ _ _ (c.in_err-holds.ensures.means turns m k)) }

pub returns-in_err-spend : goal.returns-in_err-spend
returns-in_err-spend g c = record { means = λ turns m k. stops (λ x. x) _ c.in_err-spend.field-0.0 c.from_residual-in_err-spend.result (world_of c.spend.new.self) c.from_residual-in_err-spend.ensures.1 (stop_behind c.in_err-spend.field-0.0 _ _ c.in_ok-holds.holds (world_of c.holds_in.new.w) _ (c.in_ok-holds.ensures.means turns m k) (spend_stops c.in_err-spend.field-0.0 _ _ _ c.in_err-spend.ensures)) }

pub returns : goal.returns
returns g c = record { means = λ turns m k. has_behind _ _ c.in_ok-holds.holds (world_of c.holds_in.new.w) _ (c.in_ok-holds.ensures.means turns m k) (spent_on (world_of c.holds_in.new.w) (world_of c.spend.new.self) _ c.in_ok-spend.ensures) }
