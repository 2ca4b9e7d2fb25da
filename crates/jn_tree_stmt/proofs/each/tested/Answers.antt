use Rattle.jn_tree_world.specs.Worlds.{world_of}
use Rattle.jn_tree_world.proofs.Binding.{stop_then, stops}
use Rattle.jn_tree_simple.proofs.Founding.{has_behind, stop_behind}
use Rattle.jn_tree_stmt.proofs.Rounds.{spend_stops, spent_on}
use Rattle.jn_tree_stmt.proofs.each.tested.Goals as goal

pub returns-in_err-left : goal.returns-in_err-left
returns-in_err-left c = λ names turns m r k. stops (λ x. x) _ c.in_err-left.field-0.0 c.from_residual.result (world_of c.args.w.now) c.from_residual.ensures.1 (stop_then c.in_err-left.field-0.0 _ _ _ (c.in_err-left.ensures names turns m r k))

pub returns-in_err-spend : goal.returns-in_err-spend
returns-in_err-spend c = λ names turns m r k. stops (λ x. x) _ c.in_err-spend.field-0.0 c.from_residual-in_err-spend.result (world_of c.spend.new.self) c.from_residual-in_err-spend.ensures.1 (stop_behind c.in_err-spend.field-0.0 _ _ c.in_ok-left.left (world_of c.args.w.now) _ (c.in_ok-left.ensures names turns m r k) (spend_stops c.in_err-spend.field-0.0 _ _ _ c.in_err-spend.ensures))

pub returns : goal.returns
returns c = λ names turns m r k. has_behind _ _ c.in_ok-left.left (world_of c.args.w.now) _ (c.in_ok-left.ensures names turns m r k) (spent_on (world_of c.args.w.now) (world_of c.spend.new.self) _ c.in_ok-spend.ensures)
