use Rattle.std.proofs.Common.{refl}
use Rattle.jn_tree_world.specs.Worlds.{world_of}
use Rattle.jn_tree_world.proofs.Binding.{stop_then, stops}
use Rattle.jn_tree_simple.proofs.Founding.{has_behind}
use Rattle.jn_tree_simple.specs.Standings.{flow_of}
use Rattle.jn_tree_stmt.proofs.each.last_test.Goals as goal

pub returns-in_err-holds : goal.returns-in_err-holds
returns-in_err-holds c = λ names turns m r k. stops flow_of _ c.in_err-holds.field-0.0 c.from_residual.result (world_of c.args.w.now) c.from_residual.ensures.1 (stop_then c.in_err-holds.field-0.0 _ _ _ (c.in_err-holds.ensures names turns m r k))

pub returns : goal.returns
returns c = λ names turns m r k. has_behind _ _ c.in_ok-holds.field-0 (world_of c.args.w.now) _ (c.in_ok-holds.ensures names turns m r k) refl
