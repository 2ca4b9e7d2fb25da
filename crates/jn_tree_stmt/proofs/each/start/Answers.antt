use Rattle.std.proofs.Common.{refl}
use Rattle.jn_tree_world.specs.Worlds.{world_of}
use Rattle.jn_tree_world.proofs.Binding.{stop_then, stops}
use Rattle.jn_tree_simple.proofs.Founding.{has_behind}
use Rattle.jn_tree_stmt.proofs.each.start.Goals as goal

pub returns-in_err-begin-clause-means : goal.returns-in_err-begin-clause-means
returns-in_err-begin-clause-means g c = λ turns m k. stops (λ u. tt) _ c.in_err-begin.field-0.0 c.from_residual-in_err-begin.result (world_of c.begin.new.w) c.from_residual-in_err-begin.ensures.1 (stop_then c.in_err-begin.field-0.0 _ _ _ (c.in_err-begin.ensures turns m k))

pub returns-clause-means : goal.returns-clause-means
returns-clause-means g c = λ turns m k. has_behind _ _ c.in_ok-begin.field-0 (world_of c.begin.new.w) _ (c.in_ok-begin.ensures turns m k) refl
