use Rattle.jn_tree_world.specs.Worlds.{world_of}
use Rattle.jn_tree_world.proofs.Binding.{stops}
use Rattle.jn_tree_simple.specs.Standings.{flow_of}
use Rattle.jn_tree_stmt.proofs.simple.expression.Goals as goal

pub returns-in_err-effect : goal.returns-in_err-effect
returns-in_err-effect g c = record { means = λ turns m k. stops flow_of _ c.in_err-effect.field-0.0 c.from_residual.result (world_of c.effect.new.w) c.from_residual.ensures.1 (c.in_err-effect.ensures.means turns m k) }
