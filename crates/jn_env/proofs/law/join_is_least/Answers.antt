use Rattle.jn_env.proofs.Order.{env_join_left, env_join_right, env_join_least}
use Rattle.jn_env.proofs.law.join_is_least.Goals as goal

pub returns : goal.returns
returns c = record { left = env_join_left; right = env_join_right; least = λ a b d s v w. env_join_least a b d v w }
