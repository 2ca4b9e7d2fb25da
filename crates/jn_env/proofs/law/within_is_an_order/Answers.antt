use Rattle.jn_env.proofs.Order.{env_refl, env_trans}
use Rattle.jn_env.proofs.Weight.{env_antisym}
use Rattle.jn_env.proofs.law.within_is_an_order.Goals as goal

pub returns : goal.returns
returns c = record { reflexive = env_refl; antisymmetric = env_antisym; transitive = env_trans }
