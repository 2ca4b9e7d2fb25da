use Rattle.jn_quals.proofs.Order.{within_refl, within_antisym, within_trans}
use Rattle.jn_quals.proofs.law.within_is_an_order.Goals as goal

pub returns : goal.returns
returns c = record { reflexive = within_refl; antisymmetric = within_antisym; transitive = within_trans }
