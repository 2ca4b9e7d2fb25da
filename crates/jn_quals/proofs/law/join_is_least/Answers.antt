use Rattle.jn_quals.proofs.Order.{within_join_left, within_join_right, within_join_least}
use Rattle.jn_quals.proofs.law.join_is_least.Goals as goal

pub returns : goal.returns
returns c = record { left = within_join_left; right = within_join_right; least = within_join_least }
