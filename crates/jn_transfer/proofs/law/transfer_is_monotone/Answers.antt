use Rattle.jn_transfer.proofs.Monotone.{edge_above}
use Rattle.jn_transfer.proofs.law.transfer_is_monotone.Goals as goal

pub returns : goal.returns
returns c = edge_above
