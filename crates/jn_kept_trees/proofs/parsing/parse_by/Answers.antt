use denote.Param.Send.{sendable}
use Rattle.std.proofs.Common.{None}
use Rattle.std.proofs.Crossing.{crosses}
use Rattle.jn_front.proofs.Sending.{outcome_sends}
use Rattle.jn_kept_trees.proofs.parsing.parse_by.Goals as goal

pub returns : goal.returns
returns g c =
    let made = c.in_ok-fresh.ensures in
    record { long = made.0; each = λ k lt. (made.1 k None lt).1 }

pub share_out-requires-send-X : goal.share_out-requires-send-X
share_out-requires-send-X g c κs within = search (sendable, crosses, outcome_sends) depth 20
