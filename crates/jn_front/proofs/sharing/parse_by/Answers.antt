use denote.Param.Send.{sendable}
use Rattle.std.proofs.Crossing.{crosses}
use Rattle.jn_front.proofs.Sending.{outcome_sends}
use Rattle.jn_front.proofs.Shares.{outcomes_of_all}
use Rattle.jn_front.proofs.sharing.parse_by.Goals as goal

pub returns : goal.returns
returns g c =
    let made = c.in_ok-outcomes.ensures in
    outcomes_of_all c.args.reads.now c.in_ok-outcomes.outcomes.items made.0 (λ n d lt. (made.1 n d lt).1)

pub share_out-requires-send-X : goal.share_out-requires-send-X
share_out-requires-send-X g c κs within = search (sendable, crosses, outcome_sends) depth 20
