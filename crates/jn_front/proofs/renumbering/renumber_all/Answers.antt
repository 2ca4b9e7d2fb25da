use denote.Param.Send.{sendable}
use Rattle.std.proofs.Crossing.{crosses}
use Rattle.jn_front.proofs.Sending.{numbered_sends}
use Rattle.jn_front.proofs.renumbering.renumber_all.Goals as goal

pub for_each_mut-requires-send-T : goal.for_each_mut-requires-send-T
for_each_mut-requires-send-T g c κs within = search (sendable, crosses, numbered_sends) depth 20
