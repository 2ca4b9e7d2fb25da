use denote.Param.Send.{sendable}
use Rattle.std.proofs.Crossing.{crosses}
use Rattle.jn_trees.proofs.token.Token.TheSendSync as Token-crosses
use Rattle.jn_places.proofs.Sending.{member_sends}
use Rattle.jn_parse_decl.proofs.sharing.+share.Goals as goal

pub join-theirs-requires-send-A : goal.join-theirs-requires-send-A
join-theirs-requires-send-A g t c κs within = search (sendable, crosses, member_sends, Token-crosses.the_sync) depth 20
