use Rattle.std.proofs.Common.{rules}
use denote.Param.Send.{sendable}
use Rattle.std.proofs.Crossing.{crosses}
use Rattle.jn_trees.proofs.token.Token.TheSendSync as Token-crosses
use Rattle.jn_places.proofs.Sending.{member_sends}
use Rattle.jn_places.proofs.Turns.{met, once_more}
use Rattle.jn_places.proofs.sharing.+share.Goals as goal

pub side_by_side-join_mut-requires-send-F : goal.side_by_side-join_mut-requires-send-F
side_by_side-join_mut-requires-send-F g t c κs within = search (sendable, crosses, member_sends, Token-crosses.the_sync) depth 20

pub place_both-returns-then-as_many : goal.place_both-returns-then-as_many
place_both-returns-then-as_many g t c =
    let both = c.side_by_side in
    met c.args.tokens.now c.args.guess.now both.result.0.now both.result.1.now c.args.front.now both.new.front c.args.back.now both.new.back
    c.requires both.ensures.front both.ensures.back (search rules)

pub place_both-returns : goal.place_both-returns
place_both-returns g t c =
    let both = c.side_by_side in
    once_more c.args.tokens.now c.args.guess.now both.result.0.now both.result.1.now c.place_in_turn.result.now c.args.front.now both.new.front c.args.back.now both.new.back c.place_in_turn.new.members
    both.ensures.front both.ensures.back c.place_in_turn.ensures
