use Rattle.std.proofs.Common.{arith, rules}
use Rattle.jn_trees.specs.View.{member_view}
use Rattle.jn_places.specs.PlacedView.{placed_member}
use Rattle.jn_places.specs.Places.{place_member}
use Rattle.jn_trees.specs.Spelling.{spell_member}
use Rattle.jn_places.proofs.Lists.{one_placed, each_placed}
use Rattle.jn_places.proofs.sharing.place_in_turn.Goals as goal

pub loop-at-preserved : goal.loop-at-preserved
loop-at-preserved c =
    one_placed member_view placed_member place_member spell_member c.args.tokens.now c.args.members.now c.loop-at.members c.loop-at.at _ c.place_member-rest.new.member c.loop-at.rest.now c.place_member-rest.result.now (omega arith) (search rules) c.place_member-rest.ensures.placed c.place_member-rest.ensures.behind c.loop-at.invariant

pub returns : goal.returns
returns c =
    let all = each_placed member_view placed_member place_member spell_member c.args.tokens.now c.args.members.now c.loop-at.members c.loop-at.at c.loop-at.rest.now (omega arith) c.loop-at.invariant in
    record { placed = all.0; behind = all.1 }
