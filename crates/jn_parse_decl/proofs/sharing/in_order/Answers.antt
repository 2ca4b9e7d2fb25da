use Rattle.std.proofs.Common.{arith}
use Rattle.jn_trees.specs.View.{member_view, member_views}
use Rattle.jn_parse_decl.proofs.Ahead.{both_members}
use Rattle.jn_parse_decl.proofs.Views.{both}
use Rattle.jn_parse_decl.proofs.sharing.in_order.Goals as goal

pub returns : goal.returns
returns c =
    let front = rw c.in_ok-members.was at c.requires.first in
    let back = rw c.in_ok-others.was at c.requires.others in
    let ms = c.in_ok-members.members.items in
    let ns = c.in_ok-others.others.items in
    both_members c.args.owner c.args.tokens.now c.args.back.now c.in_ok-members.rest.now c.in_ok-others.end.now (member_views ms) (member_views ns) (member_views c.in_ok-all.all.items)
    c.requires.back front back (omega (arith, c.if-rest-back.false)) (both member_view ms ns c.in_ok-all.all.items c.in_ok-all.ensures)
