use Rattle.jn_trees.specs.Pieces.{kinds}
use Rattle.jn_trees.specs.View.{member_view, member_views}
use Rattle.jn_parse_decl.proofs.Ahead.{one_member_more}
use Rattle.jn_parse_decl.proofs.Views.{more}
use Rattle.jn_parse_decl.proofs.whole.read_members.Goals as goal

pub members-preserved : goal.members-preserved
members-preserved c =
    let member = rw c.in-Some.is at c.in_ok-whole_member.ensures in
    let before = c.members.members.items in
    let all = c.put.new.items.items in
    one_member_more c.args.owner (kinds c.args.tokens.now) (member_views before) (kinds c.members.left.now) (member_view c.in-Some.member) (member_views all) (kinds c.in-Some.rest.now)
    c.members.invariant member.0 (more member_view before all c.in-Some.member c.in_ok-put-in-Some.ensures)
