use Rattle.std.proofs.Common.{length}
use Rattle.jn_trees.specs.Pieces.{kinds}
use Rattle.jn_trees.specs.View.{member_views}
use Rattle.jn_parse_decl.specs.Ahead.{AreMembers}
use Rattle.jn_parse_decl.proofs.whole.read_members.Given as goal

abbrev pub invariant-members : goal.invariant-members
invariant-members l = AreMembers l.owner (kinds l.tokens) (member_views l.members.items) (kinds l.left)

abbrev pub decreases-members : goal.decreases-members
decreases-members l = length (kinds l.left)
