use Rattle.std.proofs.Common.{◌↔◌, drop}
use Rattle.jn_trees.specs.WellFormed.{GoodMembers}
use Rattle.jn_trees.specs.View.{member_views}
use Rattle.jn_trees_spelling.proofs.good_members.good_members.Given as goal

abbrev pub invariant-loop-member : goal.invariant-loop-member
invariant-loop-member l = GoodMembers l.owner (member_views l.members) ↔ GoodMembers l.owner (member_views (drop l.member-index l.members))
