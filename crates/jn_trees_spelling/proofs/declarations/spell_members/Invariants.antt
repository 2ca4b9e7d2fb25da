use Rattle.std.proofs.Common.{◌≡◌, ◌++◌, drop}
use Rattle.jn_trees.specs.Spelling.{spell_members}
use Rattle.jn_trees.specs.View.{member_views}
use Rattle.jn_trees_spelling.proofs.declarations.spell_members.Given as goal

abbrev pub invariant-loop-member : goal.invariant-loop-member
invariant-loop-member l = l.kinds.items ++ spell_members (member_views (drop l.member-index l.members)) ≡ l.fn.kinds.items ++ spell_members (member_views l.members)
