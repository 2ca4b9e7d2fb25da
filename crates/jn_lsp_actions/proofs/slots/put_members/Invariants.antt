use Rattle.std.proofs.Common.{◌≡◌, ◌++◌, drop}
use Rattle.jn_trees.specs.View.{member_views}
use Rattle.jn_lsp_actions.specs.Slots as spec
use Rattle.jn_lsp_actions.proofs.slots.put_members.Given as goal

abbrev pub invariant-loop-member : goal.invariant-loop-member
invariant-loop-member l = l.slots.items ++ spec.members_slots l.program.slots (member_views (drop l.member-index l.members)) l.fields l.methods ≡ l.fn.slots.items ++ spec.members_slots l.program.slots (member_views l.members) l.fn.fields l.fn.methods
