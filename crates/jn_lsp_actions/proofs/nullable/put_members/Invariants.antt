use Rattle.std.proofs.Common.{◌≡◌, ◌++◌, drop}
use Rattle.jn_trees.specs.View.{member_views}
use Rattle.jn_annotate.specs.Puts.{insertions}
use Rattle.jn_lsp_actions.specs.Nulls as spec
use Rattle.jn_lsp_actions.proofs.nullable.put_members.Given as goal

abbrev pub invariant-loop-member : goal.invariant-loop-member
invariant-loop-member l = insertions l.puts.items ++ spec.null_members l.slot l.rest (member_views (drop l.member-index l.members)) l.fields l.methods ≡ insertions l.fn.puts.items ++ spec.null_members l.slot l.tokens (member_views l.members) l.fn.fields l.fn.methods
