use Rattle.std.proofs.Common.{◌≡◌, drop}
use Rattle.jn_trees.specs.View.{member_views}
use Rattle.jn_annotate.specs.Insertions as spec
use Rattle.jn_annotate.proofs.files.fields_after.Given as goal

abbrev pub invariant-loop-member : goal.invariant-loop-member
invariant-loop-member l = drop (spec.in_all spec.fields_in (member_views (drop l.member-index l.members))) l.rest ≡ drop (spec.in_all spec.fields_in (member_views l.members)) l.fields
