use Rattle.std.proofs.Common.{◌≡◌, drop}
use Rattle.jn_trees.specs.View.{member_views}
use Rattle.jn_annotate.specs.Insertions as spec
use Rattle.jn_annotate.proofs.files.has_constructor.Given as goal

abbrev pub invariant-loop-member : goal.invariant-loop-member
invariant-loop-member l = spec.unwritten (spec.in_all spec.constructors_in (member_views (drop l.member-index l.members))) ≡ spec.unwritten (spec.in_all spec.constructors_in (member_views l.members))
