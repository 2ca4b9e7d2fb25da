use Rattle.std.proofs.Common.{◌||◌, eqb}
use Rattle.jn_points.specs.Lookup.{class_info, supers_of}
use Rattle.jn_points.specs.Members.{some_of}
use Rattle.jn_declaration_rules.specs.Ranks as ranks_of
use Rattle.jn_declaration_rules.proofs.Falling.{MarkedBelow}
use Rattle.jn_declaration_rules.proofs.circles.next_marks.Given as goal

abbrev pub invariant-loop-place : goal.invariant-loop-place
invariant-loop-place l = MarkedBelow (λ v. eqb v l.target || some_of (λ s. ranks_of.mark_at l.marks s.0) (supers_of (class_info l.program v))) l.place l.next.items
