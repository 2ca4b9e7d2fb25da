use Rattle.std.proofs.Common.{◌≡◌, ◌||◌, length, arith, ap, subst, eqb}
use Rattle.jn_points.specs.Lookup.{class_info, supers_of}
use Rattle.jn_points.specs.Members.{some_of}
use Rattle.jn_base.specs.declared.number.ClassNo.{ClassNo}
use Rattle.jn_declaration_rules.specs.Ranks as ranks_of
use Rattle.jn_declaration_rules.proofs.Falling.{MarkedBelow, marked_all}
use Rattle.jn_declaration_rules.proofs.circles.next_marks.Goals as goal

pub returns : goal.returns
returns c =
    let all : c.loop-place.place ≡ length c.args.program.now.classes = omega (arith, ap length c.as_slice-classes.ensures) in
    marked_all c.args.program.now c.args.target c.args.marks.now c.loop-place.next.items c.requires (subst (λ i. MarkedBelow (λ v. eqb v c.args.target || some_of (λ (s : ClassNo). ranks_of.mark_at c.args.marks.now s.0) (supers_of (class_info c.args.program.now v))) i c.loop-place.next.items) all c.loop-place.invariant)
