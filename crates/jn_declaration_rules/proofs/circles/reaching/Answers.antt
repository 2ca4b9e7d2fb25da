use Rattle.std.proofs.Common.{◌≡◌, ◌||◌, ℕ, List, Bool, length, arith, sym, ◌∙◌, subst, eqb}
use Rattle.jn_points.specs.Lookup.{class_info, supers_of}
use Rattle.jn_points.specs.Members.{some_of}
use Rattle.jn_base.specs.declared.number.ClassNo.{ClassNo}
use Rattle.jn_declaration_rules.specs.Ranks as ranks_of
use Rattle.jn_declaration_rules.proofs.Falling.{marks_start, marks_end, same_marks}
use Rattle.jn_declaration_rules.proofs.circles.reaching.Goals as goal

pub loop-step-init : goal.loop-step-init
loop-step-init c =
    let Next : List Bool → Type 0 = λ old. (v : ℕ) → ranks_of.mark_at c.in_ok-marks.marks.items v ≡ (eqb v c.args.target || some_of (λ (s : ClassNo). ranks_of.mark_at old s.0) (supers_of (class_info c.args.program.now v))) in
    marks_start c.args.program.now c.args.target c.in_ok-marks.marks.items (subst Next (c.deref.ensures.value ∙ c.new-none.ensures.items) c.in_ok-marks.ensures)

pub returns-then-eq : goal.returns-then-eq
returns-then-eq c =
    let same : c.as_slice.result.now ≡ c.as_slice-in-loop-step.result.now = same_marks c.as_slice.result.now c.as_slice-in-loop-step.result.now (sym c.if-eq.ensures) in
    let marks : c.loop-step.marks.items ≡ c.in_ok-next.next.items = sym c.as_slice.ensures.value ∙ (same ∙ c.as_slice-in-loop-step.ensures.value) in
    let Next : List Bool → Type 0 = λ old. (v : ℕ) → ranks_of.mark_at c.in_ok-next.next.items v ≡ (eqb v c.args.target || some_of (λ (s : ClassNo). ranks_of.mark_at old s.0) (supers_of (class_info c.args.program.now v))) in
    marks_end c.args.program.now c.loop-step._step (length c.args.program.now.classes) c.args.target c.loop-step.marks.items c.in_ok-next.next.items (let n = c.loop-step-test.true in omega arith) marks (subst Next c.deref-in-loop-step.ensures.value c.in_ok-next.ensures) c.loop-step.invariant
