use Rattle.std.proofs.Common.{ℕ, sym, refl, ap, ◌∙◌, subst}
use Rattle.std.specs.Prelude.{Bool, cond}
use Rattle.jn_base.specs.declared.place.Span.{Span}
use Rattle.jn_points.specs.declared.point.PointKind.TheVariants.{FieldWrite}
use Rattle.jn_places.specs.PlacedView.{placed_view}
use Rattle.jn_lowering.specs.Bodies as spec
use Rattle.jn_lowering.specs.Calls.{this_operand}
use Rattle.jn_lowering.specs.Expressions.{lower, span_of}
use Rattle.jn_lowering.specs.Forms.{Value}
use Rattle.jn_lowering.specs.Fragments.{does, then}
use Rattle.jn_lowering.specs.Locals.{State, with_temporaries}
use Rattle.jn_lowering.specs.Statements.{Step, back, fresh, no_step, step, through}
use Rattle.jn_lower_expr.specs.Lowering.{Runs}
use Rattle.std.proofs.Common.{[]}
use Rattle.jn_lower_stmt.specs.Stating.{GivesIn, StepsOn, valued_outside}
use Rattle.jn_lower_stmt.proofs.Piecing.{point_done}
use Rattle.jn_lower_stmt.proofs.Stepping.{put_back, simply_done}
use Rattle.jn_lower_stmt.proofs.construction.write_first.Goals as goal

pub returns : goal.returns
returns c =
    let P = c.args.c.now.program.now in
    let at : Span = through c.args.name (span_of (placed_view c.args.value.now)) in
    let v : Value = spec.initializer_value P c.args.method.0 c.args.c.now.first c.args.s.now (placed_view c.args.value.now) in
    let x : Step = step (with_temporaries c.args.s.now v.behind) (then v.fragment (does at (FieldWrite (this_operand c.args.name) c.args.field v.operand))) in
    subst (λ (b : Bool). StepsOn (cond b (no_step c.args.s.now) (back c.args.s.now x)) c.args.e.now c.step.new.e c.end.new.self) (sym (sym c.is_static_field.ensures ∙ c.if-is_static_field.false))
    (simply_done x c.args.s.now c.evaluate_outside.new.s c.end.new.self c.args.e.now c.step.new.e
    (point_done v (fresh c.args.s.now) (λ o. FieldWrite (this_operand c.args.name) c.args.field o) at c.in_ok-given.given c.args.e.now c.evaluate_outside.new.e c.step.new.e c.evaluate_outside.new.s
    (subst (λ (n : ℕ). GivesIn (lower P n c.args.c.now.first [] (fresh c.args.s.now).temporaries (placed_view c.args.value.now)).value (fresh c.args.s.now) c.args.e.now c.in_ok-given.given c.evaluate_outside.new.e c.evaluate_outside.new.s) c.requires.class
    (subst (λ (st : State). GivesIn (valued_outside c.args.c.now st (placed_view c.args.value.now)) st c.args.e.now c.in_ok-given.given c.evaluate_outside.new.e c.evaluate_outside.new.s) c.begin-outer.ensures.begun c.in_ok-given.ensures))
    (subst (λ (s : Span). Runs (does s (FieldWrite (this_operand c.args.name) c.args.field c.in_ok-given.given)) c.evaluate_outside.new.e c.step.new.e) (c.through.ensures ∙ ap (λ (s : Span). through c.args.name s) c.span_of.ensures) c.in_ok-step.ensures))
    refl (put_back c.args.s.now c.evaluate_outside.new.s c.end.new.self c.begin-outer.result.names c.begin-outer.result.held c.begin-outer.ensures.names c.begin-outer.ensures.held c.end.ensures))
