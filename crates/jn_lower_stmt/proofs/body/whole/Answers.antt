use Rattle.std.proofs.Common.{◌≡◌, ℕ, subst, arith, None}
use Rattle.jn_base.specs.declared.place.Span.{Span}
use Rattle.jn_points.specs.Lookup.{ctor_of, method_at}
use Rattle.jn_points.specs.declared.point.PointKind.TheVariants.{Return}
use Rattle.jn_places.specs.PlacedView.{placed_members, placed_statements}
use Rattle.jn_lowering.specs.Bodies as spec
use Rattle.jn_lowering.specs.Fragments.{does}
use Rattle.jn_lowering.specs.Statements.{statements}
use Rattle.jn_lower_expr.specs.Lowering.{Runs}
use Rattle.jn_lower_stmt.specs.Stating.{Steps}
use Rattle.jn_lower_stmt.proofs.Constructing.{whole_done}
use Rattle.jn_lower_stmt.proofs.body.whole.Goals as goal

pub place-requires : goal.place-requires
place-requires c = record { there = c.in_ok-end.ensures.kept _ _ (c.in_ok-fields.ensures.kept _ _ c.in_ok-start.ensures.free) }

pub place-requires-2 : goal.place-requires-2
place-requires-2 c = record { there = (c.in_ok-call_of.ensures.runs 0 0).kept _ _ (c.in_ok-place.ensures.kept _ _ (λ same. let s : c.in_ok-fields.fields.0 ≡ c.in_ok-start.start.0 = same in absurd (omega (arith, s, c.in_ok-fields.ensures.is, c.in_ok-start.ensures.is, c.in_ok-start.ensures.more))) (c.in_ok-end.ensures.kept _ _ c.in_ok-fields.ensures.free)) }

pub place-requires-3 : goal.place-requires-3
place-requires-3 c = record { there = c.in_ok-statements.ensures.adds.kept _ _ ((c.in_ok-fields_of.ensures.runs 0 0).kept _ _ (c.in_ok-place-2.ensures.kept _ _ (λ same. let s : c.in_ok-end.end.0 ≡ c.in_ok-fields.fields.0 = same in absurd (omega (arith, s, c.in_ok-end.ensures.is, c.in_ok-fields.ensures.is, c.in_ok-fields.ensures.more))) ((c.in_ok-call_of.ensures.runs 0 0).kept _ _ (c.in_ok-place.ensures.kept _ _ (λ same. let s : c.in_ok-end.end.0 ≡ c.in_ok-start.start.0 = same in absurd (omega (arith, s, c.in_ok-end.ensures.is, c.in_ok-start.ensures.is, c.in_ok-start.ensures.more, c.in_ok-fields.ensures.more))) c.in_ok-end.ensures.free)))) }

pub returns : goal.returns
returns c =
    whole_done c.args.c.now.program.now c.args.source.now.method.0 c.args.c.now.first (spec.call_of c.args.c.now.program.now c.args.source.now.method.0 c.args.c.now.first (ctor_of (method_at c.args.c.now.program.now c.args.source.now.method.0)) c.args.s.now (placed_statements c.args.source.now.body.now))
    (λ st. spec.fields_of c.args.c.now.program.now c.args.source.now.method.0 c.args.c.now.first (ctor_of (method_at c.args.c.now.program.now c.args.source.now.method.0)) st (placed_statements c.args.source.now.body.now) (placed_members c.args.source.now.members.now))
    (λ st. statements c.args.c.now.program.now (spec.class c.args.c.now.program.now c.args.source.now.method.0) c.args.c.now.first st (placed_statements c.args.source.now.body.now))
    c.in_ok-start.start.0 c.in_ok-fields.fields.0 c.in_ok-end.end.0 c.args.e.now c.label.new.e c.label-2.new.e c.label-3.new.e c.place.new.e c.call_of.new.e c.place-2.new.e c.fields_of.new.e c.statements.new.e c.place-3.new.e c.step.new.e c.call_of.new.s c.fields_of.new.s c.statements.new.s
    c.in_ok-start.ensures c.in_ok-fields.ensures c.in_ok-end.ensures c.in_ok-place.ensures c.in_ok-call_of.ensures c.in_ok-place-2.ensures c.in_ok-fields_of.ensures
    (subst (λ (n : ℕ). Steps (statements c.args.c.now.program.now n c.args.c.now.first c.fields_of.new.s (placed_statements c.args.source.now.body.now)) c.in_ok-end.end.0 c.in_ok-end.end.0 c.fields_of.new.e c.statements.new.e c.statements.new.s) c.requires.class c.in_ok-statements.ensures)
    c.in_ok-place-3.ensures (subst (λ (at : Span). Runs (does at (Return None)) c.place-3.new.e c.step.new.e) c.name_span.ensures c.in_ok-step.ensures)
