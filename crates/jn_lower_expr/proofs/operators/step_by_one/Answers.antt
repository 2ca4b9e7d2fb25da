use Rattle.std.proofs.Common.{refl, subst}
use Rattle.std.specs.Prelude.{pos}
use Rattle.jn_points.specs.declared.point.BaseType.TheVariants.{Int}
use Rattle.jn_points.specs.declared.point.Operator.{Operator}
use Rattle.jn_points.specs.declared.point.PointKind.TheVariants.{Const, Binary}
use Rattle.jn_lowering.specs.Fragments.{does}
use Rattle.jn_lowering.specs.Forms as form
use Rattle.jn_lowering.specs.Calls as call
use Rattle.jn_points.specs.declared.point.Literal as point_literal
use Rattle.jn_lower_expr.specs.Lowering.{Runs, Gives, spot_of}
use Rattle.jn_lower_expr.proofs.Giving.{gave}
use Rattle.jn_lower_expr.proofs.Composing.{wrote}
use Rattle.jn_lower_expr.proofs.operators.step_by_one.Goals as goal

pub returns : goal.returns
returns c = λ x v start g.
    let first_one : Gives (call.one c.args.c.now.program.now c.args.c.now.first v.behind v.fragment c.args.span) start (record { reg = c.in_ok-one.one; span = c.args.span }) c.step.new.e c.temporary.new.t = gave c.args.c.now.program.now c.args.c.now.first v x Int c.args.span (λ y dst. Const dst (point_literal.TheVariants.Int (pos 1))) c.in_ok-one.one start c.args.e.now c.step.new.e c.args.t.now c.temporary.new.t g c.in_ok-one.ensures.register c.in_ok-one.ensures.behind c.in_ok-step.ensures in
    let sum : Gives (form.gives c.args.c.now.program.now c.args.c.now.first (call.one c.args.c.now.program.now c.args.c.now.first v.behind v.fragment c.args.span).behind (call.one c.args.c.now.program.now c.args.c.now.first v.behind v.fragment c.args.span).fragment Int c.args.span (λ dst. Binary dst (form.step_operator c.args.by) c.args.old (call.one c.args.c.now.program.now c.args.c.now.first v.behind v.fragment c.args.span).operand)) start (record { reg = c.in_ok-dst.dst; span = c.args.span }) c.step-2.new.e c.temporary-2.new.t =
    gave c.args.c.now.program.now c.args.c.now.first (call.one c.args.c.now.program.now c.args.c.now.first v.behind v.fragment c.args.span) (record { reg = c.in_ok-one.one; span = c.args.span }) Int c.args.span (λ y dst. Binary dst (form.step_operator c.args.by) c.args.old y) c.in_ok-dst.dst start c.step.new.e c.step-2.new.e c.temporary.new.t c.temporary-2.new.t first_one c.in_ok-dst.ensures.register c.in_ok-dst.ensures.behind
    (subst (λ (k : Operator). Runs (does c.args.span (Binary c.in_ok-dst.dst k c.args.old (record { reg = c.in_ok-one.one; span = c.args.span }))) c.step.new.e c.step-2.new.e) c.step_operator-operator.ensures c.in_ok-step-2.ensures) in
    record { gives = wrote c.args.c.now.program.now c.args.c.now.first c.args.span (spot_of c.args.c.now.faults.now c.args.spot.now) _ (record { reg = c.in_ok-dst.dst; span = c.args.span }) start c.step-2.new.e c.write.new.e c.temporary-2.new.t sum c.in_ok-write.ensures; typed = refl }
