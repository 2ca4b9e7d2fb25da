use Rattle.std.proofs.Common.{List, Option, sym, subst}
use Rattle.std.specs.Prelude.{option_map}
use Rattle.jn_base.specs.declared.number.MethodNo.{MethodNo}
use Rattle.jn_points.specs.declared.point.Operand.{Operand}
use Rattle.jn_points.specs.declared.point.PointKind.TheVariants.{CtorCall}
use Rattle.jn_lowering.specs.Bodies as spec
use Rattle.jn_lowering.specs.Fragments.{does}
use Rattle.jn_lower_expr.specs.Lowering.{Runs}
use Rattle.jn_lower_expr.proofs.Giving.{then_runs}
use Rattle.jn_lower_stmt.proofs.construction.call.Goals as goal

pub returns-in-None : goal.returns-in-None
returns-in-None c = λ P m first vs start runs same.
    subst (λ (k : Option MethodNo). Runs (spec.called_ctor P m first (option_map (λ (x : MethodNo). x.0) k) c.args.own c.args.span vs) start c.args.e.now) (sym c.in-None.is) runs

pub returns-in_ok-step-in-Some : goal.returns-in_ok-step-in-Some
returns-in_ok-step-in-Some c = λ P m first vs start runs same.
    subst (λ (k : Option MethodNo). Runs (spec.called_ctor P m first (option_map (λ (x : MethodNo). x.0) k) c.args.own c.args.span vs) start c.step.new.e) (sym c.in-Some.is)
    (then_runs vs.fragment (does c.args.span (CtorCall c.in-Some.ctor vs.values c.args.own)) start c.args.e.now c.step.new.e runs
    (subst (λ (xs : List Operand). Runs (does c.args.span (CtorCall c.in-Some.ctor xs c.args.own)) c.args.e.now c.step.new.e) same c.in_ok-step-in-Some.ensures))
