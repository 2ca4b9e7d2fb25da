use Rattle.std.proofs.Common.{true, sym, subst, Option, Some}
use Rattle.jn_base.specs.declared.number.MethodNo.{MethodNo}
use Rattle.jn_points.specs.declared.point.Operand.{Operand}
use Rattle.jn_lowering.specs.Fragments.{Fragment}
use Rattle.jn_points.specs.Lookup as lookup
use Rattle.jn_lowering.specs.Calls as call
use Rattle.jn_lowering.specs.Bases as bases
use Rattle.jn_lower_expr.specs.Lowering.{Runs, Evaluates, ContinuesAll, number_of}
use Rattle.jn_lower_expr.proofs.Giving.{gave_void}
use Rattle.jn_lower_expr.proofs.Composing.{called_all}
use Rattle.jn_lower_expr.proofs.calls.call_super.Goals as goal

pub returns-in_ok-given-in-None : goal.returns-in_ok-given-in-None
returns-in_ok-given-in-None c = subst (λ (m : Option MethodNo). ContinuesAll (call.super_call c.args.c.now.program.now c.args.c.now.first (number_of m) c.args.name c.args.span) (bases.result_type c.args.c.now.program.now (number_of m)) c.args.e.now c.args.t.now c.args.args c.args.e.now c.in_ok-given-in-None.given c.void.new.t) (sym c.in-None.is)
    (λ vs start g. record { gives = gave_void c.args.c.now.program.now c.args.c.now.first vs.behind c.args.t.now vs.fragment c.args.span c.in_ok-given-in-None.given.operand start c.args.e.now c.void.new.t g.behind c.in_ok-given-in-None.ensures.register c.in_ok-given-in-None.ensures.behind g.runs; typed = c.in_ok-given-in-None.ensures.typed })

pub returns-in_ok-given-in-Some : goal.returns-in_ok-given-in-Some
returns-in_ok-given-in-Some c = subst (λ (m : Option MethodNo). ContinuesAll (call.super_call c.args.c.now.program.now c.args.c.now.first (number_of m) c.args.name c.args.span) (bases.result_type c.args.c.now.program.now (number_of m)) c.args.e.now c.args.t.now c.args.args c.call_method.new.e c.in_ok-given-in-Some.given c.call_method.new.t) (sym c.in-Some.is)
    (λ vs start g. called_all c.args.c.now.program.now c.args.c.now.first vs c.args.args (Some (call.this_operand c.args.name)) true c.args.span c.in-Some.method.0 (lookup.result_base_of (lookup.method_at c.args.c.now.program.now c.in-Some.method.0)) c.in_ok-given-in-Some.given start c.args.e.now c.call_method.new.e c.args.t.now c.call_method.new.t g
    (subst (λ (r : Operand). (before : Fragment) (at : _) → Runs before at c.args.e.now → Evaluates (call.called c.args.c.now.program.now c.args.c.now.first c.args.t.now before c.args.span c.in-Some.method.0 (Some r) true c.args.args) (lookup.result_base_of (lookup.method_at c.args.c.now.program.now c.in-Some.method.0)) at c.in_ok-given-in-Some.given c.call_method.new.e c.call_method.new.t) c.this_operand.ensures c.in_ok-given-in-Some.ensures))
