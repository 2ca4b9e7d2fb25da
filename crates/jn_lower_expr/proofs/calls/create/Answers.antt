use Rattle.std.proofs.Common.{refl, sym, subst, Option}
use Rattle.jn_base.specs.declared.number.MethodNo.{MethodNo}
use Rattle.jn_points.specs.declared.point.BaseType.TheVariants.{Ref}
use Rattle.jn_points.specs.declared.point.PointKind.TheVariants.{New}
use Rattle.jn_lowering.specs.Calls as call
use Rattle.jn_lower_expr.specs.Lowering.{ContinuesAll, number_of}
use Rattle.jn_lower_expr.proofs.Giving.{gave_all, gave_void}
use Rattle.jn_lower_expr.proofs.calls.create.Goals as goal

pub returns-in_ok-given-in-None : goal.returns-in_ok-given-in-None
returns-in_ok-given-in-None c = subst (λ (m : Option MethodNo). ContinuesAll (call.created c.args.c.now.program.now c.args.c.now.first (number_of m) c.args.class.0 c.args.span) (Ref c.args.class) c.args.e.now c.args.t.now c.args.args c.args.e.now (record { operand = c.in_ok-given-in-None.given.operand; base = Ref c.args.class }) c.void.new.t) (sym c.in-None.is)
    (λ vs start g. record { gives = gave_void c.args.c.now.program.now c.args.c.now.first vs.behind c.args.t.now vs.fragment c.args.span c.in_ok-given-in-None.given.operand start c.args.e.now c.void.new.t g.behind c.in_ok-given-in-None.ensures.register c.in_ok-given-in-None.ensures.behind g.runs; typed = refl })

pub returns-in_ok-step-in-Some : goal.returns-in_ok-step-in-Some
returns-in_ok-step-in-Some c = subst (λ (m : Option MethodNo). ContinuesAll (call.created c.args.c.now.program.now c.args.c.now.first (number_of m) c.args.class.0 c.args.span) (Ref c.args.class) c.args.e.now c.args.t.now c.args.args c.step.new.e (record { operand = (record { reg = c.in_ok-dst-in-Some.dst; span = c.args.span }); base = Ref c.args.class }) c.temporary.new.t) (sym c.in-Some.is)
    (λ vs start g. record { gives = gave_all c.args.c.now.program.now c.args.c.now.first vs c.args.args (Ref c.args.class) c.args.span (λ xs dst. New dst c.in-Some.ctor xs) c.in_ok-dst-in-Some.dst start c.args.e.now c.step.new.e c.args.t.now c.temporary.new.t g c.in_ok-dst-in-Some.ensures.register c.in_ok-dst-in-Some.ensures.behind c.in_ok-step-in-Some.ensures; typed = refl })
