use Rattle.std.proofs.Common.{sym, subst}
use Rattle.jn_lowering.specs.Fragments.{then}
use Rattle.jn_lowering.specs.Calls as call
use Rattle.jn_lowering.specs.Bases as bases
use Rattle.jn_scopes.specs.declared.context.Callee as callees
use Rattle.jn_lower_expr.specs.Lowering.{ContinuesWith}
use Rattle.jn_lower_expr.proofs.Giving.{gave_void}
use Rattle.jn_scopes.specs.Views.{callee_of}
use Rattle.jn_lower_expr.proofs.calls.call_behind.Goals as goal

pub returns-in_ok-given-in-Text : goal.returns-in_ok-given-in-Text
returns-in_ok-given-in-Text c = λ s own. subst (λ (k : callees.Callee). ContinuesWith (λ v vs. call.dotted_call c.args.c.now.program.now c.args.c.now.first (callee_of k) c.args.span s v vs own) (bases.callee_type c.args.c.now.program.now (callee_of k)) c.args.e.now c.args.t.now c.args.receiver c.args.args c.call_text.new.e c.in_ok-given-in-Text.given c.call_text.new.t) (sym c.in-Text.is)
    (c.in_ok-given-in-Text.ensures)

pub returns-in_ok-given-in-Object : goal.returns-in_ok-given-in-Object
returns-in_ok-given-in-Object c = λ s own. subst (λ (k : callees.Callee). ContinuesWith (λ v vs. call.dotted_call c.args.c.now.program.now c.args.c.now.first (callee_of k) c.args.span s v vs own) (bases.callee_type c.args.c.now.program.now (callee_of k)) c.args.e.now c.args.t.now c.args.receiver c.args.args c.call_object.new.e c.in_ok-given-in-Object.given c.call_object.new.t) (sym c.in-Object.is)
    (c.in_ok-given-in-Object.ensures)

pub returns-in_ok-given-in-Nothing : goal.returns-in_ok-given-in-Nothing
returns-in_ok-given-in-Nothing c = λ s own. subst (λ (k : callees.Callee). ContinuesWith (λ v vs. call.dotted_call c.args.c.now.program.now c.args.c.now.first (callee_of k) c.args.span s v vs own) (bases.callee_type c.args.c.now.program.now (callee_of k)) c.args.e.now c.args.t.now c.args.receiver c.args.args c.args.e.now c.in_ok-given-in-Nothing.given c.void.new.t) (sym c.in-Nothing.is)
    (λ v vs start g. record { gives = gave_void c.args.c.now.program.now c.args.c.now.first vs.behind c.args.t.now (then v.fragment vs.fragment) c.args.span c.in_ok-given-in-Nothing.given.operand start c.args.e.now c.void.new.t g.behind c.in_ok-given-in-Nothing.ensures.register c.in_ok-given-in-Nothing.ensures.behind g.runs; typed = c.in_ok-given-in-Nothing.ensures.typed })
