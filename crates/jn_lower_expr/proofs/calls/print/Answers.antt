use Rattle.std.proofs.Common.{◌∙◌, subst, List}
use Rattle.jn_points.specs.declared.point.Operand.{Operand}
use Rattle.jn_lowering.specs.Fragments.{then}
use Rattle.jn_lowering.specs.Calls as call
use Rattle.jn_lower_expr.specs.Lowering.{Runs}
use Rattle.jn_lower_expr.proofs.Giving.{then_runs, gave_void}
use Rattle.jn_lower_expr.proofs.calls.print.Goals as goal

pub returns : goal.returns
returns c = λ vs start g. record {
  gives = gave_void c.args.c.now.program.now c.args.c.now.first vs.behind c.args.t.now (then vs.fragment (call.println_of c.args.c.now.program.now c.args.c.now.first c.args.span vs.values)) c.args.span c.in_ok-given.given.operand start c.print_first.new.e c.void.new.t g.behind c.in_ok-given.ensures.register c.in_ok-given.ensures.behind
      (then_runs vs.fragment (call.println_of c.args.c.now.program.now c.args.c.now.first c.args.span vs.values) start c.args.e.now c.print_first.new.e g.runs (subst (λ (xs : List Operand). Runs (call.println_of c.args.c.now.program.now c.args.c.now.first c.args.span xs) c.args.e.now c.print_first.new.e) (c.as_slice.ensures ∙ g.operands) c.in_ok-print_first.ensures));
  typed = c.in_ok-given.ensures.typed;
}
