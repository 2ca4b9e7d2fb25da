use Rattle.std.proofs.Common.{sym, ◌∙◌, subst}
use Rattle.std.specs.Prelude.{OnOk}
use Rattle.jn_lowering.specs.Fragments.{Fragment}
use Rattle.jn_lower_expr.specs.Lowering.{Runs}
use Rattle.jn_lower_expr.proofs.Composing.{first_printed}
use Rattle.jn_lower_expr.proofs.calls.print_first.Goals as goal

pub returns-in-Some : goal.returns-in-Some
returns-in-Some c = subst (λ (f : Fragment). OnOk c.step.result (Runs f c.args.e.now c.step.new.e)) (sym (first_printed c.args.c.now.program.now c.args.c.now.first c.args.span c.args.args.now c.in-Some.of (sym c.first_of.ensures ∙ c.in-Some.is))) c.step.ensures
