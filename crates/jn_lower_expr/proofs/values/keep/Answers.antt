use Rattle.std.proofs.Common.{refl, sym, ◌∙◌}
use Rattle.jn_lower_expr.proofs.Giving.{kept_copy}
use Rattle.jn_lower_expr.proofs.values.keep.Goals as goal

pub returns-in_ok-step : goal.returns-in_ok-step
returns-in_ok-step c = λ later copied v start g. record { gives = kept_copy c.args.c.now.program.now c.args.c.now.first later c.args.given.base v c.args.given.operand c.in_ok-dst.dst start c.args.e.now c.step.new.e c.args.t.now c.temporary.new.t g (sym copied ∙ c.if-copied.true) c.in_ok-dst.ensures.register c.in_ok-dst.ensures.behind c.in_ok-step.ensures; typed = refl }
