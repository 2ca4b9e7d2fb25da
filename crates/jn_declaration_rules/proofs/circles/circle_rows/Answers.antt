use Rattle.std.proofs.Common.{◌++◌, ap, sym, ◌∙◌, append-nil}
use Rattle.jn_base.specs.declared.code.Code.TheVariants.{T3}
use Rattle.jn_points.specs.declared.program.Class.{Class}
use Rattle.jn_declaration_rules.proofs.Falling.{no_circle_rows}
use Rattle.jn_declaration_rules.proofs.circles.circle_rows.Goals as goal

pub returns-then-not-some_rises : goal.returns-then-not-some_rises
returns-then-not-some_rises c = sym (ap (λ x. c.args.rows.now ++ x) (no_circle_rows c.args.program.now c.deref.result.now T3 (λ (x : Class). x.span) (sym c.some_rises.ensures ∙ c.if-not-some_rises.true)) ∙ append-nil c.args.rows.now)
