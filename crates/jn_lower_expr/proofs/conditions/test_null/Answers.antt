use Rattle.std.proofs.Common.{Bool, refl, sym, ◌∙◌, subst}
use Rattle.jn_lowering.specs.Fragments.{asks}
use Rattle.jn_lowering.specs.Forms as form
use Rattle.jn_lowering.specs.Expressions as expressions
use Rattle.jn_lower_expr.specs.Lowering.{Adds}
use Rattle.jn_lower_expr.proofs.Emitting.{one}
use Rattle.jn_lower_expr.proofs.Composing.{tested_by}
use Rattle.jn_lower_expr.proofs.conditions.test_null.Goals as goal

pub returns-in_ok-put : goal.returns-in_ok-put
returns-in_ok-put c = λ t v start g. tested_by v c.args.of c.args.span (λ x. form.null_test (expressions.on_null c.args.c.now.program.now c.args.c.now.class.0 c.args.c.now.first c.args.operator) x c.args.origin) c.args.yes.0 c.args.no.0 start c.args.e.now c.put.new.e t g
    (subst (λ (b : Bool). Adds (asks c.args.span (form.null_test b c.args.of c.args.origin)) c.args.yes.0 c.args.no.0 c.args.e.now c.put.new.e) (sym (sym c.is_on_null.ensures ∙ c.if-is_on_null.true))
    (one _ _ _ _ _ _ _ _ c.in_ok-put.ensures.points c.in_ok-put.ensures.labels refl (λ σ. refl)))

pub returns-in_ok-put-2 : goal.returns-in_ok-put-2
returns-in_ok-put-2 c = λ t v start g. tested_by v c.args.of c.args.span (λ x. form.null_test (expressions.on_null c.args.c.now.program.now c.args.c.now.class.0 c.args.c.now.first c.args.operator) x c.args.origin) c.args.yes.0 c.args.no.0 start c.args.e.now c.put-else-is_on_null.new.e t g
    (subst (λ (b : Bool). Adds (asks c.args.span (form.null_test b c.args.of c.args.origin)) c.args.yes.0 c.args.no.0 c.args.e.now c.put-else-is_on_null.new.e) (sym (sym c.is_on_null.ensures ∙ c.if-is_on_null.false))
    (one _ _ _ _ _ _ _ _ c.in_ok-put-2.ensures.points c.in_ok-put-2.ensures.labels refl (λ σ. refl)))
