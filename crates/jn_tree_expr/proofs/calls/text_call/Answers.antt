use Rattle.jn_meaning.specs.Expressions as spec
use Rattle.jn_tree_world.proofs.Binding.{bound, deref_first, stop_then, stops}
use Rattle.jn_tree_expr.proofs.calls.text_call.Goals as goal

pub returns-in_err-not_null : goal.returns-in_err-not_null
returns-in_err-not_null c = λ P names longest m w. rw (deref_first c.args.receiver.now c.args.at w) (stops (λ x. x) _ c.in_err-not_null.field-0.0 c.from_residual.result w c.from_residual.ensures.1 (stop_then c.in_err-not_null.field-0.0 _ _ _ (c.in_err-not_null.ensures w)))

pub returns : goal.returns
returns c = λ P names longest m w. rw (deref_first c.args.receiver.now c.args.at w) (bound (λ x. x) _ _ tt w c.string.result w (c.in_ok-not_null.ensures w) (c.string.ensures P names longest m w))
