use Rattle.std.proofs.Common.{◌≡◌, ℕ, Option, subst}
use Rattle.jn_meaning.specs.Expressions as spec
use Rattle.jn_meaning.specs.Operations.{all_there}
use Rattle.jn_meaning.specs.Worlds.{Has}
use Rattle.jn_tree_world.specs.Outcomes.{IsStop}
use Rattle.jn_tree_world.specs.Worlds.{world_of}
use Rattle.jn_tree_world.proofs.Binding.{bound, deref_first, stop_then, stops}
use Rattle.jn_tree_expr.proofs.calls.call_on.Goals as goal

pub returns-in_err-not_null : goal.returns-in_err-not_null
returns-in_err-not_null g c = λ names longest m h. rw (deref_first c.args.receiver.now c.args.at (world_of c.args.w.now)) (stops (λ x. x) _ c.in_err-not_null.field-0.0 c.from_residual.result (world_of c.args.w.now) c.from_residual.ensures.1 (stop_then c.in_err-not_null.field-0.0 _ _ _ (c.in_err-not_null.ensures (world_of c.args.w.now))))

pub returns-in_err-value : goal.returns-in_err-value
returns-in_err-value g c = λ names longest m h. rw (deref_first c.args.receiver.now c.args.at (world_of c.args.w.now)) (bound (λ x. x) _ _ tt (world_of c.args.w.now) c.from_residual-in_err-value.result (world_of c.enter_on.new.w) (c.in_ok-not_null.ensures (world_of c.args.w.now)) (stops (λ x. x) _ c.in_err-value.field-0.0 c.from_residual-in_err-value.result (world_of c.enter_on.new.w) c.from_residual-in_err-value.ensures.1 (stop_then c.in_err-value.field-0.0 _ _ _ (subst (λ (o : Option ℕ). IsStop c.in_err-value.field-0.0 (spec.entered_on c.args.c.now.program.now names longest m o c.args.method.0 c.args.direct (all_there c.args.arguments.now) (world_of c.args.w.now)) c.enter_on.new.w.out.items) c.object.ensures (c.in_err-value.ensures names longest m h)))))

pub returns : goal.returns
returns g c = λ names longest m h. rw (deref_first c.args.receiver.now c.args.at (world_of c.args.w.now)) (bound (λ x. x) _ _ tt (world_of c.args.w.now) c.given.result (world_of c.enter_on.new.w) (c.in_ok-not_null.ensures (world_of c.args.w.now)) (bound (λ x. x) _ _ c.in_ok-value.value (world_of c.enter_on.new.w) c.given.result (world_of c.enter_on.new.w) (subst (λ (o : Option ℕ). spec.entered_on c.args.c.now.program.now names longest m o c.args.method.0 c.args.direct (all_there c.args.arguments.now) (world_of c.args.w.now) ≡ Has c.in_ok-value.value (world_of c.enter_on.new.w)) c.object.ensures (c.in_ok-value.ensures names longest m h)) (c.given.ensures names longest m (world_of c.enter_on.new.w))))
