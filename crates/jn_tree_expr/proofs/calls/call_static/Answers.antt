use Rattle.std.proofs.Common.{◌≡◌, List, Option, Some, ap, ◌∙◌, subst}
use Rattle.jn_heap.specs.Values.{Value}
use Rattle.jn_machine.specs.Parts.{prepended}
use Rattle.jn_meaning.specs.Expressions as spec
use Rattle.jn_meaning.specs.Operations.{all_there}
use Rattle.jn_meaning.specs.Worlds.{Has}
use Rattle.jn_tree_world.specs.Outcomes.{IsStop}
use Rattle.jn_tree_world.specs.Worlds.{world_of}
use Rattle.jn_tree_world.proofs.Binding.{bound, stop_then, stops}
use Rattle.jn_tree_expr.proofs.Evaluating.{front_none}
use Rattle.jn_tree_expr.proofs.calls.call_static.Goals as goal

pub returns-in_err-value : goal.returns-in_err-value
returns-in_err-value g c = λ names longest m h. stops (λ x. x) _ c.in_err-value.field-0.0 c.from_residual-in_err-value.result (world_of c.enter.new.w) c.from_residual-in_err-value.ensures.1 (stop_then c.in_err-value.field-0.0 _ _ _ (subst (λ (vs : Option (List Value)). IsStop c.in_err-value.field-0.0 (spec.entered c.args.c.now.program.now names longest m (Some c.args.method.0) vs (world_of c.args.w.now)) c.enter.new.w.out.items) (c.in_ok-values.ensures ∙ ap (λ (l : List Value). prepended l (all_there c.args.arguments.now)) c.new.ensures.items ∙ front_none (all_there c.args.arguments.now)) (c.in_err-value.ensures c.args.c.now.program.now names longest m h)))

pub returns : goal.returns
returns g c = λ names longest m h. bound (λ x. x) _ _ c.in_ok-value.value (world_of c.enter.new.w) c.given.result (world_of c.enter.new.w) (subst (λ (vs : Option (List Value)). spec.entered c.args.c.now.program.now names longest m (Some c.args.method.0) vs (world_of c.args.w.now) ≡ Has c.in_ok-value.value (world_of c.enter.new.w)) (c.in_ok-values.ensures ∙ ap (λ (l : List Value). prepended l (all_there c.args.arguments.now)) c.new.ensures.items ∙ front_none (all_there c.args.arguments.now)) (c.in_ok-value.ensures c.args.c.now.program.now names longest m h)) (c.given.ensures names longest m (world_of c.enter.new.w))
