use Rattle.std.proofs.Common.{◌≡◌, Option, Ok, refl, sym, subst}
use Rattle.jn_heap.specs.Values.{Value}
use Rattle.jn_meaning.specs.Expressions as spec
use Rattle.jn_meaning.specs.Worlds.{Has}
use Rattle.jn_tree_world.specs.Outcomes.{IsStop}
use Rattle.jn_tree_world.specs.Worlds.{place_of, world_of}
use Rattle.jn_tree_world.proofs.Binding.{bound, stop_then, stops}
use Rattle.jn_tree_expr.proofs.Evaluating.{never_stops, same_value}
use Rattle.jn_tree_expr.proofs.steps.steps_behind.Goals as goal

pub returns-in_err-copied : goal.returns-in_err-copied
returns-in_err-copied c = bound (λ x. x) _ _ c.in_ok-value.value (world_of c.args.w.now) c.from_residual-in_err-copied.result (world_of c.args.w.now) (rw c.program.ensures at c.in_ok-value.ensures) (stops (λ x. x) _ c.in_err-copied.field-0.0 c.from_residual-in_err-copied.result (world_of c.args.w.now) c.from_residual-in_err-copied.ensures.1 (never_stops c.in_err-copied.field-0.0 c.in_ok-value.value (world_of c.args.w.now) c.args.w.now.out.items _ c.args.w.now.out.items (c.in_err-copied.ensures (world_of c.args.w.now))))

pub returns-in_err-old : goal.returns-in_err-old
returns-in_err-old c = bound (λ x. x) _ _ c.in_ok-value.value (world_of c.args.w.now) c.from_residual-in_err-old.result (world_of c.args.w.now) (rw c.program.ensures at c.in_ok-value.ensures) (stops (λ x. x) _ c.in_err-old.field-0.0 c.from_residual-in_err-old.result (world_of c.args.w.now) c.from_residual-in_err-old.ensures.1 (stop_then c.in_err-old.field-0.0 _ _ _ (subst (λ (x : Option Value). IsStop c.in_err-old.field-0.0 (spec.old_value (place_of c.args.place.now) c.args.span x (world_of c.args.w.now)) c.args.w.now.out.items) (sym (same_value c.in_ok-value.value c.in_ok-copied.field-0 (world_of c.args.w.now) (world_of c.args.w.now) (c.in_ok-copied.ensures (world_of c.args.w.now)))) (c.in_err-old.ensures (world_of c.args.w.now)))))

pub returns : goal.returns
returns c = bound (λ x. x) _ _ c.in_ok-value.value (world_of c.args.w.now) (Ok c.in_ok-old.old) (world_of c.stepped.new.w) (rw c.program.ensures at c.in_ok-value.ensures) (bound (λ x. x) _ _ c.in_ok-old.old (world_of c.args.w.now) (Ok c.in_ok-old.old) (world_of c.stepped.new.w) (subst (λ (x : Option Value). spec.old_value (place_of c.args.place.now) c.args.span x (world_of c.args.w.now) ≡ Has c.in_ok-old.old (world_of c.args.w.now)) (sym (same_value c.in_ok-value.value c.in_ok-copied.field-0 (world_of c.args.w.now) (world_of c.args.w.now) (c.in_ok-copied.ensures (world_of c.args.w.now)))) (c.in_ok-old.ensures (world_of c.args.w.now))) (rw c.in_ok-stepped.ensures refl))
