use Rattle.std.proofs.Common.{◌≡◌, ℕ, true, false, List, Option, ◌++◌, ◌+◌, drop, refl, sym, ap, ◌∙◌, subst, append-nil}
use Rattle.jn_tree_expr.proofs.Depth.{arguments_fall}
use Rattle.jn_base.specs.declared.place.Span.{Span}
use Rattle.jn_points.specs.declared.program.Program.{Program}
use Rattle.jn_trees.specs.declared.expression.Expr.{Expr}
use Rattle.jn_points.specs.declared.point.BaseType.{BaseType}
use Rattle.jn_points.specs.Members.{constructor_of, method_of}
use Rattle.jn_places.specs.Placed.{PlacedTrees}
use Rattle.jn_places.specs.PlacedView.{placed_view, placed_views}
use Rattle.jn_heap.specs.Values.{Value, usual_limits}
use Rattle.jn_lowering.specs.Bases.{compound_of, operator_of}
use Rattle.jn_lowering.specs.Expressions.{is_null, span_of}
use Rattle.jn_lowering.specs.Scopes.{callee, count, super_method}
use Rattle.jn_scopes.specs.Views.{callee_of, scope_in, type_in}
use Rattle.jn_scopes.proofs.Seen.{left_before, none_left, seen_array_of, seen_call, seen_new, seen_own_call, seen_super_call}
use Rattle.jn_meaning.specs.Expressions as spec
use Rattle.jn_meaning.specs.Expressions.{operand_span}
use Rattle.jn_meaning.specs.Operations.{operated, read_place}
use Rattle.jn_meaning.specs.Worlds.{Has, then_do}
use Rattle.jn_tree_world.specs.Outcomes.{IsStop, Means}
use Rattle.jn_tree_world.specs.Worlds.{items_of, place_of, world_of}
use Rattle.jn_tree_world.proofs.Binding.{bound, stop_then, stops}
use Rattle.jn_tree_expr.specs.Meaning.{all_in, meant_in, number_of}
use Rattle.jn_tree_expr.proofs.Evaluating.{has_other, next_operand, numbered, receives, then_has}
use Rattle.jn_tree_expr.proofs.Shapes.{as_made, as_tested, assigns_so, calculates_so, null_left, null_right, signed}
use Rattle.jn_tree_expr.proofs.expressions.+evaluating.Goals as goal

pub call_own-returns : goal.call_own-returns
call_own-returns g t c = λ m h. bound (λ x. x) _ _ c.in_ok-values.values.items (world_of c.evaluated.new.w) c.own_call.result (world_of c.own_call.new.w) (c.in_ok-values.ensures m h) (subst (λ (k : Option ℕ). Means (spec.own_call c.args.c.now.program.now c.args.names.now usual_limits.longest m k c.args.span c.args.name.span c.in_ok-values.values.items (world_of c.evaluated.new.w)) c.own_call.result (world_of c.own_call.new.w)) (numbered _ _ c.method_of-method.ensures ∙ ap (λ (k : ℕ). method_of c.args.c.now.program.now c.args.c.now.class.0 c.args.name.name.0 k) c.count.ensures) (subst (λ (xs : List (Option Value)). Means (spec.own_call c.args.c.now.program.now c.args.names.now usual_limits.longest m (number_of c.method_of-method.result) c.args.span c.args.name.span xs (world_of c.evaluated.new.w)) c.own_call.result (world_of c.own_call.new.w)) c.deref.ensures.value (c.own_call.ensures c.args.names.now usual_limits.longest m h)))

pub call_super-returns : goal.call_super-returns
call_super-returns g t c = λ m h. bound (λ x. x) _ _ c.in_ok-values.values.items (world_of c.evaluated.new.w) c.super_call.result (world_of c.super_call.new.w) (c.in_ok-values.ensures m h) (subst (λ (k : Option ℕ). Means (spec.super_call c.args.c.now.program.now c.args.names.now usual_limits.longest m k c.args.span c.args.name.span c.in_ok-values.values.items (world_of c.evaluated.new.w)) c.super_call.result (world_of c.super_call.new.w)) (numbered _ _ c.super_method-method.ensures ∙ ap (λ (k : ℕ). super_method c.args.c.now.program.now c.args.c.now.class.0 c.args.name.name.0 k) c.count.ensures) (subst (λ (xs : List (Option Value)). Means (spec.super_call c.args.c.now.program.now c.args.names.now usual_limits.longest m (number_of c.super_method-method.result) c.args.span c.args.name.span xs (world_of c.evaluated.new.w)) c.super_call.result (world_of c.super_call.new.w)) c.deref.ensures.value (c.super_call.ensures c.args.names.now usual_limits.longest m h)))

pub make-returns : goal.make-returns
make-returns g t c = λ m h. bound (λ x. x) _ _ c.in_ok-values.values.items (world_of c.evaluated.new.w) c.create.result (world_of c.create.new.w) (c.in_ok-values.ensures m h) (subst (λ (k : Option ℕ). Means (spec.created c.args.c.now.program.now c.args.names.now usual_limits.longest m k c.in_ok-values.values.items (world_of c.evaluated.new.w)) c.create.result (world_of c.create.new.w)) (numbered _ _ c.constructor_of.ensures ∙ ap (λ (k : ℕ). constructor_of c.args.c.now.program.now c.class_or_object-own.result.0 k) c.count.ensures ∙ ap (λ (k : ℕ). constructor_of c.args.c.now.program.now k (count (placed_views c.args.arguments.now))) c.class_or_object-own.ensures) (subst (λ (xs : List (Option Value)). Means (spec.created c.args.c.now.program.now c.args.names.now usual_limits.longest m (number_of c.constructor_of.result) xs (world_of c.evaluated.new.w)) c.create.result (world_of c.create.new.w)) c.deref.ensures.value (c.create.ensures c.args.names.now usual_limits.longest m h)))

pub step_behind-returns : goal.step_behind-returns
step_behind-returns g t c = λ m h. bound (λ x. x) _ _ (place_of c.in_ok-to.to) (world_of c.place.new.w) c.steps_behind.result (world_of c.steps_behind.new.w) (c.in_ok-to.ensures m h) (rw c.span_of.ensures at c.steps_behind.ensures)

pub step_before-returns : goal.step_before-returns
step_before-returns g t c = λ m h. bound (λ x. x) _ _ (place_of c.in_ok-to.to) (world_of c.place.new.w) c.steps_before.result (world_of c.steps_before.new.w) (c.in_ok-to.ensures m h) (rw c.span_of.ensures at c.steps_before.ensures)

pub condition-returns-in_err-given : goal.condition-returns-in_err-given
condition-returns-in_err-given g t c = λ m h. rw (as_tested c.args.c.now c.args.names.now m (placed_view c.args.tree.now) (world_of c.args.w.now) (sym c.is_tested.ensures ∙ c.if-is_tested.true)) (stops (λ x. x) _ c.in_err-given.field-0.0 c.from_residual.result (world_of c.value.new.w) c.from_residual.ensures.1 (stop_then c.in_err-given.field-0.0 _ _ _ (c.in_err-given.ensures m h)))

pub condition-returns-then-is_tested : goal.condition-returns-then-is_tested
condition-returns-then-is_tested g t c = λ m h. rw (as_tested c.args.c.now c.args.names.now m (placed_view c.args.tree.now) (world_of c.args.w.now) (sym c.is_tested.ensures ∙ c.if-is_tested.true)) (bound (λ x. x) _ _ c.in_ok-given.given (world_of c.value.new.w) c.truth.result (world_of c.value.new.w) (c.in_ok-given.ensures m h) (c.truth.ensures (world_of c.value.new.w)))

pub connect-returns-then-is_null : goal.connect-returns-then-is_null
connect-returns-then-is_null g t c = λ m h.
    let right : is_null (placed_view c.in-Binary.right.value) ≡ true = (ap (λ (x : Expr). is_null (placed_view x)) (sym c.deref-then-is_equality.ensures) ∙ sym c.is_null.ensures ∙ c.if-is_null.true) in
    rw c.in-Binary.is (rw right (rw (null_right c.args.c.now.program.now c.args.names.now usual_limits.longest c.in-Binary.span c.in-Binary.operator (is_null (placed_view c.in-Binary.left.value)) _ _ _ _ (world_of c.args.w.now) (sym c.is_equality.ensures ∙ c.if-is_equality.true)) (bound (λ x. x) _ _ c.in_ok-tested-in-Binary.tested (world_of c.value.new.w) c.null_holds.result (world_of c.value.new.w) (subst (λ (x : Expr). (meant_in c.args.c.now c.args.names.now m (placed_view x)).value (world_of c.args.w.now) ≡ Has c.in_ok-tested-in-Binary.tested (world_of c.value.new.w)) c.deref-then-is_null.ensures (c.in_ok-tested-in-Binary.ensures m h)) (c.null_holds.ensures (world_of c.value.new.w)))))

pub connect-returns-then-is_equality : goal.connect-returns-then-is_equality
connect-returns-then-is_equality g t c = λ m h.
    let right : is_null (placed_view c.in-Binary.right.value) ≡ false = (ap (λ (x : Expr). is_null (placed_view x)) (sym c.deref-then-is_equality.ensures) ∙ sym c.is_null.ensures ∙ c.if-is_null.false) in
    let form = rw right at (rw c.in-Binary.is at c.requires.connective) in
    rw c.in-Binary.is (rw right (rw (null_left c.args.c.now.program.now c.args.names.now usual_limits.longest c.in-Binary.span c.in-Binary.operator (is_null (placed_view c.in-Binary.left.value)) _ _ _ _ (world_of c.args.w.now) (sym c.is_equality.ensures ∙ c.if-is_equality.true) form) (bound (λ x. x) _ _ c.in_ok-tested-in-Binary-2.tested (world_of c.value-then-is_equality.new.w) c.null_holds-then-is_equality.result (world_of c.value-then-is_equality.new.w) (subst (λ (x : Expr). (meant_in c.args.c.now c.args.names.now m (placed_view x)).value (world_of c.args.w.now) ≡ Has c.in_ok-tested-in-Binary-2.tested (world_of c.value-then-is_equality.new.w)) c.deref-then-is_equality-2.ensures (c.in_ok-tested-in-Binary-2.ensures m h)) (c.null_holds-then-is_equality.ensures (world_of c.value-then-is_equality.new.w)))))

pub dotted_call-returns-in_err-values-in-Call : goal.dotted_call-returns-in_err-values-in-Call
dotted_call-returns-in_err-values-in-Call g t c = λ m h.
    let base : c.type_of-base.result ≡ type_in c.args.c.now (placed_view c.in-Call.target.value) = c.type_of-base.ensures ∙ ap (λ (x : Expr). type_in c.args.c.now (placed_view x)) c.deref.ensures in
    let arity : c.count.result ≡ count (placed_views c.in-Call.arguments.items) = c.count.ensures ∙ ap (λ (xs : List Expr). count (placed_views xs)) c.deref-in-Call-2.ensures.value in
    let named : callee_of c.callee-named.result ≡ callee c.args.c.now.program.now c.args.c.now.class.0 (scope_in c.args.c.now) (placed_view c.in-Call.target.value) (type_in c.args.c.now (placed_view c.in-Call.target.value)) c.in-Call.name.name.0 (count (placed_views c.in-Call.arguments.items)) = c.callee-named.ensures ∙ ap (λ (x : Expr). callee c.args.c.now.program.now c.args.c.now.class.0 (scope_in c.args.c.now) (placed_view x) c.type_of-base.result c.in-Call.name.name.0 c.count.result) c.deref-in-Call.ensures ∙ ap (λ (b : BaseType). callee c.args.c.now.program.now c.args.c.now.class.0 (scope_in c.args.c.now) (placed_view c.in-Call.target.value) b c.in-Call.name.name.0 c.count.result) base ∙ ap (λ (k : ℕ). callee c.args.c.now.program.now c.args.c.now.class.0 (scope_in c.args.c.now) (placed_view c.in-Call.target.value) (type_in c.args.c.now (placed_view c.in-Call.target.value)) c.in-Call.name.name.0 k) arity in
    rw (seen_call c.args.tree.now c.in-Call.target c.in-Call.name c.in-Call.arguments c.in-Call.span c.in-Call.arguments.items c.in-Call.is refl) (rw (sym named ∙ ap callee_of c.in-Println.is) (stops (λ x. x) _ c.in_err-values-in-Call.field-0.0 c.from_residual.result (world_of c.evaluated.new.w) c.from_residual.ensures.1 (stop_then c.in_err-values-in-Call.field-0.0 _ _ _ ((subst (λ (xs : List Expr). IsStop c.in_err-values-in-Call.field-0.0 (all_in c.args.c.now c.args.names.now m (placed_views xs) (world_of c.args.w.now)) c.evaluated.new.w.out.items) c.deref-in-Println.ensures.value (c.in_err-values-in-Call.ensures m h))))))

pub dotted_call-returns-in-Println : goal.dotted_call-returns-in-Println
dotted_call-returns-in-Println g t c = λ m h.
    let base : c.type_of-base.result ≡ type_in c.args.c.now (placed_view c.in-Call.target.value) = c.type_of-base.ensures ∙ ap (λ (x : Expr). type_in c.args.c.now (placed_view x)) c.deref.ensures in
    let arity : c.count.result ≡ count (placed_views c.in-Call.arguments.items) = c.count.ensures ∙ ap (λ (xs : List Expr). count (placed_views xs)) c.deref-in-Call-2.ensures.value in
    let named : callee_of c.callee-named.result ≡ callee c.args.c.now.program.now c.args.c.now.class.0 (scope_in c.args.c.now) (placed_view c.in-Call.target.value) (type_in c.args.c.now (placed_view c.in-Call.target.value)) c.in-Call.name.name.0 (count (placed_views c.in-Call.arguments.items)) = c.callee-named.ensures ∙ ap (λ (x : Expr). callee c.args.c.now.program.now c.args.c.now.class.0 (scope_in c.args.c.now) (placed_view x) c.type_of-base.result c.in-Call.name.name.0 c.count.result) c.deref-in-Call.ensures ∙ ap (λ (b : BaseType). callee c.args.c.now.program.now c.args.c.now.class.0 (scope_in c.args.c.now) (placed_view c.in-Call.target.value) b c.in-Call.name.name.0 c.count.result) base ∙ ap (λ (k : ℕ). callee c.args.c.now.program.now c.args.c.now.class.0 (scope_in c.args.c.now) (placed_view c.in-Call.target.value) (type_in c.args.c.now (placed_view c.in-Call.target.value)) c.in-Call.name.name.0 k) arity in
    rw (seen_call c.args.tree.now c.in-Call.target c.in-Call.name c.in-Call.arguments c.in-Call.span c.in-Call.arguments.items c.in-Call.is refl) (rw (sym named ∙ ap callee_of c.in-Println.is) (bound (λ x. x) _ _ c.in_ok-values-in-Call.values.items (world_of c.evaluated.new.w) c.print_first.result (world_of c.print_first.new.w) (subst (λ (xs : List Expr). all_in c.args.c.now c.args.names.now m (placed_views xs) (world_of c.args.w.now) ≡ Has c.in_ok-values-in-Call.values.items (world_of c.evaluated.new.w)) c.deref-in-Println.ensures.value (c.in_ok-values-in-Call.ensures m h)) (rw c.deref-in-Println-2.ensures.value at (c.print_first.ensures c.args.c.now.program.now c.args.names.now usual_limits.longest m))))

pub dotted_call-returns-in_err-values-in-Call-2 : goal.dotted_call-returns-in_err-values-in-Call-2
dotted_call-returns-in_err-values-in-Call-2 g t c = λ m h.
    let base : c.type_of-base.result ≡ type_in c.args.c.now (placed_view c.in-Call.target.value) = c.type_of-base.ensures ∙ ap (λ (x : Expr). type_in c.args.c.now (placed_view x)) c.deref.ensures in
    let arity : c.count.result ≡ count (placed_views c.in-Call.arguments.items) = c.count.ensures ∙ ap (λ (xs : List Expr). count (placed_views xs)) c.deref-in-Call-2.ensures.value in
    let named : callee_of c.callee-named.result ≡ callee c.args.c.now.program.now c.args.c.now.class.0 (scope_in c.args.c.now) (placed_view c.in-Call.target.value) (type_in c.args.c.now (placed_view c.in-Call.target.value)) c.in-Call.name.name.0 (count (placed_views c.in-Call.arguments.items)) = c.callee-named.ensures ∙ ap (λ (x : Expr). callee c.args.c.now.program.now c.args.c.now.class.0 (scope_in c.args.c.now) (placed_view x) c.type_of-base.result c.in-Call.name.name.0 c.count.result) c.deref-in-Call.ensures ∙ ap (λ (b : BaseType). callee c.args.c.now.program.now c.args.c.now.class.0 (scope_in c.args.c.now) (placed_view c.in-Call.target.value) b c.in-Call.name.name.0 c.count.result) base ∙ ap (λ (k : ℕ). callee c.args.c.now.program.now c.args.c.now.class.0 (scope_in c.args.c.now) (placed_view c.in-Call.target.value) (type_in c.args.c.now (placed_view c.in-Call.target.value)) c.in-Call.name.name.0 k) arity in
    rw (seen_call c.args.tree.now c.in-Call.target c.in-Call.name c.in-Call.arguments c.in-Call.span c.in-Call.arguments.items c.in-Call.is refl) (rw (sym named ∙ ap callee_of c.in-Class.is) (stops (λ x. x) _ c.in_err-values-in-Call-2.field-0.0 c.from_residual-in_err-values-in-Call-2.result (world_of c.evaluated-in-Class.new.w) c.from_residual-in_err-values-in-Call-2.ensures.1 (stop_then c.in_err-values-in-Call-2.field-0.0 _ _ _ ((subst (λ (xs : List Expr). IsStop c.in_err-values-in-Call-2.field-0.0 (all_in c.args.c.now c.args.names.now m (placed_views xs) (world_of c.args.w.now)) c.evaluated-in-Class.new.w.out.items) c.deref-in-Class.ensures.value (c.in_err-values-in-Call-2.ensures m h))))))

pub dotted_call-returns-in-Class : goal.dotted_call-returns-in-Class
dotted_call-returns-in-Class g t c = λ m h.
    let base : c.type_of-base.result ≡ type_in c.args.c.now (placed_view c.in-Call.target.value) = c.type_of-base.ensures ∙ ap (λ (x : Expr). type_in c.args.c.now (placed_view x)) c.deref.ensures in
    let arity : c.count.result ≡ count (placed_views c.in-Call.arguments.items) = c.count.ensures ∙ ap (λ (xs : List Expr). count (placed_views xs)) c.deref-in-Call-2.ensures.value in
    let named : callee_of c.callee-named.result ≡ callee c.args.c.now.program.now c.args.c.now.class.0 (scope_in c.args.c.now) (placed_view c.in-Call.target.value) (type_in c.args.c.now (placed_view c.in-Call.target.value)) c.in-Call.name.name.0 (count (placed_views c.in-Call.arguments.items)) = c.callee-named.ensures ∙ ap (λ (x : Expr). callee c.args.c.now.program.now c.args.c.now.class.0 (scope_in c.args.c.now) (placed_view x) c.type_of-base.result c.in-Call.name.name.0 c.count.result) c.deref-in-Call.ensures ∙ ap (λ (b : BaseType). callee c.args.c.now.program.now c.args.c.now.class.0 (scope_in c.args.c.now) (placed_view c.in-Call.target.value) b c.in-Call.name.name.0 c.count.result) base ∙ ap (λ (k : ℕ). callee c.args.c.now.program.now c.args.c.now.class.0 (scope_in c.args.c.now) (placed_view c.in-Call.target.value) (type_in c.args.c.now (placed_view c.in-Call.target.value)) c.in-Call.name.name.0 k) arity in
    rw (seen_call c.args.tree.now c.in-Call.target c.in-Call.name c.in-Call.arguments c.in-Call.span c.in-Call.arguments.items c.in-Call.is refl) (rw (sym named ∙ ap callee_of c.in-Class.is) (bound (λ x. x) _ _ c.in_ok-values-in-Call-2.values.items (world_of c.evaluated-in-Class.new.w) c.call_static.result (world_of c.call_static.new.w) (subst (λ (xs : List Expr). all_in c.args.c.now c.args.names.now m (placed_views xs) (world_of c.args.w.now) ≡ Has c.in_ok-values-in-Call-2.values.items (world_of c.evaluated-in-Class.new.w)) c.deref-in-Class.ensures.value (c.in_ok-values-in-Call-2.ensures m h)) (rw c.deref-in-Class-2.ensures.value at (c.call_static.ensures c.args.names.now usual_limits.longest m h))))

pub dotted_call-returns-in_err-receiver-in-Call : goal.dotted_call-returns-in_err-receiver-in-Call
dotted_call-returns-in_err-receiver-in-Call g t c = λ m h.
    let base : c.type_of-base.result ≡ type_in c.args.c.now (placed_view c.in-Call.target.value) = c.type_of-base.ensures ∙ ap (λ (x : Expr). type_in c.args.c.now (placed_view x)) c.deref.ensures in
    let arity : c.count.result ≡ count (placed_views c.in-Call.arguments.items) = c.count.ensures ∙ ap (λ (xs : List Expr). count (placed_views xs)) c.deref-in-Call-2.ensures.value in
    let named : callee_of c.callee-named.result ≡ callee c.args.c.now.program.now c.args.c.now.class.0 (scope_in c.args.c.now) (placed_view c.in-Call.target.value) (type_in c.args.c.now (placed_view c.in-Call.target.value)) c.in-Call.name.name.0 (count (placed_views c.in-Call.arguments.items)) = c.callee-named.ensures ∙ ap (λ (x : Expr). callee c.args.c.now.program.now c.args.c.now.class.0 (scope_in c.args.c.now) (placed_view x) c.type_of-base.result c.in-Call.name.name.0 c.count.result) c.deref-in-Call.ensures ∙ ap (λ (b : BaseType). callee c.args.c.now.program.now c.args.c.now.class.0 (scope_in c.args.c.now) (placed_view c.in-Call.target.value) b c.in-Call.name.name.0 c.count.result) base ∙ ap (λ (k : ℕ). callee c.args.c.now.program.now c.args.c.now.class.0 (scope_in c.args.c.now) (placed_view c.in-Call.target.value) (type_in c.args.c.now (placed_view c.in-Call.target.value)) c.in-Call.name.name.0 k) arity in
    rw (seen_call c.args.tree.now c.in-Call.target c.in-Call.name c.in-Call.arguments c.in-Call.span c.in-Call.arguments.items c.in-Call.is refl) (rw (receives c.args.c.now.program.now c.args.names.now m (callee c.args.c.now.program.now c.args.c.now.class.0 (scope_in c.args.c.now) (placed_view c.in-Call.target.value) (type_in c.args.c.now (placed_view c.in-Call.target.value)) c.in-Call.name.name.0 (count (placed_views c.in-Call.arguments.items))) c.in-Call.span (operand_span (placed_view c.in-Call.target.value)) (meant_in c.args.c.now c.args.names.now m (placed_view c.in-Call.target.value)).value (all_in c.args.c.now c.args.names.now m (placed_views c.in-Call.arguments.items)) (world_of c.args.w.now) (rw (sym named) (has_other c.callee-named.result c.in_default-named.not-Println c.in_default-named-2.not-Class))) (stops (λ x. x) _ c.in_err-receiver-in-Call.field-0.0 c.from_residual-in_err-receiver-in-Call.result (world_of c.value.new.w) c.from_residual-in_err-receiver-in-Call.ensures.1 (stop_then c.in_err-receiver-in-Call.field-0.0 _ _ _ (subst (λ (x : Expr). IsStop c.in_err-receiver-in-Call.field-0.0 ((meant_in c.args.c.now c.args.names.now m (placed_view x)).value (world_of c.args.w.now)) c.value.new.w.out.items) c.deref-in-Call-3.ensures (c.in_err-receiver-in-Call.ensures m h)))))

pub dotted_call-returns-in_err-values-in-Call-3 : goal.dotted_call-returns-in_err-values-in-Call-3
dotted_call-returns-in_err-values-in-Call-3 g t c = λ m h.
    let base : c.type_of-base.result ≡ type_in c.args.c.now (placed_view c.in-Call.target.value) = c.type_of-base.ensures ∙ ap (λ (x : Expr). type_in c.args.c.now (placed_view x)) c.deref.ensures in
    let arity : c.count.result ≡ count (placed_views c.in-Call.arguments.items) = c.count.ensures ∙ ap (λ (xs : List Expr). count (placed_views xs)) c.deref-in-Call-2.ensures.value in
    let named : callee_of c.callee-named.result ≡ callee c.args.c.now.program.now c.args.c.now.class.0 (scope_in c.args.c.now) (placed_view c.in-Call.target.value) (type_in c.args.c.now (placed_view c.in-Call.target.value)) c.in-Call.name.name.0 (count (placed_views c.in-Call.arguments.items)) = c.callee-named.ensures ∙ ap (λ (x : Expr). callee c.args.c.now.program.now c.args.c.now.class.0 (scope_in c.args.c.now) (placed_view x) c.type_of-base.result c.in-Call.name.name.0 c.count.result) c.deref-in-Call.ensures ∙ ap (λ (b : BaseType). callee c.args.c.now.program.now c.args.c.now.class.0 (scope_in c.args.c.now) (placed_view c.in-Call.target.value) b c.in-Call.name.name.0 c.count.result) base ∙ ap (λ (k : ℕ). callee c.args.c.now.program.now c.args.c.now.class.0 (scope_in c.args.c.now) (placed_view c.in-Call.target.value) (type_in c.args.c.now (placed_view c.in-Call.target.value)) c.in-Call.name.name.0 k) arity in
    rw (seen_call c.args.tree.now c.in-Call.target c.in-Call.name c.in-Call.arguments c.in-Call.span c.in-Call.arguments.items c.in-Call.is refl) (rw (receives c.args.c.now.program.now c.args.names.now m (callee c.args.c.now.program.now c.args.c.now.class.0 (scope_in c.args.c.now) (placed_view c.in-Call.target.value) (type_in c.args.c.now (placed_view c.in-Call.target.value)) c.in-Call.name.name.0 (count (placed_views c.in-Call.arguments.items))) c.in-Call.span (operand_span (placed_view c.in-Call.target.value)) (meant_in c.args.c.now c.args.names.now m (placed_view c.in-Call.target.value)).value (all_in c.args.c.now c.args.names.now m (placed_views c.in-Call.arguments.items)) (world_of c.args.w.now) (rw (sym named) (has_other c.callee-named.result c.in_default-named.not-Println c.in_default-named-2.not-Class))) (bound (λ x. x) _ _ c.in_ok-receiver-in-Call.receiver (world_of c.value.new.w) c.from_residual-in_err-values-in-Call-3.result (world_of c.evaluated-in-Call.new.w) (subst (λ (x : Expr). (meant_in c.args.c.now c.args.names.now m (placed_view x)).value (world_of c.args.w.now) ≡ Has c.in_ok-receiver-in-Call.receiver (world_of c.value.new.w)) c.deref-in-Call-3.ensures (c.in_ok-receiver-in-Call.ensures m h)) (stops (λ x. x) _ c.in_err-values-in-Call-3.field-0.0 c.from_residual-in_err-values-in-Call-3.result (world_of c.evaluated-in-Call.new.w) c.from_residual-in_err-values-in-Call-3.ensures.1 (stop_then c.in_err-values-in-Call-3.field-0.0 _ _ _ ((subst (λ (xs : List Expr). IsStop c.in_err-values-in-Call-3.field-0.0 (all_in c.args.c.now c.args.names.now m (placed_views xs) (world_of c.value.new.w)) c.evaluated-in-Call.new.w.out.items) c.deref-in-Call-4.ensures.value (c.in_err-values-in-Call-3.ensures m h)))))))

pub dotted_call-returns : goal.dotted_call-returns
dotted_call-returns g t c = λ m h.
    let base : c.type_of-base.result ≡ type_in c.args.c.now (placed_view c.in-Call.target.value) = c.type_of-base.ensures ∙ ap (λ (x : Expr). type_in c.args.c.now (placed_view x)) c.deref.ensures in
    let arity : c.count.result ≡ count (placed_views c.in-Call.arguments.items) = c.count.ensures ∙ ap (λ (xs : List Expr). count (placed_views xs)) c.deref-in-Call-2.ensures.value in
    let named : callee_of c.callee-named.result ≡ callee c.args.c.now.program.now c.args.c.now.class.0 (scope_in c.args.c.now) (placed_view c.in-Call.target.value) (type_in c.args.c.now (placed_view c.in-Call.target.value)) c.in-Call.name.name.0 (count (placed_views c.in-Call.arguments.items)) = c.callee-named.ensures ∙ ap (λ (x : Expr). callee c.args.c.now.program.now c.args.c.now.class.0 (scope_in c.args.c.now) (placed_view x) c.type_of-base.result c.in-Call.name.name.0 c.count.result) c.deref-in-Call.ensures ∙ ap (λ (b : BaseType). callee c.args.c.now.program.now c.args.c.now.class.0 (scope_in c.args.c.now) (placed_view c.in-Call.target.value) b c.in-Call.name.name.0 c.count.result) base ∙ ap (λ (k : ℕ). callee c.args.c.now.program.now c.args.c.now.class.0 (scope_in c.args.c.now) (placed_view c.in-Call.target.value) (type_in c.args.c.now (placed_view c.in-Call.target.value)) c.in-Call.name.name.0 k) arity in
    let at : c.operand_span.result ≡ operand_span (placed_view c.in-Call.target.value) = c.operand_span.ensures ∙ ap (λ (x : Expr). operand_span (placed_view x)) c.deref-in-Call-5.ensures in
    rw (seen_call c.args.tree.now c.in-Call.target c.in-Call.name c.in-Call.arguments c.in-Call.span c.in-Call.arguments.items c.in-Call.is refl) (rw (receives c.args.c.now.program.now c.args.names.now m (callee c.args.c.now.program.now c.args.c.now.class.0 (scope_in c.args.c.now) (placed_view c.in-Call.target.value) (type_in c.args.c.now (placed_view c.in-Call.target.value)) c.in-Call.name.name.0 (count (placed_views c.in-Call.arguments.items))) c.in-Call.span (operand_span (placed_view c.in-Call.target.value)) (meant_in c.args.c.now c.args.names.now m (placed_view c.in-Call.target.value)).value (all_in c.args.c.now c.args.names.now m (placed_views c.in-Call.arguments.items)) (world_of c.args.w.now) (rw (sym named) (has_other c.callee-named.result c.in_default-named.not-Println c.in_default-named-2.not-Class))) (bound (λ x. x) _ _ c.in_ok-receiver-in-Call.receiver (world_of c.value.new.w) c.call_behind.result (world_of c.call_behind.new.w) (subst (λ (x : Expr). (meant_in c.args.c.now c.args.names.now m (placed_view x)).value (world_of c.args.w.now) ≡ Has c.in_ok-receiver-in-Call.receiver (world_of c.value.new.w)) c.deref-in-Call-3.ensures (c.in_ok-receiver-in-Call.ensures m h)) (bound (λ x. x) _ _ c.in_ok-values-in-Call-3.values.items (world_of c.evaluated-in-Call.new.w) c.call_behind.result (world_of c.call_behind.new.w) (subst (λ (xs : List Expr). all_in c.args.c.now c.args.names.now m (placed_views xs) (world_of c.value.new.w) ≡ Has c.in_ok-values-in-Call-3.values.items (world_of c.evaluated-in-Call.new.w)) c.deref-in-Call-4.ensures.value (c.in_ok-values-in-Call-3.ensures m h)) (rw (← named) (rw (← at) (rw c.deref-in-Call-6.ensures.value at (c.call_behind.ensures c.args.names.now m h)))))))

pub evaluated-loop-tree-init : goal.evaluated-loop-tree-init
evaluated-loop-tree-init g t c = λ m h. rw c.new-values.ensures.items (then_has (all_in c.args.c.now c.args.names.now m (placed_views c.args.trees.now) (world_of c.args.w.now)))

pub evaluated-returns-in_err-given : goal.evaluated-returns-in_err-given
evaluated-returns-in_err-given g t c = λ m h. rw (c.loop-tree.invariant m h) (rw (left_before c.args.trees.now c.loop-tree.tree-index c.tree-item.result c.loop-tree-test.true c.tree-item.is) (stops items_of _ c.in_err-given.field-0.0 c.from_residual.result (world_of c.value.new.w) c.from_residual.ensures.1 (stop_then c.in_err-given.field-0.0 _ _ _ (stop_then c.in_err-given.field-0.0 _ _ _ (c.in_err-given.ensures m h)))))

pub evaluated-loop-tree-preserved : goal.evaluated-loop-tree-preserved
evaluated-loop-tree-preserved g t c = λ m h. c.loop-tree.invariant m h ∙ ap (λ (x : PlacedTrees). then_do (all_in c.args.c.now c.args.names.now m x (world_of c.loop-tree.w)) (λ xs w. Has (c.loop-tree.values.items ++ xs) w)) (left_before c.args.trees.now c.loop-tree.tree-index c.tree-item.result c.loop-tree-test.true c.tree-item.is) ∙ next_operand c.loop-tree.values.items c.in_ok-given.given (meant_in c.args.c.now c.args.names.now m (placed_view c.tree-item.result)).value (all_in c.args.c.now c.args.names.now m (placed_views (drop (c.loop-tree.tree-index + 1) c.args.trees.now))) (world_of c.loop-tree.w) (world_of c.value.new.w) (c.in_ok-given.ensures m h) ∙ ap (λ (l : List (Option Value)). then_do (all_in c.args.c.now c.args.names.now m (placed_views (drop (c.loop-tree.tree-index + 1) c.args.trees.now)) (world_of c.value.new.w)) (λ xs w. Has (l ++ xs) w)) (sym c.in-Ok.ensures.items)

pub evaluated-returns : goal.evaluated-returns
evaluated-returns g t c = λ m h. c.loop-tree.invariant m h ∙ ap (λ (x : PlacedTrees). then_do (all_in c.args.c.now c.args.names.now m x (world_of c.loop-tree.w)) (λ xs w. Has (c.loop-tree.values.items ++ xs) w)) (none_left c.args.trees.now c.loop-tree.tree-index c.loop-tree-test.false) ∙ ap (λ (l : List (Option Value)). Has l (world_of c.loop-tree.w)) (append-nil c.loop-tree.values.items)

pub operate-returns-in_err-first-in-Binary : goal.operate-returns-in_err-first-in-Binary
operate-returns-in_err-first-in-Binary g t c = λ m h. rw c.in-Binary.is (rw (calculates_so c.args.c.now.program.now c.args.names.now usual_limits.longest c.in-Binary.span c.in-Binary.operator (is_null (placed_view c.in-Binary.left.value)) (is_null (placed_view c.in-Binary.right.value)) _ _ _ _ (world_of c.args.w.now) (rw c.in-Binary.is at c.requires.calculates)) (stops (λ x. x) _ c.in_err-first-in-Binary.field-0.0 c.from_residual.result (world_of c.value.new.w) c.from_residual.ensures.1 (stop_then c.in_err-first-in-Binary.field-0.0 _ _ _ (subst (λ (x : Expr). IsStop c.in_err-first-in-Binary.field-0.0 ((meant_in c.args.c.now c.args.names.now m (placed_view x)).value (world_of c.args.w.now)) c.value.new.w.out.items) c.deref.ensures (c.in_err-first-in-Binary.ensures m h)))))

pub operate-returns-in_err-second-in-Binary : goal.operate-returns-in_err-second-in-Binary
operate-returns-in_err-second-in-Binary g t c = λ m h. rw c.in-Binary.is (rw (calculates_so c.args.c.now.program.now c.args.names.now usual_limits.longest c.in-Binary.span c.in-Binary.operator (is_null (placed_view c.in-Binary.left.value)) (is_null (placed_view c.in-Binary.right.value)) _ _ _ _ (world_of c.args.w.now) (rw c.in-Binary.is at c.requires.calculates)) (bound (λ x. x) _ _ c.in_ok-first-in-Binary.first (world_of c.value.new.w) c.from_residual-in_err-second-in-Binary.result (world_of c.value-in-Binary.new.w) (subst (λ (x : Expr). (meant_in c.args.c.now c.args.names.now m (placed_view x)).value (world_of c.args.w.now) ≡ Has c.in_ok-first-in-Binary.first (world_of c.value.new.w)) c.deref.ensures (c.in_ok-first-in-Binary.ensures m h)) (stops (λ x. x) _ c.in_err-second-in-Binary.field-0.0 c.from_residual-in_err-second-in-Binary.result (world_of c.value-in-Binary.new.w) c.from_residual-in_err-second-in-Binary.ensures.1 (stop_then c.in_err-second-in-Binary.field-0.0 _ _ _ (subst (λ (x : Expr). IsStop c.in_err-second-in-Binary.field-0.0 ((meant_in c.args.c.now c.args.names.now m (placed_view x)).value (world_of c.value.new.w)) c.value-in-Binary.new.w.out.items) c.deref-in-Binary.ensures (c.in_err-second-in-Binary.ensures m h))))))

pub operate-returns : goal.operate-returns
operate-returns g t c = λ m h.
    let made : operator_of c.in-Binary.operator ≡ c.operator_of.result = sym c.operator_of.ensures in
    let first : type_in c.args.c.now (placed_view c.in-Binary.left.value) ≡ c.type_of.result = sym (c.type_of.ensures ∙ ap (λ (x : Expr). type_in c.args.c.now (placed_view x)) c.deref-in-Binary-2.ensures) in
    let second : type_in c.args.c.now (placed_view c.in-Binary.right.value) ≡ c.type_of-in-Binary.result = sym (c.type_of-in-Binary.ensures ∙ ap (λ (x : Expr). type_in c.args.c.now (placed_view x)) c.deref-in-Binary-3.ensures) in
    rw c.in-Binary.is (rw (calculates_so c.args.c.now.program.now c.args.names.now usual_limits.longest c.in-Binary.span c.in-Binary.operator (is_null (placed_view c.in-Binary.left.value)) (is_null (placed_view c.in-Binary.right.value)) _ _ _ _ (world_of c.args.w.now) (rw c.in-Binary.is at c.requires.calculates)) (bound (λ x. x) _ _ c.in_ok-first-in-Binary.first (world_of c.value.new.w) c.operated.result (world_of c.value-in-Binary.new.w) (subst (λ (x : Expr). (meant_in c.args.c.now c.args.names.now m (placed_view x)).value (world_of c.args.w.now) ≡ Has c.in_ok-first-in-Binary.first (world_of c.value.new.w)) c.deref.ensures (c.in_ok-first-in-Binary.ensures m h)) (bound (λ x. x) _ _ c.in_ok-second-in-Binary.second (world_of c.value-in-Binary.new.w) c.operated.result (world_of c.value-in-Binary.new.w) (subst (λ (x : Expr). (meant_in c.args.c.now c.args.names.now m (placed_view x)).value (world_of c.value.new.w) ≡ Has c.in_ok-second-in-Binary.second (world_of c.value-in-Binary.new.w)) c.deref-in-Binary.ensures (c.in_ok-second-in-Binary.ensures m h)) (rw (made, first, second) (c.operated.ensures c.args.c.now.program.now (world_of c.value-in-Binary.new.w))))))

pub value-returns-in-Name : goal.value-returns-in-Name
value-returns-in-Name g t c = λ m h. rw c.in-Name.is (rw c.in-Name.is at (c.read.ensures m h))

pub value-returns-in-Field : goal.value-returns-in-Field
value-returns-in-Field g t c = λ m h. rw c.in-Field.is (rw c.in-Field.is at (c.read-in-Field.ensures m h))

pub value-returns-in-Index : goal.value-returns-in-Index
value-returns-in-Index g t c = λ m h. rw c.in-Index.is (rw c.in-Index.is at (c.read-in-Index.ensures m h))

pub value-returns-in-OwnCall : goal.value-returns-in-OwnCall
value-returns-in-OwnCall g t c = λ m h. rw (seen_own_call c.args.tree.now c.in-OwnCall.name c.in-OwnCall.arguments c.in-OwnCall.span c.deref-in-OwnCall.result.now c.in-OwnCall.is c.deref-in-OwnCall.ensures.value) (c.call_own.ensures m h)

pub value-returns-in-SuperCall : goal.value-returns-in-SuperCall
value-returns-in-SuperCall g t c = λ m h. rw (seen_super_call c.args.tree.now c.in-SuperCall.name c.in-SuperCall.arguments c.in-SuperCall.span c.deref-in-SuperCall.result.now c.in-SuperCall.is c.deref-in-SuperCall.ensures.value) (c.call_super.ensures m h)

pub value-returns-in-New : goal.value-returns-in-New
value-returns-in-New g t c = λ m h. rw (seen_new c.args.tree.now c.in-New.class c.in-New.arguments c.in-New.span c.deref-in-New.result.now c.in-New.is c.deref-in-New.ensures.value) (c.make.ensures m h)

pub value-returns-in-ArrayOf : goal.value-returns-in-ArrayOf
value-returns-in-ArrayOf g t c = λ m h. rw (seen_array_of c.args.tree.now c.in-ArrayOf.element c.in-ArrayOf.elements c.in-ArrayOf.span c.deref-in-ArrayOf.result.now c.in-ArrayOf.is c.deref-in-ArrayOf.ensures.value) (rw c.deref-in-ArrayOf-2.ensures at (c.list.ensures m h))

pub value-returns-in-Cast : goal.value-returns-in-Cast
value-returns-in-Cast g t c = λ m h. rw c.in-Cast.is (rw c.deref-in-Cast.ensures at (c.cast_to.ensures m h))

pub value-returns-in-InstanceOf : goal.value-returns-in-InstanceOf
value-returns-in-InstanceOf g t c = λ m h. rw (as_made c.args.c.now c.args.names.now m (placed_view c.args.tree.now) (world_of c.args.w.now) (rw c.in-InstanceOf.is refl)) (c.decided-in-InstanceOf.ensures m h)

pub value-returns-then-is_not : goal.value-returns-then-is_not
value-returns-then-is_not g t c = λ m h. rw (as_made c.args.c.now c.args.names.now m (placed_view c.args.tree.now) (world_of c.args.w.now) (rw c.in-Unary.is (sym c.is_not.ensures ∙ c.if-is_not.true))) (c.decided.ensures m h)

pub value-returns-else-is_not : goal.value-returns-else-is_not
value-returns-else-is_not g t c = λ m h. rw c.in-Unary.is (rw (signed c.args.c.now.program.now c.args.names.now usual_limits.longest c.in-Unary.span c.in-Unary.operator _ (world_of c.args.w.now) (sym c.is_not.ensures ∙ c.if-is_not.false)) (rw (c.deref-else-is_not.ensures, c.is_minus.ensures) at (c.sign.ensures m h)))

pub value-returns-then-is_connective : goal.value-returns-then-is_connective
value-returns-then-is_connective g t c = λ m h. rw (as_made c.args.c.now c.args.names.now m (placed_view c.args.tree.now) (world_of c.args.w.now) (sym c.is_connective.ensures ∙ c.if-is_connective.true)) (c.decided-then-is_connective.ensures m h)

pub assign_by-returns-in_err-old-in-Assign : goal.assign_by-returns-in_err-old-in-Assign
assign_by-returns-in_err-old-in-Assign g t c = λ m h.
    let at : c.span_of.result ≡ span_of (placed_view c.in-Assign.target.value) = c.span_of.ensures ∙ ap (λ (x : Expr). span_of (placed_view x)) c.deref-in-Assign.ensures in
    rw c.in-Assign.is (rw (assigns_so c.args.c.now.program.now c.args.names.now usual_limits.longest c.in-Assign.span c.in-Assign.operator (type_in c.args.c.now (placed_view c.in-Assign.target.value)) (type_in c.args.c.now (placed_view c.in-Assign.right.value)) (span_of (placed_view c.in-Assign.target.value)) ((meant_in c.args.c.now c.args.names.now m (placed_view c.in-Assign.target.value)).place) ((meant_in c.args.c.now c.args.names.now m (placed_view c.in-Assign.right.value)).value) (world_of c.args.w.now) (rw c.in-Assign.is at c.requires.assigns)) (bound (λ x. x) _ _ (place_of c.in_ok-to-in-Assign.to) (world_of c.place.new.w) c.from_residual-in_err-old-in-Assign.result (world_of c.place.new.w) (subst (λ (x : Expr). ((meant_in c.args.c.now c.args.names.now m (placed_view x)).place) (world_of c.args.w.now) ≡ Has (place_of c.in_ok-to-in-Assign.to) (world_of c.place.new.w)) c.deref.ensures (c.in_ok-to-in-Assign.ensures m h)) (stops (λ x. x) _ c.in_err-old-in-Assign.field-0.0 c.from_residual-in_err-old-in-Assign.result (world_of c.place.new.w) c.from_residual-in_err-old-in-Assign.ensures.1 (stop_then c.in_err-old-in-Assign.field-0.0 _ _ _ ((subst (λ (s : Span). IsStop c.in_err-old-in-Assign.field-0.0 (read_place c.args.c.now.program.now (place_of c.in_ok-to-in-Assign.to) s (world_of c.place.new.w)) c.place.new.w.out.items) at (subst (λ (p : Program). IsStop c.in_err-old-in-Assign.field-0.0 (read_place p (place_of c.in_ok-to-in-Assign.to) c.span_of.result (world_of c.place.new.w)) c.place.new.w.out.items) c.program.ensures (c.in_err-old-in-Assign.ensures))))))))

pub assign_by-returns-in_err-given-in-Assign : goal.assign_by-returns-in_err-given-in-Assign
assign_by-returns-in_err-given-in-Assign g t c = λ m h.
    let at : c.span_of.result ≡ span_of (placed_view c.in-Assign.target.value) = c.span_of.ensures ∙ ap (λ (x : Expr). span_of (placed_view x)) c.deref-in-Assign.ensures in
    rw c.in-Assign.is (rw (assigns_so c.args.c.now.program.now c.args.names.now usual_limits.longest c.in-Assign.span c.in-Assign.operator (type_in c.args.c.now (placed_view c.in-Assign.target.value)) (type_in c.args.c.now (placed_view c.in-Assign.right.value)) (span_of (placed_view c.in-Assign.target.value)) ((meant_in c.args.c.now c.args.names.now m (placed_view c.in-Assign.target.value)).place) ((meant_in c.args.c.now c.args.names.now m (placed_view c.in-Assign.right.value)).value) (world_of c.args.w.now) (rw c.in-Assign.is at c.requires.assigns)) (bound (λ x. x) _ _ (place_of c.in_ok-to-in-Assign.to) (world_of c.place.new.w) c.from_residual-in_err-given-in-Assign.result (world_of c.value.new.w) (subst (λ (x : Expr). ((meant_in c.args.c.now c.args.names.now m (placed_view x)).place) (world_of c.args.w.now) ≡ Has (place_of c.in_ok-to-in-Assign.to) (world_of c.place.new.w)) c.deref.ensures (c.in_ok-to-in-Assign.ensures m h)) (bound (λ x. x) _ _ c.in_ok-old-in-Assign.old (world_of c.place.new.w) c.from_residual-in_err-given-in-Assign.result (world_of c.value.new.w) (subst (λ (s : Span). read_place c.args.c.now.program.now (place_of c.in_ok-to-in-Assign.to) s (world_of c.place.new.w) ≡ Has c.in_ok-old-in-Assign.old (world_of c.place.new.w)) at (subst (λ (p : Program). read_place p (place_of c.in_ok-to-in-Assign.to) c.span_of.result (world_of c.place.new.w) ≡ Has c.in_ok-old-in-Assign.old (world_of c.place.new.w)) c.program.ensures (c.in_ok-old-in-Assign.ensures))) (stops (λ x. x) _ c.in_err-given-in-Assign.field-0.0 c.from_residual-in_err-given-in-Assign.result (world_of c.value.new.w) c.from_residual-in_err-given-in-Assign.ensures.1 (stop_then c.in_err-given-in-Assign.field-0.0 _ _ _ (subst (λ (x : Expr). IsStop c.in_err-given-in-Assign.field-0.0 ((meant_in c.args.c.now c.args.names.now m (placed_view x)).value (world_of c.place.new.w)) c.value.new.w.out.items) c.deref-in-Assign-2.ensures (c.in_err-given-in-Assign.ensures m h)))))))

pub assign_by-returns : goal.assign_by-returns
assign_by-returns g t c = λ m h.
    let at : c.span_of.result ≡ span_of (placed_view c.in-Assign.target.value) = c.span_of.ensures ∙ ap (λ (x : Expr). span_of (placed_view x)) c.deref-in-Assign.ensures in
    let made : compound_of c.in-Assign.operator ≡ c.compound_of.result = sym c.compound_of.ensures in
    let first : type_in c.args.c.now (placed_view c.in-Assign.target.value) ≡ c.type_of.result = sym (c.type_of.ensures ∙ ap (λ (x : Expr). type_in c.args.c.now (placed_view x)) c.deref-in-Assign-3.ensures) in
    let second : type_in c.args.c.now (placed_view c.in-Assign.right.value) ≡ c.type_of-in-Assign.result = sym (c.type_of-in-Assign.ensures ∙ ap (λ (x : Expr). type_in c.args.c.now (placed_view x)) c.deref-in-Assign-4.ensures) in
    rw c.in-Assign.is (rw (assigns_so c.args.c.now.program.now c.args.names.now usual_limits.longest c.in-Assign.span c.in-Assign.operator (type_in c.args.c.now (placed_view c.in-Assign.target.value)) (type_in c.args.c.now (placed_view c.in-Assign.right.value)) (span_of (placed_view c.in-Assign.target.value)) ((meant_in c.args.c.now c.args.names.now m (placed_view c.in-Assign.target.value)).place) ((meant_in c.args.c.now c.args.names.now m (placed_view c.in-Assign.right.value)).value) (world_of c.args.w.now) (rw c.in-Assign.is at c.requires.assigns)) (bound (λ x. x) _ _ (place_of c.in_ok-to-in-Assign.to) (world_of c.place.new.w) c.combine.result (world_of c.combine.new.w) (subst (λ (x : Expr). ((meant_in c.args.c.now c.args.names.now m (placed_view x)).place) (world_of c.args.w.now) ≡ Has (place_of c.in_ok-to-in-Assign.to) (world_of c.place.new.w)) c.deref.ensures (c.in_ok-to-in-Assign.ensures m h)) (bound (λ x. x) _ _ c.in_ok-old-in-Assign.old (world_of c.place.new.w) c.combine.result (world_of c.combine.new.w) (subst (λ (s : Span). read_place c.args.c.now.program.now (place_of c.in_ok-to-in-Assign.to) s (world_of c.place.new.w) ≡ Has c.in_ok-old-in-Assign.old (world_of c.place.new.w)) at (subst (λ (p : Program). read_place p (place_of c.in_ok-to-in-Assign.to) c.span_of.result (world_of c.place.new.w) ≡ Has c.in_ok-old-in-Assign.old (world_of c.place.new.w)) c.program.ensures (c.in_ok-old-in-Assign.ensures))) (bound (λ x. x) _ _ c.in_ok-given-in-Assign.given (world_of c.value.new.w) c.combine.result (world_of c.combine.new.w) (subst (λ (x : Expr). (meant_in c.args.c.now c.args.names.now m (placed_view x)).value (world_of c.place.new.w) ≡ Has c.in_ok-given-in-Assign.given (world_of c.value.new.w)) c.deref-in-Assign-2.ensures (c.in_ok-given-in-Assign.ensures m h)) (rw (made, first, second) c.combine.ensures)))))

pub dotted_call-evaluated-requires : goal.dotted_call-evaluated-requires
dotted_call-evaluated-requires g t c κs within = (arguments_fall c.args.tree.now c.in-Call.target c.in-Call.name c.in-Call.arguments c.in-Call.span c.deref-in-Println.result.now t c.in-Call.is c.deref-in-Println.ensures.value c.decreases, within)

pub dotted_call-evaluated-requires-in-Class : goal.dotted_call-evaluated-requires-in-Class
dotted_call-evaluated-requires-in-Class g t c κs within = (arguments_fall c.args.tree.now c.in-Call.target c.in-Call.name c.in-Call.arguments c.in-Call.span c.deref-in-Class.result.now t c.in-Call.is c.deref-in-Class.ensures.value c.decreases, within)

pub dotted_call-evaluated-requires-in-Call : goal.dotted_call-evaluated-requires-in-Call
dotted_call-evaluated-requires-in-Call g t c κs within = (arguments_fall c.args.tree.now c.in-Call.target c.in-Call.name c.in-Call.arguments c.in-Call.span c.deref-in-Call-4.result.now t c.in-Call.is c.deref-in-Call-4.ensures.value c.decreases, within)
