use Rattle.std.proofs.Common.{◌≡◌, ◌∙◌, ◌||◌, ◌++◌, [], cond, eqb, length, ap, subst, sym}
use Rattle.jn_trees.specs.declared.expression.ElementType.{ElementType}
use Rattle.jn_places.specs.PlacedView.{placed_view}
use Rattle.jn_lowering.specs.Bases.{array_type, binary_type, ref}
use Rattle.jn_lowering.specs.Expressions.{is_null}
use Rattle.jn_lowering.specs.ExpressionRows.{array_rows, assigned_access_rows, is_this}
use Rattle.jn_scopes.specs.Views.{access_of}
use Rattle.jn_lower_rows.specs.Views.{setting_of}
use Rattle.jn_lower_rows.proofs.Looking.{argument_looks, array_looks, assigned_field, binary_looks, dotted_looks, field_found, new_looks, own_looks, super_looks}
use Rattle.jn_lower_rows.proofs.expressions.+looking.Goals as goal

pub expression-returns-in_ok-call_rows-in-Call : goal.expression-returns-in_ok-call_rows-in-Call
expression-returns-in_ok-call_rows-in-Call t c = dotted_looks c.args.c.now c.args.at _ _ c.in-Call.target c.in-Call.name c.in-Call.arguments c.in-Call.span _ _ _ _ _ _ _ _ c.in-Call.is c.deref-in-Call.ensures c.deref-listed.ensures.value c.count-arity.ensures c.in_ok-before-in-Call.ensures c.in_ok-arguments_of-in-Call.ensures c.in_ok-call_rows-in-Call.ensures c.called_type.ensures

pub expression-returns-in_ok-own_call_rows-in-OwnCall : goal.expression-returns-in_ok-own_call_rows-in-OwnCall
expression-returns-in_ok-own_call_rows-in-OwnCall t c = own_looks c.args.c.now c.args.at _ c.in-OwnCall.name c.in-OwnCall.arguments _ _ _ _ _ _ _ c.in-OwnCall.is c.deref-listed-in-OwnCall.ensures.value c.count-arity-in-OwnCall.ensures c.own_type.ensures c.in_ok-all-in-OwnCall.ensures c.in_ok-own_call_rows-in-OwnCall.ensures

pub expression-returns-in_ok-super_call_rows-in-SuperCall : goal.expression-returns-in_ok-super_call_rows-in-SuperCall
expression-returns-in_ok-super_call_rows-in-SuperCall t c = super_looks c.args.c.now c.args.at _ c.in-SuperCall.name c.in-SuperCall.arguments c.in-SuperCall.span _ _ _ _ _ _ _ c.in-SuperCall.is c.deref-listed-in-SuperCall.ensures.value c.count-arity-in-SuperCall.ensures c.super_type.ensures c.in_ok-push_if-in-SuperCall.ensures c.in_ok-all-in-SuperCall.ensures c.in_ok-super_call_rows-in-SuperCall.ensures

pub expression-returns-in_ok-new_rows-in-New : goal.expression-returns-in_ok-new_rows-in-New
expression-returns-in_ok-new_rows-in-New t c = new_looks c.args.c.now c.args.at _ c.in-New.class c.in-New.arguments _ _ _ _ _ _ _ c.in-New.is c.deref-listed-in-New.ensures.value c.count.ensures (ap ref c.class_or_object.ensures) c.in_ok-all-in-New.ensures c.in_ok-new_rows-in-New.ensures

pub expression-returns-in_ok-all-in-ArrayOf : goal.expression-returns-in_ok-all-in-ArrayOf
expression-returns-in_ok-all-in-ArrayOf t c =
    let P = c.args.c.now.program.now in
    let notes : c.deref-in-ArrayOf-3.result.now ≡ c.in-ArrayOf.element.value.annotations.items = c.deref-in-ArrayOf-3.ensures.value ∙ ap (λ (w : ElementType). w.annotations.items) c.deref-in-ArrayOf-2.ensures in
    array_looks c.args.c.now c.args.at _ c.in-ArrayOf.element c.in-ArrayOf.elements _ _ c.deref-in-ArrayOf-3.result.now _ _ _ _ c.in-ArrayOf.is c.deref-in-ArrayOf-4.ensures.value notes
    (c.array_type-in-ArrayOf.ensures ∙ (ap (λ (w : ElementType). array_type P w.base c.deref-in-ArrayOf-7.result.now) c.deref-in-ArrayOf-5.ensures ∙ ap (array_type P c.in-ArrayOf.element.value.base) (c.deref-in-ArrayOf-7.ensures.value ∙ (ap (λ (w : ElementType). w.annotations.items) c.deref-in-ArrayOf-6.ensures ∙ sym notes))))
    (c.in_ok-array_rows-in-ArrayOf.ensures ∙ ap (λ (w : ElementType). c.args.rows.now ++ array_rows P w.base c.deref-in-ArrayOf-3.result.now) c.deref-in-ArrayOf.ensures) c.in_ok-all-in-ArrayOf.ensures

pub expression-returns-in_ok-both_rows-in-Binary : goal.expression-returns-in_ok-both_rows-in-Binary
expression-returns-in_ok-both_rows-in-Binary t c = binary_looks c.args.c.now c.args.at _ c.deref-in-Binary.result.now c.deref-in-Binary-2.result.now c.in-Binary.left c.in-Binary.operator c.in-Binary.right c.in-Binary.span _ _ _ _ _ _ _ _ _ _ c.in-Binary.is c.deref-in-Binary.ensures c.deref-in-Binary-2.ensures
    (c.either_null-null.ensures ∙ ap (λ x. is_null (placed_view x) || is_null (placed_view c.deref-in-Binary-4.result.now)) (c.deref-in-Binary-3.ensures ∙ sym c.deref-in-Binary.ensures) ∙ ap (λ x. is_null (placed_view c.deref-in-Binary.result.now) || is_null (placed_view x)) (c.deref-in-Binary-4.ensures ∙ sym c.deref-in-Binary-2.ensures))
    c.in_ok-one-in-Binary.ensures.0 c.in_ok-one-in-Binary.ensures.1 c.in_ok-one-in-Binary.ensures.2 c.in_ok-other-in-Binary.ensures.0 c.in_ok-other-in-Binary.ensures.1 c.in_ok-other-in-Binary.ensures.2 c.in_ok-both_rows-in-Binary.ensures (c.binary_type.ensures ∙ ap (λ o. binary_type o c.in_ok-one-in-Binary.one.base c.in_ok-other-in-Binary.other.base) c.operator_of.ensures)

pub field-returns : goal.field-returns
field-returns t c = field_found c.args.c.now c.args.at c.args.target.now c.args.name c.in_ok-before.before _ _ c.args.rows.now _ c.access_rows.new.rows c.in_ok-before.ensures c.in_ok-access_rows.ensures c.access_by.ensures (ap (λ n. eqb n c.len-start.result) c.len.ensures ∙ ap (λ n. eqb (length c.access_rows.new.rows) n) c.len-start.ensures)

pub assigned-returns-in_ok-found_rows-in-Field : goal.assigned-returns-in_ok-found_rows-in-Field
assigned-returns-in_ok-found_rows-in-Field t c = assigned_field c.args.c.now c.args.at _ c.deref.result.now c.in-Field.target c.in-Field.name c.in-Field.span _ _ _ _ _ _ c.in-Field.is c.deref.ensures c.in_ok-found-in-Field.ensures.0 c.in_ok-found-in-Field.ensures.1 c.in_ok-found-in-Field.ensures.2
    (subst (λ x. c.found_rows.new.rows ≡ c.field.new.rows ++ cond c.in_ok-found-in-Field.found.clean (assigned_access_rows c.args.c.now.program.now c.args.c.now.class.0 (setting_of c.args.at) (access_of c.in_ok-found-in-Field.found.access) (is_this (placed_view x)) c.in-Field.span) []) (c.deref-in-Field.ensures ∙ sym c.deref.ensures) c.in_ok-found_rows-in-Field.ensures) c.access_type.ensures

pub arguments_of-returns-in_ok-all-in-Call : goal.arguments_of-returns-in_ok-all-in-Call
arguments_of-returns-in_ok-all-in-Call t c = argument_looks c.args.c.now c.args.at _ c.in-Call.target c.in-Call.name c.in-Call.arguments c.in-Call.span _ _ _ c.in-Call.is c.deref.ensures.value c.in_ok-all-in-Call.ensures
