use Rattle.jn_refused_notes.proofs.Shown.{array_shown, call_shown, new_shown, on_ok, own_shown, super_shown}
use Rattle.jn_refused_notes.proofs.forms.+refusing.Goals as goal

pub expression-returns-in_ok-expression-in-Call : goal.expression-returns-in_ok-expression-in-Call
expression-returns-in_ok-expression-in-Call t c = on_ok c.all.result (λ h. call_shown c.args.tree.now c.in-Call.arguments c.in-Call.span _ c.deref-listed.ensures.value c.in-Call.target _ c.in-Call.name _ _ _ _ _ c.in-Call.is c.deref-in-Call.ensures c.call_cause.ensures c.in_ok-refuse-in-Call.ensures c.in_ok-expression-in-Call.ensures h) c.all.ensures

pub expression-returns-in_ok-refuse-in-OwnCall : goal.expression-returns-in_ok-refuse-in-OwnCall
expression-returns-in_ok-refuse-in-OwnCall t c = on_ok c.all-in-OwnCall.result (λ h. own_shown c.args.tree.now c.in-OwnCall.arguments c.in-OwnCall.span _ c.deref-listed-in-OwnCall.ensures.value c.in-OwnCall.name _ _ _ _ c.in-OwnCall.is c.call_cause-in-OwnCall.ensures c.in_ok-refuse-in-OwnCall.ensures h) c.all-in-OwnCall.ensures

pub expression-returns-in_ok-refuse-in-SuperCall : goal.expression-returns-in_ok-refuse-in-SuperCall
expression-returns-in_ok-refuse-in-SuperCall t c = on_ok c.all-in-SuperCall.result (λ h. super_shown c.args.tree.now c.in-SuperCall.arguments c.in-SuperCall.span _ c.deref-listed-in-SuperCall.ensures.value c.in-SuperCall.name _ _ _ _ c.in-SuperCall.is c.call_cause-in-SuperCall.ensures c.in_ok-refuse-in-SuperCall.ensures h) c.all-in-SuperCall.ensures

pub expression-returns-in-New : goal.expression-returns-in-New
expression-returns-in-New t c = on_ok c.all-in-New.result (λ h. new_shown c.args.tree.now c.in-New.arguments c.in-New.span _ c.deref-in-New.ensures.value c.in-New.class _ _ c.in-New.is h) c.all-in-New.ensures

pub expression-returns-in_ok-element_type-in-ArrayOf : goal.expression-returns-in_ok-element_type-in-ArrayOf
expression-returns-in_ok-element_type-in-ArrayOf t c = on_ok c.all-in-ArrayOf.result (λ h. array_shown c.args.tree.now c.in-ArrayOf.elements c.in-ArrayOf.span _ c.deref-listed-in-ArrayOf.ensures.value c.in-ArrayOf.element _ _ _ _ c.in-ArrayOf.is c.deref-in-ArrayOf.ensures c.in_ok-element_type-in-ArrayOf.ensures h) c.all-in-ArrayOf.ensures
