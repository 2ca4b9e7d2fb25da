use Rattle.jn_refused_notes.proofs.Shown.{on_ok}
use Rattle.jn_phase_notes.proofs.Forms.{array_named, call_named, new_named, own_named, super_named}
use Rattle.jn_phase_notes.proofs.mentioning.+mentioning.Goals as goal

pub expression-returns-in_ok-expression-in-Call : goal.expression-returns-in_ok-expression-in-Call
expression-returns-in_ok-expression-in-Call t c = on_ok c.all.result (λ h. call_named c.args.tree.now c.in-Call.arguments c.in-Call.span _ c.deref-listed.ensures.value c.in-Call.target _ c.in-Call.name _ _ _ _ _ c.in-Call.is c.deref-in-Call.ensures c.count.ensures c.in_ok-put_mention-in-Call.ensures c.in_ok-expression-in-Call.ensures h) c.all.ensures

pub expression-returns-in_ok-put_mention-in-OwnCall : goal.expression-returns-in_ok-put_mention-in-OwnCall
expression-returns-in_ok-put_mention-in-OwnCall t c = on_ok c.all-in-OwnCall.result (λ h. own_named c.args.tree.now c.in-OwnCall.arguments c.in-OwnCall.span _ c.deref-listed-in-OwnCall.ensures.value c.in-OwnCall.name _ _ _ _ c.in-OwnCall.is c.count-in-OwnCall.ensures c.in_ok-put_mention-in-OwnCall.ensures h) c.all-in-OwnCall.ensures

pub expression-returns-in_ok-put_mention-in-SuperCall : goal.expression-returns-in_ok-put_mention-in-SuperCall
expression-returns-in_ok-put_mention-in-SuperCall t c = on_ok c.all-in-SuperCall.result (λ h. super_named c.args.tree.now c.in-SuperCall.arguments c.in-SuperCall.span _ c.deref-listed-in-SuperCall.ensures.value c.in-SuperCall.name _ _ _ _ c.in-SuperCall.is c.count-in-SuperCall.ensures c.in_ok-put_mention-in-SuperCall.ensures h) c.all-in-SuperCall.ensures

pub expression-returns-in_ok-put_mention-in-New : goal.expression-returns-in_ok-put_mention-in-New
expression-returns-in_ok-put_mention-in-New t c = on_ok c.all-in-New.result (λ h. new_named c.args.tree.now c.in-New.arguments c.in-New.span _ c.deref-listed-in-New.ensures.value c.in-New.class _ _ _ _ c.in-New.is c.count-in-New.ensures c.in_ok-put_mention-in-New.ensures h) c.all-in-New.ensures

pub expression-returns-in-ArrayOf : goal.expression-returns-in-ArrayOf
expression-returns-in-ArrayOf t c = on_ok c.all-in-ArrayOf.result (λ h. array_named c.args.tree.now c.in-ArrayOf.elements c.in-ArrayOf.span _ c.deref-in-ArrayOf.ensures.value c.in-ArrayOf.element _ _ c.in-ArrayOf.is h) c.all-in-ArrayOf.ensures
