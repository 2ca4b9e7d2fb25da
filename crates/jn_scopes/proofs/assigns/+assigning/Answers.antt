use Rattle.std.proofs.Common.{◌∙◌, ap, sym}
use Rattle.std.specs.Prelude.{◌||◌}
use Rattle.jn_lowering.specs.Expressions as spec
use Rattle.jn_places.specs.PlacedView.{placed_view, placed_views}
use Rattle.jn_scopes.specs.Views.{scope_in}
use Rattle.jn_scopes.proofs.Seen.{seen_call, seen_own_call, seen_super_call, seen_new, seen_array_of}
use Rattle.jn_scopes.proofs.assigns.+assigning.Goals as goal

pub assigns-returns-else-assigns : goal.assigns-returns-else-assigns
assigns-returns-else-assigns t c =
    let e = ap (spec.assigns c.args.c.now.program.now c.args.c.now.class.0 (scope_in c.args.c.now) c.args.reg) (seen_call _ c.in-Call.target c.in-Call.name c.in-Call.arguments c.in-Call.span c.deref-else-assigns.result.now c.in-Call.is c.deref-else-assigns.ensures.value) in
    let target = ap (λ e. spec.assigns c.args.c.now.program.now c.args.c.now.class.0 (scope_in c.args.c.now) c.args.reg (placed_view e)) c.deref-in-Call.ensures in
    let first = sym c.assigns-in-Call.ensures ∙ c.if-assigns.false in
    c.assigns_any.ensures ∙ sym (e ∙ ap (λ b. b || spec.assigns_any c.args.c.now.program.now c.args.c.now.class.0 (scope_in c.args.c.now) c.args.reg (placed_views c.deref-else-assigns.result.now)) (sym target ∙ first))

pub assigns-returns-in-OwnCall : goal.assigns-returns-in-OwnCall
assigns-returns-in-OwnCall t c = c.assigns_any-in-OwnCall.ensures ∙ sym (ap (spec.assigns c.args.c.now.program.now c.args.c.now.class.0 (scope_in c.args.c.now) c.args.reg) (seen_own_call _ c.in-OwnCall.name c.in-OwnCall.arguments c.in-OwnCall.span c.deref-in-OwnCall.result.now c.in-OwnCall.is c.deref-in-OwnCall.ensures.value))

pub assigns-returns-in-SuperCall : goal.assigns-returns-in-SuperCall
assigns-returns-in-SuperCall t c = c.assigns_any-in-SuperCall.ensures ∙ sym (ap (spec.assigns c.args.c.now.program.now c.args.c.now.class.0 (scope_in c.args.c.now) c.args.reg) (seen_super_call _ c.in-SuperCall.name c.in-SuperCall.arguments c.in-SuperCall.span c.deref-in-SuperCall.result.now c.in-SuperCall.is c.deref-in-SuperCall.ensures.value))

pub assigns-returns-in-New : goal.assigns-returns-in-New
assigns-returns-in-New t c = c.assigns_any-in-New.ensures ∙ sym (ap (spec.assigns c.args.c.now.program.now c.args.c.now.class.0 (scope_in c.args.c.now) c.args.reg) (seen_new _ c.in-New.class c.in-New.arguments c.in-New.span c.deref-in-New.result.now c.in-New.is c.deref-in-New.ensures.value))

pub assigns-returns-in-ArrayOf : goal.assigns-returns-in-ArrayOf
assigns-returns-in-ArrayOf t c = c.assigns_any-in-ArrayOf.ensures ∙ sym (ap (spec.assigns c.args.c.now.program.now c.args.c.now.class.0 (scope_in c.args.c.now) c.args.reg) (seen_array_of _ c.in-ArrayOf.element c.in-ArrayOf.elements c.in-ArrayOf.span c.deref-in-ArrayOf.result.now c.in-ArrayOf.is c.deref-in-ArrayOf.ensures.value))
