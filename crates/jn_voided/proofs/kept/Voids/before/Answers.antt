use Rattle.std.proofs.Common.{[], refl, sym, ap, subst, ◌∙◌}
use Rattle.std.specs.Prelude.{Option, option_copied, slice_index_or}
use Rattle.jn_voided.specs.declared.search.Voided.{Voided}
use Rattle.jn_voided.specs.Kept.{Scene}
use Rattle.jn_voided.specs.Voided.{IsFound}
use Rattle.jn_voided.proofs.Keeping.{got_turned}
use Rattle.jn_voided.proofs.kept.Voids.before.Goals as goal

pub returns-in-Some : goal.returns-in-Some
returns-in-Some c =
    let it = c.self.inside in
    let b = c.args.body.0 in
    let k = c.args.key in
    let p = c.args.read.0 in
    let t = c.in-Some.turned.now in
    let found = c.before-found.result in
    let got = got_turned it.turned.entries it.turned c.numbers_of.result b k t c.numbers_of.ensures refl (ap option_copied (sym c.in-Some.is) ∙ c.get.ensures.value) in
    subst (λ (v : Scene). IsFound v.program v.sig b (slice_index_or v.tables b []) k p found) c.self.view_is
    (subst (λ (o : Option Voided). IsFound it.program.now it.sig.now b (slice_index_or it.tables.now b []) k p o) (sym c.before-found.ensures) (c.self.invariant.turned b k t got p))
