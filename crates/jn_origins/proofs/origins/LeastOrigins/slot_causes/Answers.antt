use Rattle.std.proofs.Common.{◌≡◌, ℕ, List, [], ◌++◌, ap, ◌∙◌, sym, subst}
use Rattle.std.specs.Prelude.{slice_index_or}
use Rattle.jn_chain.specs.Search.{Ground}
use Rattle.jn_contrib.specs.Entries.{AreOverriders}
use Rattle.jn_reasons.specs.Listed.{body_causes, causes}
use Rattle.jn_reasons_law.specs.declared.item.Item.TheVariants.{AtSlot}
use Rattle.jn_origins.specs.Targets.{AreSame, over}
use Rattle.jn_origins.proofs.Steps.{start_added}
use Rattle.jn_origins.proofs.Sending.{same_tasks}
use Rattle.jn_origins.proofs.origins.LeastOrigins.slot_causes.Goals as goal

pub returns : goal.returns
returns c =
    let P = c.self.inside.program.now in
    let s = c.self.inside.sig.now in
    let ts = c.self.inside.tables.now in
    let k = c.args.slot.0 in
    let bit = c.args.bit in
    let first = c.add_started.new.list.items in
    let second = c.add_bodies.new.list.items in
    let third = c.add_overriders.new.list.items in
    let senders = c.senders_of-sending.result.now in
    let parts = c.self.invariant in
    let sent = subst (λ (g : Ground). second ≡ first ++ over (λ b. body_causes g.program b (slice_index_or g.tables b []) k bit) senders) (sym c.self.view_is) c.in_ok-add_bodies.ensures in
    subst (λ (g : Ground). AreSame third (causes g.program g.sig g.tables (AtSlot k bit))) c.self.view_is
    (same_tasks P s ts k bit c.as_slice-all.result.now c.self.inside.senders.items senders first second third (subst (AreOverriders P) (sym c.as_slice-all.ensures.value) parts.overriders) parts.senders
    (c.senders_of-sending.ensures ∙ ap (λ (lists : List (List ℕ)). slice_index_or lists k []) c.deref.ensures.value)
    (start_added P c.self.inside.start k bit c.new-list.result.items first c.new-list.ensures.items parts.starts c.in_ok-add_started.ensures)
    sent c.in_ok-add_overriders.ensures)
