use Rattle.std.proofs.Common.{List, ap, sym, ◌∙◌}
use Rattle.std.specs.Prelude.{slice_index_or}
use Rattle.jn_quals.specs.Order.{no_qual}
use Rattle.jn_quals.specs.Qualifier.{Qualifier}
use Rattle.jn_reasons_law.specs.Items.{on, Stands}
use Rattle.jn_reasons_law.specs.declared.item.Item.{Item}
use Rattle.jn_reasons_law.specs.declared.item.Item.TheVariants.{AtSlot}
use Rattle.jn_lsp_solved.proofs.reasons.notes_of_bit.Goals as goal

pub notes_from-requires : goal.notes_from-requires
notes_from-requires c =
    let v = c.args.of.now in
    let f = c.facts.ensures in
    let x : Item = AtSlot c.args.slot c.args.bit in
    let st : Stands v.sig v.tables x = ap (λ (s : List Qualifier). on c.args.bit (slice_index_or s c.args.slot no_qual)) (sym c.basis-basis.ensures.sig) ∙ ap (λ (q : Qualifier). on c.args.bit q) (sym c.get.ensures) ∙ sym c.is_on.ensures ∙ c.if-is_on.true in
    c.what_stands_has_a_chain.ensures v.program v.sig v.tables f.inferable f.least f.solved.long f.solved.least x st
