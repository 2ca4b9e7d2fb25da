use Rattle.std.proofs.Common.{◌<◌, Option, length, subst, arith}
use Rattle.jn_base.specs.declared.number.SlotNo.{SlotNo}
use Rattle.jn_origins.specs.Targets.{Added, slot_list}
use Rattle.jn_origins.proofs.Sending.{fields_more}
use Rattle.jn_origins.proofs.senders.add_fields.Goals as goal

pub loop-field-preserved : goal.loop-field-preserved
loop-field-preserved c =
    let P = c.args.program.now in
    let b = c.args.body.0 in
    let old = c.loop-field.lists.items in
    let new = c.add_slot.new.lists.items in
    let lt : c.loop-field.field-index < length c.args.fields.now = omega (arith, c.loop-field-test.true) in
    fields_more P b c.args.fields.now c.loop-field.field-index _ c.args.lists.now.items old new lt c.loop-field.invariant
    (subst (λ (s : Option SlotNo). Added P b (slot_list s) old new) c.field_slot.ensures c.in_ok-add_slot.ensures)
