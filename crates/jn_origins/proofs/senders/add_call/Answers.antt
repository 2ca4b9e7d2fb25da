use Rattle.std.proofs.Common.{List, Option, subst}
use Rattle.jn_base.specs.declared.number.SlotNo.{SlotNo}
use Rattle.jn_points.specs.Lookup.{method_at, slots_of}
use Rattle.jn_transfer.specs.Contributions.{receiver_slot_of}
use Rattle.jn_origins.specs.Targets.{Added, slot_list, slots_list}
use Rattle.jn_origins.proofs.Sending.{added_both}
use Rattle.jn_origins.proofs.senders.add_call.Goals as goal

pub returns : goal.returns
returns c =
    let P = c.args.program.now in
    let b = c.args.body.0 in
    let m = method_at P c.args.method.0 in
    let a = c.args.lists.now.items in
    let d = c.add_slots.new.lists.items in
    let e = c.add_slot.new.lists.items in
    added_both P b (slots_list (slots_of m)) (slot_list (receiver_slot_of m)) a d e
    (subst (λ (l : List (Option SlotNo)). Added P b (slots_list l) a d) c.param_slots.ensures c.in_ok-add_slots.ensures)
    (subst (λ (s : Option SlotNo). Added P b (slot_list s) d e) c.receiver_slot.ensures c.in_ok-add_slot.ensures)
