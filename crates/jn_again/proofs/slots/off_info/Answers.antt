use Rattle.std.proofs.Common.{◌≡◌, true, List, Option, subst}
use Rattle.std.specs.Prelude.{◌↔◌, slice_index}
use Rattle.jn_base.specs.declared.number.SlotNo.{SlotNo}
use Rattle.jn_recheck_law.specs.Unread.{AreUnlost}
use Rattle.jn_recheck_law.specs.Slots.{slot_list, slot_lists}
use Rattle.jn_again.proofs.Clear.{clear_three}
use Rattle.jn_again.proofs.slots.off_info.Goals as goal

pub returns : goal.returns
returns c =
    let bits = slice_index c.args.bits.now in
    let m = c.args.method.now in
    let params = subst (λ (xs : List (Option SlotNo)). (c.off_slots-params.result ≡ true) ↔ AreUnlost bits (slot_lists xs)) c.as_slice.ensures c.off_slots-params.ensures in
    clear_three bits (slot_list m.receiver) (slot_lists m.param_slots) (slot_list m.result_slot) c.off_slot-receiver.result c.off_slots-params.result c.off_slot-result.result c.all_of.result c.all_of.ensures c.off_slot-receiver.ensures params c.off_slot-result.ensures
