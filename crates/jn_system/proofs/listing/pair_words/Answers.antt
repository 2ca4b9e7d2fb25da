use Rattle.std.proofs.Common.{◌∙◌, List, ℕ, [], sym, subst}
use Rattle.std.specs.Prelude.{Option}
use Rattle.jn_base.specs.declared.number.SlotNo.{SlotNo}
use Rattle.jn_base.specs.declared.number.WordNo.{WordNo}
use Rattle.jn_points.specs.Lookup.{method_at}
use Rattle.jn_transfer.specs.Contributions.{result_slot_of}
use Rattle.jn_transfer.specs.Pairs.{under}
use Rattle.jn_inference_law.specs.Reading.{slot_list, methods_reads}
use Rattle.jn_system.specs.ReadLists.{Adds}
use Rattle.jn_system.proofs.ListSteps.{adds_both}
use Rattle.jn_system.proofs.listing.pair_words.Goals as goal

pub returns : goal.returns
returns c =
    let P = c.args.program.now in
    let n = c.args.count in
    let m = c.args.overrider.now.method in
    let first = c.add_slot.new.list.items in
    let last = c.add_methods.new.list.items in
    adds_both n (slot_list (result_slot_of (method_at P m))) (methods_reads P (under P m)) [] first last
    (subst (λ (o : Option SlotNo). Adds n (slot_list o) [] first) c.result_slot-slot.ensures (subst (λ (l : List WordNo). Adds n (slot_list c.result_slot-slot.result) l first) c.new-list.ensures.items c.in_ok-add_slot.ensures))
    (subst (λ (ks : List ℕ). Adds n (methods_reads P ks) first last) (c.as_slice.ensures ∙ c.requires.under) c.in_ok-add_methods.ensures)
