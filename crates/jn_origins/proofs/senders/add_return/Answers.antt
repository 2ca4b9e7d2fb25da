use Rattle.std.proofs.Common.{ℕ, List, Option, subst}
use Rattle.jn_base.specs.declared.number.SlotNo.{SlotNo}
use Rattle.jn_points.specs.Lookup.{method_in}
use Rattle.jn_env.specs.Keys.{own_keys}
use Rattle.jn_transfer.specs.Contributions.{result_slot_of}
use Rattle.jn_origins.specs.Targets.{Added, fields_list, slot_list}
use Rattle.jn_origins.proofs.Sending.{added_both}
use Rattle.jn_origins.proofs.senders.add_return.Goals as goal

pub returns : goal.returns
returns c =
    let P = c.args.program.now in
    let b = c.args.body.0 in
    let a = c.args.lists.now.items in
    let d = c.add_slot.new.lists.items in
    let e = c.add_fields.new.lists.items in
    added_both P b (slot_list (result_slot_of (method_in P b))) (fields_list P (own_keys P b)) a d e
    (subst (λ (s : Option SlotNo). Added P b (slot_list s) a d) c.body_result.ensures c.in_ok-add_slot.ensures)
    (subst (λ (fs : List ℕ). Added P b (fields_list P fs) d e) c.requires.own c.in_ok-add_fields.ensures)
