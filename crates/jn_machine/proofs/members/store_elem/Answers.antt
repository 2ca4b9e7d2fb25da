use Rattle.std.proofs.Common.{◌≡◌, sym, ◌∙◌, ap, length, arith}
use Rattle.std.proofs.lemmas.List.{with_items_is}
use Rattle.std.specs.Prelude.{slice_get}
use Rattle.jn_heap.specs.State.{Ends}
use Rattle.jn_heap.specs.Steps.{put_thing}
use Rattle.jn_machine.specs.Ends.{end_of}
use Rattle.jn_machine.specs.StateView.{state_of}
use Rattle.jn_machine.specs.Parts.{store_as}
use Rattle.jn_machine.proofs.Pieces.{store_is}
use Rattle.jn_machine.proofs.members.store_elem.Goals as goal

pub returns-in-Fails : goal.returns-in-Fails
returns-in-Fails c =
    let same : c.deref_mut.result.now ≡ c.args.state.now.heap.items = let e = c.deref_mut.ensures.value in cc in
    let may = c.may_store-may.ensures in
    let seen : c.deref.result.now ≡ c.args.state.now.heap.items = let e = c.deref.ensures.value in cc in
    let len : length c.set_at.new.heap ≡ c.args.state.now.heap.len = let k = c.set_at.auto.heap in let e = ap length same in let w = c.args.state.now.heap.ok.0 in omega (k, e, w, arith) in
    λ out.
    let items = c.args.state.now.heap.items in
    let did = c.in-Fails.ensures (state_of c.args.state.now out) (sym same) in
    let is = store_is c.args.program.now items (slice_get items c.args.place) c.args.at c.args.value in
    ap (put_thing (state_of c.args.state.now out) c.args.place) (is ∙ ap (store_as (slice_get items c.args.place) c.args.at c.args.value) (sym (rw seen at may))) ∙ (rw same at did)
    ∙ ap (λ h. Ends (end_of c.in-Fails.end) (record (state_of c.args.state.now out) { heap = h })) (sym (with_items_is c.args.state.now.heap c.set_at.new.heap len))
