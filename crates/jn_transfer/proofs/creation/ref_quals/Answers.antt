use Rattle.std.proofs.Common.{◌<◌, ⊎_elim, inl, inr, ◌≤◌, ◌++◌, ◌∷◌, [], cond, None, length, ap, ◌∙◌, arith}
use Rattle.std.specs.Prelude.{slice_index_or}
use Rattle.std.proofs.lemmas.List.{get_or_default}
use Rattle.jn_points.specs.Lookup.{has_slot}
use Rattle.jn_transfer.proofs.Refs.{ref_step, ref_end, no_operand}
use Rattle.jn_transfer.proofs.creation.ref_quals.Goals as goal

pub loop-i-preserved : goal.loop-i-preserved
loop-i-preserved c =
    let slots = c.args.slots.now in
    let args = c.args.args.now in
    let i = c.loop-i.i in
    let s = slice_index_or slots i None in
    let a = slice_index_or args i no_operand in
    let lt : i < length slots = omega (arith, c.loop-i-test.true, c.least-i-end.ensures.left) in
    let lu : i < length args = omega (arith, c.loop-i-test.true, c.least-i-end.ensures.right) in
    ref_step c.args.env.now slots args i s a c.loop-i.quals.items c.push_reference.new.quals.items _ lt lu (get_or_default slots i None s lt) (get_or_default args i no_operand a lu)
    (c.in_ok-push_reference.ensures ∙ ap (λ q. c.loop-i.quals.items ++ cond (has_slot s) (q ∷ []) []) c.qual.ensures) c.loop-i.invariant

pub returns : goal.returns
returns c =
    ref_end c.args.env.now c.args.slots.now c.args.args.now c.loop-i.i c.loop-i.quals.items _
    (⊎_elim (λ (h : length c.args.slots.now ≤ c.least-i-end.result). inl (omega (arith, h, c.loop-i-test.false))) (λ (h : length c.args.args.now ≤ c.least-i-end.result). inr (omega (arith, h, c.loop-i-test.false))) c.least-i-end.ensures.one)
    c.loop-i.invariant
