use Rattle.std.proofs.Common.{◌++◌, ◌∙◌, None, arith}
use Rattle.jn_transfer.specs.Pairs.{slot_sends}
use Rattle.jn_contrib.proofs.Gathering.{slots_step, slots_end}
use Rattle.jn_contrib.proofs.pairs.send_slots.Goals as goal

pub loop-i-preserved : goal.loop-i-preserved
loop-i-preserved c =
    slots_step c.args.program.now c.args.sig.now c.args.from.now c.args.to.now c.loop-i.i None c.loop-i.list.items c.send_slot.new.list.items _ (omega (arith, c.loop-i-test.true))
    (c.in_ok-send_slot.ensures ∙ (λ j. c.loop-i.list.items ++ slot_sends c.args.program.now c.args.sig.now (c.slot_at-low.ensures j) (c.slot_at-high.ensures j)))
    c.loop-i.invariant

pub returns : goal.returns
returns c =
    slots_end c.args.program.now c.args.sig.now c.args.from.now c.args.to.now c.loop-i.i c.loop-i.list.items _ (omega (arith, c.loop-i-test.false)) c.loop-i.invariant
