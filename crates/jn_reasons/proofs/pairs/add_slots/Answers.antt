use Rattle.std.proofs.Common.{◌++◌, ◌∙◌, None, arith}
use Rattle.jn_reasons_law.specs.Sources.{from_slot_to}
use Rattle.jn_reasons.proofs.Overridden.{slots_step, slots_end}
use Rattle.jn_reasons.proofs.pairs.add_slots.Goals as goal

pub loop-i-preserved : goal.loop-i-preserved
loop-i-preserved c =
    slots_step c.args.wanted.0 c.args.bit c.args.from.now c.args.to.now c.loop-i.i None c.loop-i.list.items c.add_from.new.list.items _ (omega (arith, c.loop-i-test.true))
    (c.in_ok-add_from.ensures ∙ (λ j. c.loop-i.list.items ++ from_slot_to c.args.wanted.0 (c.slot_at-low.ensures j) (c.slot_at-high.ensures j) c.args.bit))
    c.loop-i.invariant

pub returns : goal.returns
returns c =
    slots_end c.args.wanted.0 c.args.bit c.args.from.now c.args.to.now c.loop-i.i c.loop-i.list.items _ (omega (arith, c.loop-i-test.false)) c.loop-i.invariant
