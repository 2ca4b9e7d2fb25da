use Rattle.std.proofs.Common.{arith, ◌+◌, ◌∙◌}
use Rattle.jn_renumber.proofs.Interning.{short, further, numbers_further, pushed}
use Rattle.jn_renumber.proofs.merging.merge.Goals as goal

pub intern-requires : goal.intern-requires
intern-requires c = short c.args.names.now c.loop-at.names c.args.other.now c.loop-at.at (omega arith) c.loop-at.invariant.0 c.requires

pub returns-then-is_err-clause-part : goal.returns-then-is_err-clause-part
returns-then-is_err-clause-part c =
    (c.loop-at.at + 1, omega arith, further _ _ _ c.args.other.now c.loop-at.at _ c.text.ensures c.loop-at.invariant.0 c.in_ok-number.ensures.names)

pub loop-at-preserved : goal.loop-at-preserved
loop-at-preserved c = (
  further _ _ _ c.args.other.now c.loop-at.at _ c.text.ensures c.loop-at.invariant.0 c.in_ok-number.ensures.names,
  pushed _ _ c.loop-at.numbers.items c.in_ok-number.number c.push.ensures.items (grind arith) ∙ numbers_further _ _ c.args.other.now _ c.in_ok-number.number c.loop-at.at _ c.text.ensures c.loop-at.invariant.0 c.loop-at.invariant.1 c.in_ok-number.ensures.number,
)
