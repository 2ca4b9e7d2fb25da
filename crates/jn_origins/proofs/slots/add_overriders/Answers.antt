use Rattle.std.proofs.Common.{◌<◌, ℕ, length, ap, arith}
use Rattle.std.specs.Prelude.{slice_index_or}
use Rattle.jn_transfer.specs.Pairs.{overriders}
use Rattle.jn_reasons.specs.Listed.{pair_causes}
use Rattle.jn_origins.proofs.Steps.{firsts_more, got_at, method_is}
use Rattle.jn_origins.proofs.slots.add_overriders.Goals as goal

pub add_overrider-requires-clause-inside : goal.add_overrider-requires-clause-inside
add_overrider-requires-clause-inside c =
    let lt : c.loop-j.j < length c.args.overriders.now = omega (arith, c.loop-j-test.true) in
    c.requires.overriders.inside c.loop-j.j c.index-overriders-j.result (got_at c.args.program.now c.args.overriders.now c.loop-j.j c.index-overriders-j.result lt c.index-overriders-j.is)

pub add_overrider-requires-clause-under : goal.add_overrider-requires-clause-under
add_overrider-requires-clause-under c =
    let lt : c.loop-j.j < length c.args.overriders.now = omega (arith, c.loop-j-test.true) in
    c.requires.overriders.under c.loop-j.j c.index-overriders-j.result (got_at c.args.program.now c.args.overriders.now c.loop-j.j c.index-overriders-j.result lt c.index-overriders-j.is)

pub loop-j-preserved : goal.loop-j-preserved
loop-j-preserved c =
    let lt : c.loop-j.j < length c.args.overriders.now = omega (arith, c.loop-j-test.true) in
    firsts_more (λ j. pair_causes c.args.program.now c.args.sig.now c.args.slot.0 c.args.bit (slice_index_or (overriders c.args.program.now) j 0)) c.loop-j.j c.args.list.now.items c.loop-j.list.items c.add_overrider.new.list.items
    (pair_causes c.args.program.now c.args.sig.now c.args.slot.0 c.args.bit c.index-overriders-j.result.method)
    (ap (λ (m : ℕ). pair_causes c.args.program.now c.args.sig.now c.args.slot.0 c.args.bit m) (method_is c.args.program.now c.args.overriders.now c.loop-j.j c.index-overriders-j.result c.requires.overriders lt c.index-overriders-j.is))
    c.in_ok-add_overrider.ensures c.loop-j.invariant
