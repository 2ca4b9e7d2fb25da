use Rattle.std.proofs.Common.{◌+◌, ◌<◌, length, false, ◌&&◌, ap, ◌∙◌, arith}
use Rattle.std.specs.Prelude.{slice_index_or}
use Rattle.jn_env.specs.Keys.{is_key}
use Rattle.jn_env.proofs.Along.{on_next}
use Rattle.jn_env.proofs.Lacking.{on_skip}
use Rattle.jn_env.proofs.bits.is_known.Goals as goal

pub loop-at-init : goal.loop-at-init
loop-at-init c = on_skip (is_key c.args.reg.0 c.args.field.0) c.args.keys.now c.args.env.now.facts 0 c.first-at.result (omega arith) c.first-at.ensures

pub loop-at-preserved : goal.loop-at-preserved
loop-at-preserved c =
    let at = c.loop-at.at in
    let keys = c.args.keys.now in
    let facts = c.args.env.now.facts in
    let test = is_key c.args.reg.0 c.args.field.0 in
    let lt : at < length keys = omega (arith, c.loop-at-test.true, c.len-count.ensures) in
    on_skip test keys facts (at + 1) c.next-at.result (omega (arith, c.next-at.ensures.behind)) c.next-at.ensures.lacks
    ∙ on_next test keys facts at c.at.result c.is_known_as.result _ lt (c.is_known_as.ensures ∙ ap (λ k. slice_index_or facts at false && test k) c.at.ensures) c.if-is_known_as.false c.loop-at.invariant
