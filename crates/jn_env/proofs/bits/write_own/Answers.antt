use Rattle.std.proofs.Common.{◌+◌, ◌<◌, ◌≤◌, length, take, arith, ◌∙◌}
use Rattle.std.proofs.lemmas.List.{get_or_default}
use Rattle.jn_env.specs.Code.{is_field}
use Rattle.jn_env.proofs.Lacking.{written_first, written_next}
use Rattle.jn_env.proofs.Written.{length-so_far, written_step}
use Rattle.jn_env.proofs.bits.write_own.Goals as goal

pub loop-at-init : goal.loop-at-init
loop-at-init c = written_first (is_field c.args.field) c.args.wanted c.args.own.now c.args.bits.now c.args.first c.first-at.result c.first-at.ensures

pub write_if-requires : goal.write_if-requires
write_if-requires c =
    let le : c.args.first ≤ length c.args.bits.now = omega (arith, c.requires.inside) in
    omega (arith, c.requires.inside, c.loop-at-test.true, c.len-count.ensures, length-so_far (is_field c.args.field) c.args.wanted (take c.loop-at.at c.args.own.now) c.args.bits.now c.loop-at.bits c.args.first le c.loop-at.invariant)

pub loop-at-preserved : goal.loop-at-preserved
loop-at-preserved c =
    let test = is_field c.args.field in
    let own = c.args.own.now in
    let old = c.args.bits.now in
    let at = c.loop-at.at in
    let lt : at < length own = omega (arith, c.loop-at-test.true, c.len-count.ensures) in
    written_next test c.args.wanted own old c.write_if.new.bits c.args.first (at + 1) c.next-at.result (omega (arith, c.next-at.ensures.behind)) c.next-at.ensures.lacks (written_step test c.args.wanted own old c.loop-at.bits c.write_if.new.bits c.args.first at c.at.result c.is_field.result lt (omega (arith, c.requires.inside)) (c.at.ensures ∙ get_or_default own at 0 c.at.result lt) c.is_field.ensures c.loop-at.invariant c.write_if.ensures)
