use Rattle.std.proofs.Common.{◌+◌, ◌<◌, ◌≤◌, length, take, arith}
use Rattle.jn_env.specs.Code.{picks}
use Rattle.jn_env.proofs.Lacking.{written_first, written_next}
use Rattle.jn_env.proofs.Written.{length-so_far, written_step}
use Rattle.jn_env.proofs.bits.write_keys.Goals as goal

pub loop-at-init : goal.loop-at-init
loop-at-init c = written_first (picks c.args.which) c.args.wanted c.args.keys.now c.args.bits.now c.args.first c.first-at.result c.first-at.ensures

pub write_if-requires : goal.write_if-requires
write_if-requires c =
    let le : c.args.first ≤ length c.args.bits.now = omega (arith, c.requires.inside) in
    omega (arith, c.requires.inside, c.loop-at-test.true, c.len-count.ensures, length-so_far (picks c.args.which) c.args.wanted (take c.loop-at.at c.args.keys.now) c.args.bits.now c.loop-at.bits c.args.first le c.loop-at.invariant)

pub loop-at-preserved : goal.loop-at-preserved
loop-at-preserved c =
    let test = picks c.args.which in
    let keys = c.args.keys.now in
    let old = c.args.bits.now in
    let at = c.loop-at.at in
    let lt : at < length keys = omega (arith, c.loop-at-test.true, c.len-count.ensures) in
    written_next test c.args.wanted keys old c.write_if.new.bits c.args.first (at + 1) c.next-at.result (omega (arith, c.next-at.ensures.behind)) c.next-at.ensures.lacks (written_step test c.args.wanted keys old c.loop-at.bits c.write_if.new.bits c.args.first at c.at.result c.picks.result lt (omega (arith, c.requires.inside)) c.at.ensures c.picks.ensures c.loop-at.invariant c.write_if.ensures)
