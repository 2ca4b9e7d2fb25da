use Rattle.std.proofs.Common.{◌<◌, length, arith}
use Rattle.jn_diff.proofs.Pairing.{count_more, rest_less}
use Rattle.jn_diff.proofs.line.line_count.Goals as goal

pub loop-rest-smaller : goal.loop-rest-smaller
loop-rest-smaller c = let some = c.loop-rest-test.true in rest_less c.loop-rest.rest.now c.behind_line-rest.result.now (grind (arith, some)) c.behind_line-rest.ensures

pub loop-rest-preserved : goal.loop-rest-preserved
loop-rest-preserved c =
    let some = c.loop-rest-test.true in
    let there : 0 < length c.loop-rest.rest.now = grind (arith, some) in
    let less = rest_less c.loop-rest.rest.now c.behind_line-rest.result.now there c.behind_line-rest.ensures in
    let more = count_more c.loop-rest.rest.now c.behind_line-rest.result.now there c.behind_line-rest.ensures in
    let few = c.loop-rest.invariant.few in
    let lines = c.loop-rest.invariant.lines in
    record { few = omega (arith, few, less); lines = omega (arith, lines, more) }
