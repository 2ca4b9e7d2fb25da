use Rattle.std.proofs.Common.{◌<◌, arith}
use Rattle.jn_reporters.proofs.Around.{begins_at}
use Rattle.jn_reporters.proofs.excerpt.begins.Goals as goal

pub returns-else-at-eq0 : goal.returns-else-at-eq0
returns-else-at-eq0 c =
    let other = c.if-at-eq0.false in
    let some : 0 < c.args.at = omega (arith, other) in
    begins_at c.args.text.now c.args.at c.is_line_end.result some c.requires c.is_line_end.ensures
