use Rattle.std.proofs.Common.{bit_and, bit_or, bit_xor}
use Rattle.std.specs.Prelude.{slice_index}
use Rattle.jn_sigtable.specs.System.{Within}
use Rattle.jn_again.proofs.Gone.{each_more, first_lost}
use Rattle.jn_again.proofs.masks.gone_from_start.Goals as goal

pub loop-at-preserved : goal.loop-at-preserved
loop-at-preserved c =
    let b = slice_index c.args.before.now c.loop-at.at in
    let s = slice_index c.args.start.now c.loop-at.at in
    each_more (λ w x. Within (slice_index c.args.before.now w) (bit_or (slice_index c.args.start.now w) x)) c.loop-at.at c.loop-at.lost.items c.push.new.self.items (bit_xor b (bit_and b s)) c.in_ok-push.ensures.items c.loop-at.invariant.0 c.loop-at.invariant.1 (first_lost b s)
