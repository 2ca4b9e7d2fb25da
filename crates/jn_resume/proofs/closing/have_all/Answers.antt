use Rattle.std.proofs.Common.{◌<◌, length, get_or, arith}
use Rattle.std.specs.Prelude.{slice_index}
use Rattle.jn_resume.proofs.AtRest.{each_within, output_at}
use Rattle.jn_resume.proofs.closing.have_all.Goals as goal

pub loop-at-preserved : goal.loop-at-preserved
loop-at-preserved c =
    let inside : c.loop-at.at < length c.args.puts.now = let t = c.loop-at-test.true in omega arith in
    let o = get_or c.args.puts.now c.loop-at.at (record { 0 = 0 }, 0) in
    each_within c.args.puts.now c.loop-at.at o (λ w. slice_index c.args.words.now w) (output_at c.args.puts.now c.loop-at.at (record { 0 = 0 }, 0) inside) (c.has_bits.ensures c.if-not-has_bits.false) c.loop-at.invariant
