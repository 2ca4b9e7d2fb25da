use Rattle.std.proofs.Common.{◌≡◌, ℕ, ◌<◌, length, get_or, bit_or, sym, subst, arith}
use Rattle.std.specs.Prelude.{slice_index}
use Rattle.jn_sigtable.specs.System.{Within, bits_for}
use Rattle.jn_resume.proofs.AtRest.{output_at}
use Rattle.jn_again.proofs.Gone.{gone_more, grows_on, one_lost}
use Rattle.jn_again.proofs.masks.lose.Goals as goal

pub loop-at-preserved : goal.loop-at-preserved
loop-at-preserved c =
    let inside : c.loop-at.at < length c.args.puts.now = let t = c.loop-at-test.true in omega arith in
    let o = get_or c.args.puts.now c.loop-at.at (record { 0 = 0 }, 0) in
    let long : length c.loop-at.lost ≡ length c.args.lost.now = c.loop-at.invariant.0.0 in (
      grows_on c.args.lost.now c.loop-at.lost c.add_bits.new.masks c.loop-at.invariant.0 c.add_bits.ensures.grows,
      gone_more (length c.args.lost.now) c.args.puts.now c.loop-at.at o (slice_index c.args.start.now) (bits_for c.args.again.now) c.loop-at.lost c.add_bits.new.masks (output_at c.args.puts.now c.loop-at.at (record { 0 = 0 }, 0) inside) c.add_bits.ensures.grows
          (λ lt. subst (λ (s : ℕ). Within o.1 (bit_or (bit_or s (bits_for c.args.again.now o.0.0)) (slice_index c.add_bits.new.masks o.0.0))) c.word_at.ensures
          (one_lost o.1 c.word_at.result c.bits_of.result (bits_for c.args.again.now o.0.0) (slice_index c.add_bits.new.masks o.0.0) c.bits_of.ensures (c.add_bits.ensures.added (subst (λ (n : ℕ). o.0.0 < n) (sym long) lt))))
          c.loop-at.invariant.1,
    )
