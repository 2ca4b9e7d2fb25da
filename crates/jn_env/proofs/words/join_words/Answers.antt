use Rattle.std.proofs.Common.{◌≡◌, ◌<◌, ◌||◌, not, nat_eq, bit_or, length, ap, ◌∙◌, add-one, arith}
use Rattle.std.specs.Prelude.{slice_set, slice_index_or}
use Rattle.jn_env.proofs.Pairs.{so_far_at, so_far_step}
use Rattle.jn_env.proofs.Rises.{rises_step}
use Rattle.jn_env.proofs.words.join_words.Goals as goal

pub loop-i-preserved : goal.loop-i-preserved
loop-i-preserved c =
    let xs = c.args.left.now in
    let ys = c.args.right.now in
    let i = c.loop-i.i in
    let now = c.loop-i.left in
    let x : slice_index_or now i 0 ≡ slice_index_or xs i 0 = ap (λ zs. slice_index_or zs i 0) c.loop-i.invariant.words ∙ so_far_at bit_or xs ys i 0 c.requires in
    let y = slice_index_or ys i 0 in
    let inside : i < length xs = omega (arith, c.loop-i-test.true, c.loop-i.auto.left) in
    record {
      words = rw add-one (ap (λ z. slice_set now i (bit_or z y)) x ∙ ap (λ zs. slice_set zs i (bit_or (slice_index_or xs i 0) y)) c.loop-i.invariant.words ∙ so_far_step bit_or xs ys i 0 c.requires inside);
      risen = rises_step xs ys i c.loop-i.risen c.either-risen.result _ inside c.requires (c.either-risen.ensures ∙ ap (λ z. c.loop-i.risen || not (nat_eq (bit_or z y) z)) x) c.loop-i.invariant.risen;
    }
