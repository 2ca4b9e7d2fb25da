-- Bits that can't be lost are among the new least words'.
use Rattle.std.proofs.Common.{◌≡◌, ℕ, ◌<◌, Bool, true, false, List, length, bit_or, bit_and, refl, sym, ap, ◌∙◌, subst, ⊎_elim, arith}
use Rattle.std.specs.Prelude.{slice_index, map}
use Rattle.std.specs.List.{range_with_len}
use Rattle.std.specs.Int.{bit_at}
use Rattle.jn_base.specs.declared.number.WordNo.{WordNo}
use Rattle.std.proofs.lemmas.List.FromFn.{get_or-map-range_with_len, length-map-range_with_len}
use Rattle.std.proofs.lemmas.Nat.Bits.{bit_at_and, bit_at_or}
use Rattle.jn_sigtable.specs.System.{Covers, IsClosed, IsLawful, IsLeast, System, Within, bits_for, least}
use Rattle.jn_sigtable.proofs.Bits.{or_within, within_or_l, within_trans}
use Rattle.jn_resume.specs.Keepable.{AgreesBut, AreKeepable, IsBlind}

and_right : (a b : ℕ) → Within (bit_and a b) b
and_right a b i = omega (arith, bit_at_and a b i)

or_mono : (a b c : ℕ) → Within a b → Within (bit_or a c) (bit_or b c)
or_mono a b c h i = let p = h i in omega (arith, bit_at_or a c i, bit_at_or b c i)

-- the bits of l that n has or that may be lost
kept : ℕ → ℕ → ℕ → ℕ
kept l n k = bit_or (bit_and l n) (bit_and l k)

within_kept : (x l n k : ℕ) → Within x l → Within x (bit_or n k) → Within x (kept l n k)
unfolding kept
within_kept x l n k h j i =
    let p = h i in
    let q = j i in
    omega (arith, bit_at_or n k i, bit_at_and l n i, bit_at_and l k i, bit_at_or (bit_and l n) (bit_and l k) i)

kept_old : (l n k : ℕ) → Within (kept l n k) l
unfolding kept
kept_old l n k i = omega (arith, bit_at_and l n i, bit_at_and l k i, bit_at_or (bit_and l n) (bit_and l k) i)

kept_new : (l n k : ℕ) → Within (kept l n k) (bit_or n k)
unfolding kept
kept_new l n k i = omega (arith, bit_at_or n k i, bit_at_and l n i, bit_at_and l k i, bit_at_or (bit_and l n) (bit_and l k) i)

kept_there : (l n k i : ℕ) → bit_at k i ≡ 0 → bit_at (kept l n k) i ≡ bit_at (bit_and l n) i
unfolding kept
kept_there l n k i e = omega (arith, e, bit_at_and l n i, bit_at_and l k i, bit_at_or (bit_and l n) (bit_and l k) i)

module _ (old new : System) (before start : List ℕ) (changed : ℕ → Bool) (lost : ℕ → ℕ) (law : IsLawful old) (law_new : IsLawful new) (g : AgreesBut old new changed) (one : IsLeast old before (least old before)) (two : IsLeast new start (least new start)) (count : length start ≡ old.words) (h : AreKeepable old new before start (least old before) changed lost) where
  abbrev L : List ℕ
  L = least old before

  abbrev N : List ℕ
  N = least new start

  abbrev low : ℕ → ℕ
  low w = bit_and (slice_index L w) (slice_index N w)

  abbrev high : ℕ → ℕ
  high w = kept (slice_index L w) (slice_index N w) (lost w)

  abbrev below : List ℕ
  below = map low (range_with_len 0 old.words)

  abbrev meet : List ℕ
  meet = map high (range_with_len 0 old.words)

  below_at : (w : ℕ) → w < old.words → slice_index below w ≡ low w
  below_at w lt = get_or-map-range_with_len low 0 old.words w w 0 lt (omega arith)

  meet_at : (w : ℕ) → w < old.words → slice_index meet w ≡ high w
  meet_at w lt = get_or-map-range_with_len high 0 old.words w w 0 lt (omega arith)

  below_long : length below ≡ old.words
  below_long = length-map-range_with_len low 0 old.words

  meet_long : length meet ≡ old.words
  meet_long = length-map-range_with_len high 0 old.words

  meet_old : Covers old.words meet L
  meet_old w lt = subst (λ (x : ℕ). Within x (slice_index L w)) (sym (meet_at w lt)) (kept_old (slice_index L w) (slice_index N w) (lost w))

  below_new : Covers old.words below N
  below_new w lt = subst (λ (x : ℕ). Within x (slice_index N w)) (sym (below_at w lt)) (and_right (slice_index L w) (slice_index N w))

  start_new : (w : ℕ) → w < old.words → Within (slice_index start w) (slice_index N w)
  start_new w lt = two.above w (subst (λ (n : ℕ). w < n) g.words lt)

  out_old : (b : ℕ) → b < old.bodies → (w : ℕ) → w < old.words → Within (bits_for (old.output b meet) w) (slice_index L w)
  out_old b inside w lt = within_trans _ (bits_for (old.output b L) w) _ (law.monotone b meet L inside meet_long one.closed.count meet_old w lt) (one.closed.closed b inside w lt)

  out_last : (b : ℕ) → b < old.bodies → (w : ℕ) → w < old.words → Within (bits_for (old.output b meet) w) (bits_for (old.output b L) w)
  out_last b inside w lt = law.monotone b meet L inside meet_long one.closed.count meet_old w lt

  abbrev Puts : ℕ → ℕ → Type 0
  Puts b w = Within (bits_for (old.output b meet) w) (bit_or (slice_index N w) (lost w))

  -- a changed body
  out_changed : (b : ℕ) → b < old.bodies → changed b ≡ true → (w : ℕ) → w < old.words → Puts b w
  out_changed b inside c w lt =
      let into : w < new.words = subst (λ (n : ℕ). w < n) g.words lt in
      let inner : b < new.bodies = subst (λ (n : ℕ). b < n) g.bodies inside in
      let puts : Within (bits_for (new.output b start) w) (slice_index N w) =
      within_trans _ (bits_for (new.output b N) w) _ (law_new.monotone b start N inner (count ∙ g.words) two.closed.count two.above w into) (two.closed.closed b inner w into) in
      within_trans _ (bits_for (old.output b L) w) _ (out_last b inside w lt)
      (within_trans _ (bit_or (bit_or (slice_index start w) (bits_for (new.output b start) w)) (lost w)) _ (h.sent b inside c w lt)
      (or_mono (bit_or (slice_index start w) (bits_for (new.output b start) w)) (slice_index N w) (lost w) (or_within _ _ _ (start_new w lt) puts)))

  -- one whose output may be lost
  out_follower : (b : ℕ) → b < old.bodies → ((w : ℕ) → w < old.words → Within (bits_for (old.output b L) w) (bit_or (slice_index start w) (lost w))) → (w : ℕ) → w < old.words → Puts b w
  out_follower b inside gone w lt =
      within_trans _ (bits_for (old.output b L) w) _ (out_last b inside w lt)
      (within_trans _ (bit_or (slice_index start w) (lost w)) _ (gone w lt) (or_mono (slice_index start w) (slice_index N w) (lost w) (start_new w lt)))

  -- one that is blind for what may be lost
  out_other : (b : ℕ) → b < old.bodies → changed b ≡ false → IsBlind old lost b → (w : ℕ) → w < old.words → Puts b w
  out_other b inside c blind w lt =
      let into : w < new.words = subst (λ (n : ℕ). w < n) g.words lt in
      let inner : b < new.bodies = subst (λ (n : ℕ). b < n) g.bodies inside in
      let same : old.output b meet ≡ new.output b below =
      blind meet below meet_long below_long (λ u ult i none. ap (λ (x : ℕ). bit_at x i) (meet_at u ult) ∙ kept_there (slice_index L u) (slice_index N u) (lost u) i none ∙ ap (λ (x : ℕ). bit_at x i) (sym (below_at u ult)))
      ∙ g.same b inside c below below_long in
      let over : Covers new.words below N = λ u ult. below_new u (subst (λ (n : ℕ). u < n) (sym g.words) ult) in
      let puts : Within (bits_for (new.output b below) w) (slice_index N w) =
      within_trans _ (bits_for (new.output b N) w) _ (law_new.monotone b below N inner (below_long ∙ g.words) two.closed.count over w into) (two.closed.closed b inner w into) in
      subst (λ (x : List (WordNo × ℕ)). Within (bits_for x w) (bit_or (slice_index N w) (lost w))) (sym same) (within_trans _ (slice_index N w) _ puts (within_or_l (slice_index N w) (lost w)))

  out_new : (b : ℕ) → b < old.bodies → (w : ℕ) → w < old.words → Puts b w
  out_new b inside w lt = go (changed b) refl
    where
      go : (t : Bool) → changed b ≡ t → Puts b w
      go true c = out_changed b inside c w lt
      go false c = ⊎_elim (λ blind. out_other b inside c blind w lt) (λ gone. out_follower b inside gone w lt) (h.followed b inside c)

  meet_closed : IsClosed old meet
  meet_closed = record {
    count = meet_long;
    closed = λ b inside w lt. subst (Within (bits_for (old.output b meet) w)) (sym (meet_at w lt)) (within_kept (bits_for (old.output b meet) w) (slice_index L w) (slice_index N w) (lost w) (out_old b inside w lt) (out_new b inside w lt));
  }

  meet_before : Covers old.words before meet
  meet_before w lt =
      let into : Within (slice_index before w) (bit_or (slice_index N w) (lost w)) = within_trans _ (bit_or (slice_index start w) (lost w)) _ (h.started w lt) (or_mono (slice_index start w) (slice_index N w) (lost w) (start_new w lt)) in
      subst (Within (slice_index before w)) (sym (meet_at w lt)) (within_kept (slice_index before w) (slice_index L w) (slice_index N w) (lost w) (one.above w lt) into)

  pub kept_below : (w : ℕ) → w < old.words → Within (slice_index L w) (bit_or (slice_index N w) (lost w))
  kept_below w lt =
      within_trans _ (slice_index meet w) _ (one.below meet meet_closed meet_before w lt)
      (subst (λ (x : ℕ). Within x (bit_or (slice_index N w) (lost w))) (sym (meet_at w lt)) (kept_new (slice_index L w) (slice_index N w) (lost w)))
