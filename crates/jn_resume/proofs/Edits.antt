-- The words that may stand lie between the start and the least words, and bodies that stand apart from what differs are closed under them.
use Rattle.std.proofs.Common.{◌≡◌, ℕ, zero, suc, ◌<◌, ◌≤◌, Bool, false, List, length, bit_or, bit_xor, refl, sym, ap, ◌∙◌, subst, arith}
use Rattle.std.specs.Prelude.{slice_index}
use Rattle.std.specs.Int.{bit_at}
use Rattle.std.proofs.lemmas.List.{ext_get_or}
use Rattle.std.proofs.lemmas.Nat.Bits.{bit_at-lt, bit_at_xor, same_from_bits}
use Rattle.jn_sigtable.specs.System.{ClosedAt, IsLeast, System, Within, bits_for, least}
use Rattle.jn_sigtable.specs.Machine.{AreBetween}
use Rattle.jn_sigtable.proofs.Bits.{within_trans}
use Rattle.jn_sigtable.proofs.LeastWords.{least_is_least}
use Rattle.jn_resume.specs.Keepable.{AreKeepable, IsEditOf, StandIn, StandsApart}
use Rattle.jn_resume.proofs.Below.{kept_below}

-- the old least words
pub old_least : (old new : System) (before start last : List ℕ) (changed : ℕ → Bool) → IsEditOf old new before start last changed → IsLeast old before last
old_least old new before start last changed e = subst (IsLeast old before) (sym e.was) (least_is_least old e.old_lawful before e.before_count e.before_small)

pub lies_between : (old new : System) (before start last lost words : List ℕ) (changed : ℕ → Bool) → IsEditOf old new before start last changed → AreKeepable old new before start last changed (slice_index lost) → StandIn start last lost words → AreBetween new start words
lies_between old new before start last lost words changed e keep stand =
    let long : length start ≡ old.words = e.start_count ∙ sym e.agrees.words in
    let two : IsLeast new start (least new start) = least_is_least new e.new_lawful start e.start_count e.start_small in
    let one : IsLeast old before (least old before) = least_is_least old e.old_lawful before e.before_count e.before_small in
    let kept : AreKeepable old new before start (least old before) changed (slice_index lost) = subst (λ (l : List ℕ). AreKeepable old new before start l changed (slice_index lost)) e.was keep in (
      stand.count ∙ e.start_count,
      (λ w lt. stand.above w (subst (λ (n : ℕ). w < n) (sym e.start_count) lt)),
      (λ w lt.
          let below : Within (slice_index (least old before) w) (bit_or (slice_index (least new start) w) (slice_index lost w)) =
          kept_below old new before start changed (slice_index lost) e.old_lawful e.new_lawful e.agrees one two long kept w (subst (λ (n : ℕ). w < n) (sym e.agrees.words) lt) in
          stand.below w (slice_index (least new start) w) (subst (λ (n : ℕ). w < n) (sym e.start_count) lt) (two.above w lt)
          (subst (λ (l : List ℕ). Within (slice_index l w) (bit_or (slice_index (least new start) w) (slice_index lost w))) (sym e.was) below)),
    )

-- the least words above words that lie between are those above the start
pub same_least : (sys : System) (start words out : List ℕ) → IsLeast sys start (least sys start) → AreBetween sys start words → IsLeast sys words out → out ≡ least sys start
same_least sys start words out one between two =
    ext_get_or 0 out (least sys start) (two.closed.count ∙ sym one.closed.count) (λ w lt.
    let into : w < sys.words = subst (λ (n : ℕ). w < n) two.closed.count lt in
    same_from_bits (slice_index out w) (slice_index (least sys start) w) (λ i.
    let p = two.below (least sys start) one.closed between.2 w into i in
    let q = one.below out two.closed (λ u ult. within_trans _ (slice_index words u) _ (between.1 u ult) (two.above u ult)) w into i in
    omega (arith, p, q)))

-- the masks tell all bits in which two lists of words differ
pub differ_in : (xs ys bits : List ℕ) (n : ℕ) → ((w : ℕ) → w < n → slice_index bits w ≡ bit_xor (slice_index xs w) (slice_index ys w)) → (w : ℕ) → w < n → (i : ℕ) → bit_at (slice_index bits w) i ≡ 0 → bit_at (slice_index xs w) i ≡ bit_at (slice_index ys w) i
differ_in xs ys bits n h w lt i z =
    let e : bit_at (slice_index bits w) i ≡ bit_at (bit_xor (slice_index xs w) (slice_index ys w)) i = ap (λ (x : ℕ). bit_at x i) (h w lt) in
    omega (arith, e, z, bit_at_xor (slice_index xs w) (slice_index ys w) i, bit_at-lt (slice_index xs w) i, bit_at-lt (slice_index ys w) i)

-- a body that is as it was and stands apart from all bits that differ puts out only what stands
pub stays_closed : (old new : System) (before start last words moved : List ℕ) (changed : ℕ → Bool) (b : ℕ) → IsEditOf old new before start last changed → length words ≡ new.words → b < new.bodies → changed b ≡ false
    → ((w : ℕ) → w < new.words → slice_index moved w ≡ bit_xor (slice_index last w) (slice_index words w)) → StandsApart old (slice_index moved) b → ClosedAt new b words words
stays_closed old new before start last words moved changed b e long inside same_body masks apart w lt i =
    let one = old_least old new before start last changed e in
    let low : w < old.words = subst (λ (n : ℕ). w < n) (sym e.agrees.words) lt in
    let was : b < old.bodies = subst (λ (n : ℕ). b < n) (sym e.agrees.bodies) inside in
    let count : length words ≡ old.words = long ∙ sym e.agrees.words in
    let alike : (u : ℕ) → u < old.words → (j : ℕ) → bit_at (slice_index moved u) j ≡ 0 → bit_at (slice_index last u) j ≡ bit_at (slice_index words u) j = λ u ult j z. differ_in last words moved new.words masks u (subst (λ (n : ℕ). u < n) e.agrees.words ult) j z in
    let puts = apart.blind last words one.closed.count count alike ∙ e.agrees.same b was same_body words count in
    let old_bit : bit_at (bits_for (old.output b last) w) i ≤ bit_at (slice_index last w) i = one.closed.closed b was w low i in
    let new_bit : bit_at (bits_for (old.output b last) w) i ≡ bit_at (bits_for (new.output b words) w) i = ap (λ l. bit_at (bits_for l w) i) puts in
    let still : bit_at (slice_index moved w) i ≡ 0 → bit_at (slice_index last w) i ≡ bit_at (slice_index words w) i = alike w low i in
    let mute : bit_at (slice_index moved w) i ≡ 1 → bit_at (bits_for (old.output b last) w) i ≡ 0 = apart.silent last one.closed.count w low i in
    by_bit (bit_at (slice_index moved w) i) (bit_at (bits_for (old.output b last) w) i) (bit_at (slice_index last w) i) (bit_at (slice_index words w) i) (bit_at (bits_for (new.output b words) w) i) (bit_at-lt (slice_index moved w) i) old_bit new_bit still mute
  where
    by_bit : (m o l s n : ℕ) → m < 2 → o ≤ l → o ≡ n → (m ≡ 0 → l ≡ s) → (m ≡ 1 → o ≡ 0) → n ≤ s
    by_bit zero o l s n lt le e still mute = let f = still refl in omega (arith, le, e, f)
    by_bit (suc zero) o l s n lt le e still mute = let f = mute refl in omega (arith, e, f)
    by_bit (suc (suc m)) o l s n lt le e still mute = absurd (omega (arith, lt))
