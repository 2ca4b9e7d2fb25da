-- The least words: whole rounds end, in closed words, within all closed words above the start.
use Rattle.std.proofs.Common.{◌≡◌, ◌⊎◌, ℕ, zero, suc, ◌*◌, ◌^◌, ◌<◌, ◌≤◌, List, [], ◌∷◌, length, bit_or, sym, refl, ap, ◌∙◌, subst, inl, inr, ⊎_elim, arith}
use mathlib.Core.Logic.{dite}
use native.Mathlib.Decide.{ℕ_discrete, dec_le}
use Rattle.std.specs.Prelude.{slice_index}
use Rattle.std.specs.Int.{bit_at}
use Rattle.std.proofs.lemmas.List.{ext_get_or}
use Rattle.std.proofs.lemmas.List.FromFn.{get_or-map-range_with_len, length-map-range_with_len}
use Rattle.std.proofs.lemmas.Nat.Bits.{bit_at-lt, same_from_bits_below}
use Rattle.std.proofs.lemmas.Nat.{or_lt}
use Rattle.jn_fixpoint.specs.Climb.{rounds, Climb}
use Rattle.jn_fixpoint.proofs.Fixpoint.{exists}
use Rattle.jn_sigtable.specs.System.{System, IsLawful, IsClosed, IsLeast, Within, Covers, bits_for, added, round, least, ones_below, ones_in}
use Rattle.jn_sigtable.proofs.Bits.{within_trans, within_refl, within_or_l, within_or_r, or_within}

-- ---- the bits of words
pub ones_le : (k a b : ℕ) → Within a b → ones_below k a ≤ ones_below k b
unfolding ones_below
ones_le zero a b h = omega arith
ones_le (suc k) a b h = let p = ones_le k a b h in let q = h k in omega arith

ones_most : (k a : ℕ) → ones_below k a ≤ k
unfolding ones_below
ones_most zero a = omega arith
ones_most (suc k) a = let p = ones_most k a in let q = bit_at-lt a k in omega arith

pub ones_same : (k a b : ℕ) → Within a b → ones_below k b ≤ ones_below k a → (i : ℕ) → i < k → bit_at a i ≡ bit_at b i
unfolding ones_below
ones_same zero a b h le i less = absurd (omega arith)
ones_same (suc k) a b h le i less =
    let p = ones_le k a b h in let q = h k in
    dite (ℕ_discrete i k) (λ e. let r : bit_at a k ≡ bit_at b k = omega arith in ap (bit_at a) e ∙ r ∙ ap (bit_at b) (sym e)) (λ ne. ones_same k a b h (omega arith) i (omega arith))

pub ones_in_le : (n : ℕ) (xs ys : List ℕ) → Covers n xs ys → ones_in n xs ≤ ones_in n ys
unfolding ones_in
ones_in_le zero xs ys h = omega arith
ones_in_le (suc n) xs ys h = let p = ones_in_le n xs ys (λ w less. h w (omega arith)) in let q = ones_le 64 (slice_index xs n) (slice_index ys n) (h n (omega arith)) in omega arith

pub ones_in_most : (n : ℕ) (xs : List ℕ) → ones_in n xs ≤ 64 * n
unfolding ones_in
ones_in_most zero xs = omega arith
ones_in_most (suc n) xs = let p = ones_in_most n xs in let q = ones_most 64 (slice_index xs n) in omega arith

pub ones_in_same : (n : ℕ) (xs ys : List ℕ) → Covers n xs ys → ones_in n ys ≤ ones_in n xs → (w : ℕ) → w < n → (i : ℕ) → i < 64 → bit_at (slice_index xs w) i ≡ bit_at (slice_index ys w) i
unfolding ones_in
ones_in_same zero xs ys h le w less i low = absurd (omega arith)
ones_in_same (suc n) xs ys h le w less i low =
    let p = ones_in_le n xs ys (λ u l. h u (omega arith)) in
    let q = ones_le 64 (slice_index xs n) (slice_index ys n) (h n (omega arith)) in
    dite (ℕ_discrete w n)
    (λ e. ap (λ (u : ℕ). bit_at (slice_index xs u) i) e ∙ ones_same 64 (slice_index xs n) (slice_index ys n) (h n (omega arith)) (omega arith) i low ∙ ap (λ (u : ℕ). bit_at (slice_index ys u) i) (sym e))
    (λ ne. ones_in_same n xs ys (λ u l. h u (omega arith)) (omega arith) w (omega arith) i low)

-- words of 64 bits
abbrev pub IsSmall : List ℕ → Type 0
IsSmall xs = (w : ℕ) → slice_index xs w < 2 ^ 64

-- ---- one round
module _ (sys : System) (law : IsLawful sys) where
  added_more : (n : ℕ) (xs : List ℕ) (w : ℕ) → Within (slice_index xs w) (added sys n xs w)
  added_more zero xs w = within_refl (slice_index xs w)
  added_more (suc n) xs w = within_trans _ (added sys n xs w) _ (added_more n xs w) (within_or_l (added sys n xs w) (bits_for (sys.output n xs) w))

  added_within : (n : ℕ) (xs ys : List ℕ) (w : ℕ) → n ≤ sys.bodies → length xs ≡ sys.words → Covers sys.words xs ys → IsClosed sys ys → w < sys.words → Within (added sys n xs w) (slice_index ys w)
  added_within zero xs ys w le count cov top less = cov w less
  added_within (suc n) xs ys w le count cov top less =
      or_within _ _ _ (added_within n xs ys w (omega arith) count cov top less)
      (within_trans _ (bits_for (sys.output n ys) w) _ (law.monotone n xs ys (omega arith) count top.count cov w less) (top.closed n (omega arith) w less))

  round_at : (xs : List ℕ) (w : ℕ) → w < sys.words → slice_index (round sys xs) w ≡ added sys sys.bodies xs w
  round_at xs w less = get_or-map-range_with_len (added sys sys.bodies xs) 0 sys.words w w 0 less (omega arith)

  round_count : (xs : List ℕ) → length (round sys xs) ≡ sys.words
  round_count xs = length-map-range_with_len (added sys sys.bodies xs) 0 sys.words

  round_more : (xs : List ℕ) → Covers sys.words xs (round sys xs)
  round_more xs w less = subst (Within (slice_index xs w)) (sym (round_at xs w less)) (added_more sys.bodies xs w)

  round_within : (xs ys : List ℕ) → length xs ≡ sys.words → Covers sys.words xs ys → IsClosed sys ys → Covers sys.words (round sys xs) ys
  round_within xs ys count cov top w less = subst (λ x. Within x (slice_index ys w)) (sym (round_at xs w less)) (added_within sys.bodies xs ys w (omega arith) count cov top less)

  past : (xs : List ℕ) (w : ℕ) → length xs ≤ w → slice_index xs w ≡ 0
  past [] w h = refl
  past (x ∷ xs) zero h = absurd (omega arith)
  past (x ∷ xs) (suc w) h = past xs w (omega arith)

  added_small : (n : ℕ) (xs : List ℕ) (w : ℕ) → n ≤ sys.bodies → length xs ≡ sys.words → IsSmall xs → added sys n xs w < 2 ^ 64
  added_small zero xs w le count small = small w
  added_small (suc n) xs w le count small = or_lt 64 (added sys n xs w) (bits_for (sys.output n xs) w) (added_small n xs w (omega arith) count small) (law.bounded n xs (omega arith) count small w)

  round_small : (xs : List ℕ) → length xs ≡ sys.words → IsSmall xs → (w : ℕ) → slice_index (round sys xs) w < 2 ^ 64
  round_small xs count small w = ⊎_elim
      (λ less. subst (λ x. x < 2 ^ 64) (sym (round_at xs w less)) (added_small sys.bodies xs w (omega arith) count small))
      (λ past_end. subst (λ x. x < 2 ^ 64) (sym (past (round sys xs) w (let e = round_count xs in omega arith))) (omega arith))
      (below w sys.words)
    where
      below : (a b : ℕ) → (a < b) ⊎ (b ≤ a)
      below a b = dite (dec_le b a) (λ h. inr h) (λ n. inl (omega arith))

  output_within : (n b : ℕ) (xs : List ℕ) (w : ℕ) → b < n → Within (bits_for (sys.output b xs) w) (added sys n xs w)
  output_within zero b xs w h = absurd (omega arith)
  output_within (suc n) b xs w h = dite (ℕ_discrete b n)
      (λ e. subst (λ x. Within (bits_for (sys.output x xs) w) (bit_or (added sys n xs w) (bits_for (sys.output n xs) w))) (sym e) (within_or_r (added sys n xs w) (bits_for (sys.output n xs) w)))
      (λ ne. within_trans _ (added sys n xs w) _ (output_within n b xs w (omega arith)) (within_or_l (added sys n xs w) (bits_for (sys.output n xs) w)))

  -- words that a round leaves are closed
  still_closed : (xs : List ℕ) → length xs ≡ sys.words → round sys xs ≡ xs → IsClosed sys xs
  still_closed xs count same = record {
    count = count;
    closed = λ b inside w less. subst (Within (bits_for (sys.output b xs) w)) (sym (round_at xs w less) ∙ ap (λ (l : List ℕ). slice_index l w) same) (output_within sys.bodies b xs w inside);
  }

  -- words that are no heavier after a round are as before it
  same_words : (xs ys : List ℕ) → (length xs ≡ sys.words) × IsSmall xs → (length ys ≡ sys.words) × IsSmall ys → Covers sys.words xs ys → ones_in sys.words ys ≤ ones_in sys.words xs → xs ≡ ys
  same_words xs ys v w covers le =
      ext_get_or 0 xs ys (v.0 ∙ sym w.0) (λ i less.
      let low : i < sys.words = let e = v.0 in omega arith in
      same_from_bits_below 64 (slice_index xs i) (slice_index ys i) (v.1 i) (w.1 i) (λ j k. ones_in_same sys.words xs ys covers le i low j k))

  -- ---- rounds climb, and the order of words is of bounded height
  abbrev Fits : List ℕ → Type 0
  Fits xs = (length xs ≡ sys.words) × IsSmall xs

  abbrev Rises : List ℕ → List ℕ → Type 0
  Rises xs ys = (xs ≡ ys) ⊎ (Fits xs × Fits ys × Covers sys.words xs ys)

  rises_on : (a b c : List ℕ) → Rises a b → Rises b c → Rises a c
  rises_on a b c p q =
      ⊎_elim
      (λ e. subst (λ x. Rises x c) (sym e) q)
      (λ r. ⊎_elim (λ e. subst (Rises a) e p) (λ s. inr (r.0, s.1, λ w less. within_trans _ (slice_index b w) _ (r.2 w less) (s.2 w less))) q)
      p

  climbs : Climb Fits Rises (ones_in sys.words) (64 * sys.words) (round sys)
  climbs = record {
    self = λ a. inl refl;
    chain = rises_on;
    lighter = λ a b p. ⊎_elim (λ e. let s : ones_in sys.words a ≡ ones_in sys.words b = ap (ones_in sys.words) e in omega arith) (λ r. ones_in_le sys.words a b r.2) p;
    equal = λ a b p le. ⊎_elim (λ e. e) (λ r. same_words a b r.0 r.1 r.2 le) p;
    bounded = λ a fits. ones_in_most sys.words a;
    kept = λ a fits. (round_count a, round_small a fits.0 fits.1);
    climbs = λ a fits. inr (fits, (round_count a, round_small a fits.0 fits.1), round_more a);
  }

  -- ---- so they end
  rounds_count : (n : ℕ) (xs : List ℕ) → length xs ≡ sys.words → length (rounds (round sys) n xs) ≡ sys.words
  rounds_count zero xs count = count
  rounds_count (suc n) xs count = round_count (rounds (round sys) n xs)

  pub rounds_more : (n : ℕ) (xs : List ℕ) → Covers sys.words xs (rounds (round sys) n xs)
  rounds_more zero xs w less = within_refl (slice_index xs w)
  rounds_more (suc n) xs w less = within_trans _ (slice_index (rounds (round sys) n xs) w) _ (rounds_more n xs w less) (round_more (rounds (round sys) n xs) w less)

  pub rounds_within : (n : ℕ) (xs ys : List ℕ) → length xs ≡ sys.words → Covers sys.words xs ys → IsClosed sys ys → Covers sys.words (rounds (round sys) n xs) ys
  rounds_within zero xs ys count cov top = cov
  rounds_within (suc n) xs ys count cov top = round_within (rounds (round sys) n xs) ys (rounds_count n xs count) (rounds_within n xs ys count cov top) top

  pub least_is_least : (start : List ℕ) → length start ≡ sys.words → IsSmall start → IsLeast sys start (least sys start)
  least_is_least start count small =
      let ends = exists Fits Rises (ones_in sys.words) (64 * sys.words) (round sys) climbs start (count, small) in
      record {
        fixpoint = ends;
        closed = still_closed (least sys start) (rounds_count (64 * sys.words) start count) ends.stable;
        above = rounds_more (64 * sys.words) start;
        below = λ others closed covers. rounds_within (64 * sys.words) start others count covers closed;
      }
