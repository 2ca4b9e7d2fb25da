-- Bits that are gone: they stand in the start, are put out again, or may be lost.
use Rattle.std.proofs.Common.{◌≡◌, ℕ, suc, ◌+◌, ◌<◌, ◌==◌, if◌then◌else◌, Bool, true, false, List, [], ◌∷◌, ◌++◌, length, set, take, drop, get_or, get_or-set_other, get_or-set_same, bit_or, bit_and, bit_xor, refl, sym, ap, ◌∙◌, subst, arith}
use mathlib.Core.Logic.{dite}
use mathlib.Core.Option.{some}
use native.Mathlib.Decide.{ℕ_discrete}
use lib.ListN.{get_elem?}
use Rattle.std.specs.Prelude.{slice_index}
use Rattle.std.proofs.lemmas.List.{drop_more}
use Rattle.std.proofs.lemmas.Nat.Bits.{bit_at-lt, bit_at_and, bit_at_or, bit_at_xor}
use Rattle.jn_base.specs.declared.number.WordNo.{WordNo}
use Rattle.jn_sigtable.specs.System.{Within, bits_for}
use Rattle.jn_sigtable.proofs.Bits.{within_or_l, within_or_r, within_refl, within_trans}
use Rattle.jn_worklist.proofs.RaiseSteps.{snoc_within, take_more}
use Rattle.jn_resume.proofs.Standing.{snoc_at, snoc_below, snoc_long}
use Rattle.jn_again.specs.Losing.{AreGone, Grows}

pub bits_more : (os : List (WordNo × ℕ)) (i : ℕ) (d : WordNo × ℕ) (w bits more z : ℕ) → i < length os → more ≡ (if (get_or os i d).0.0 == w then bit_or bits (get_or os i d).1 else bits) → Within (bit_or bits (bits_for (drop i os) w)) z → Within (bit_or more (bits_for (drop (i + 1) os) w)) z
bits_more os i d w bits more z lt e h =
    subst (λ (x : ℕ). Within (bit_or x (bits_for (drop (i + 1) os) w)) z) (sym e) (go ((get_or os i d).0.0 == w) (subst (λ (l : List (WordNo × ℕ)). Within (bit_or bits (bits_for l w)) z) (drop_more os i d lt) h))
  where
    joined : (a b c : ℕ) → Within (bit_or (bit_or a b) c) (bit_or a (bit_or b c))
    joined a b c j = omega (arith, bit_at_or (bit_or a b) c j, bit_at_or a b j, bit_at_or a (bit_or b c) j, bit_at_or b c j)

    go : (t : Bool) → Within (bit_or bits (if t then bit_or (get_or os i d).1 (bits_for (drop (i + 1) os) w) else bits_for (drop (i + 1) os) w)) z → Within (bit_or (if t then bit_or bits (get_or os i d).1 else bits) (bits_for (drop (i + 1) os) w)) z
    go true k = within_trans _ (bit_or bits (bit_or (get_or os i d).1 (bits_for (drop (i + 1) os) w))) _ (joined bits (get_or os i d).1 (bits_for (drop (i + 1) os) w)) k
    go false k = k

pub bits_all : (os : List (WordNo × ℕ)) (i w bits z : ℕ) → Within (bit_or bits (bits_for (drop i os) w)) z → Within bits z
bits_all os i w bits z h j = let p = h j in omega (arith, p, bit_at_or bits (bits_for (drop i os) w) j)

-- bits that are added to one mask
module _ (masks : List ℕ) (at bits : ℕ) where
  abbrev with_bits : List ℕ
  with_bits = set masks at (bit_or (slice_index masks at) bits)

  pub new_bits : at < length masks → Within bits (slice_index with_bits at)
  new_bits lt = subst (Within bits) (sym (get_or-set_same masks at (bit_or (slice_index masks at) bits) 0 lt)) (within_or_r (slice_index masks at) bits)

  pub more_bits : at < length masks → (w : ℕ) → Within (slice_index masks w) (slice_index with_bits w)
  more_bits lt w = dite (ℕ_discrete w at)
      (λ e. subst (λ (u : ℕ). Within (slice_index masks u) (slice_index with_bits u)) (sym e) (subst (Within (slice_index masks at)) (sym (get_or-set_same masks at (bit_or (slice_index masks at) bits) 0 lt)) (within_or_l (slice_index masks at) bits)))
      (λ ne. subst (Within (slice_index masks w)) (sym (get_or-set_other masks at w (bit_or (slice_index masks at) bits) 0 ne)) (within_refl (slice_index masks w)))

-- masks grow
pub grows_self : (xs : List ℕ) → Grows xs xs
grows_self xs = (refl, λ w. within_refl (slice_index xs w))

pub grows_on : (xs ys zs : List ℕ) → Grows xs ys → Grows ys zs → Grows xs zs
grows_on xs ys zs g h = (h.0 ∙ g.0, λ w. within_trans _ (slice_index ys w) _ (g.1 w) (h.1 w))

pub or_grows : (a b c : ℕ) → Within b c → Within (bit_or a b) (bit_or a c)
or_grows a b c h i = let p = h i in omega (arith, bit_at_or a b i, bit_at_or a c i)

pub gone_still : (n : ℕ) (puts start again : ℕ → ℕ) (xs ys : List ℕ) → Grows xs ys → AreGone n puts start again (slice_index xs) → AreGone n puts start again (slice_index ys)
gone_still n puts start again xs ys g h w lt = within_trans _ (bit_or (bit_or (start w) (again w)) (slice_index xs w)) _ (h w lt) (or_grows (bit_or (start w) (again w)) (slice_index xs w) (slice_index ys w) (g.1 w))

-- what is lost of one output
pub one_lost : (bits s b a m : ℕ) → Within b a → Within (bit_xor bits (bit_and bits (bit_or s b))) m → Within bits (bit_or (bit_or s a) m)
one_lost bits s b a m h k i =
    let p = h i in
    let q = k i in
    omega (arith, p, q, bit_at_xor bits (bit_and bits (bit_or s b)) i, bit_at_and bits (bit_or s b) i, bit_at_or s b i, bit_at_or s a i, bit_at_or (bit_or s a) m i, bit_at-lt bits i, bit_at-lt s i, bit_at-lt b i)

pub gone_more : (n : ℕ) (os : List (WordNo × ℕ)) (i : ℕ) (o : WordNo × ℕ) (start again : ℕ → ℕ) (xs ys : List ℕ) → get_elem? os i ≡ some o → Grows xs ys
    → (o.0.0 < n → Within o.1 (bit_or (bit_or (start o.0.0) (again o.0.0)) (slice_index ys o.0.0)))
    → AreGone n (bits_for (take i os)) start again (slice_index xs) → AreGone n (bits_for (take (i + 1) os)) start again (slice_index ys)
gone_more n os i o start again xs ys at g here h w lt =
    let e : i + 1 ≡ suc i = omega arith in
    subst (λ (l : List (WordNo × ℕ)). Within (bits_for l w) (bit_or (bit_or (start w) (again w)) (slice_index ys w))) (sym (ap (λ (k : ℕ). take k os) e ∙ take_more os i o at))
    (snoc_within (take i os) o w (bit_or (bit_or (start w) (again w)) (slice_index ys w)) (gone_still n (bits_for (take i os)) start again xs ys g h w lt)
    (λ s. subst (λ (u : ℕ). Within o.1 (bit_or (bit_or (start u) (again u)) (slice_index ys u))) s (here (subst (λ (u : ℕ). u < n) (sym s) lt))))

pub same_or : (bits a b c d : ℕ) → a ≡ c → b ≡ d → Within bits (bit_or a b) → Within bits (bit_or c d)
same_or bits a b c d e f h = subst (λ (x : ℕ). Within bits (bit_or x d)) e (subst (λ (x : ℕ). Within bits (bit_or a x)) f h)

-- all bits but those of the start
pub first_lost : (b s : ℕ) → Within b (bit_or s (bit_xor b (bit_and b s)))
first_lost b s i = omega (arith, bit_at_or s (bit_xor b (bit_and b s)) i, bit_at_xor b (bit_and b s) i, bit_at_and b s i, bit_at-lt b i, bit_at-lt s i)

-- what holds of each item of a list that is made item by item
pub each_more : (F : ℕ → ℕ → Type 0) (n : ℕ) (xs more : List ℕ) (x : ℕ) → more ≡ xs ++ x ∷ [] → length xs ≡ n → ((w : ℕ) → w < n → F w (slice_index xs w)) → F n x → (length more ≡ n + 1) × ((w : ℕ) → w < n + 1 → F w (slice_index more w))
each_more F n xs more x e count each here = (
  (ap (λ (l : List ℕ). length l) e ∙ snoc_long xs x ∙ ap (λ (k : ℕ). k + 1) count),
  (λ w lt. subst (λ (l : List ℕ). F w (slice_index l w)) (sym e) (dite (ℕ_discrete w n)
      (λ at. subst (λ (k : ℕ). F k (slice_index (xs ++ x ∷ []) k)) (sym at) (subst (F n) (sym (ap (slice_index (xs ++ x ∷ [])) (sym count) ∙ snoc_at xs x)) here))
      (λ ne. let low : w < n = omega (arith, lt, ne) in subst (F w) (sym (snoc_below xs x w (omega (arith, low, count)))) (each w low)))),
)
