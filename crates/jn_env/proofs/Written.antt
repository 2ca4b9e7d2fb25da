-- Bits that are written along a list of keys, from a place on.
use Rattle.std.proofs.Common.{◌≡◌, ℕ, zero, suc, ◌+◌, ◌-◌, ◌<◌, ◌≤◌, Bool, true, false, not, ◌&&◌, ◌||◌, cond, List, [], ◌∷◌, ◌++◌, length, take, drop, map, get_or, set, refl, ap, ◌∙◌, add-one, arith, length-append, length-drop}
use Rattle.std.proofs.lemmas.List.{take_all, set-append_right, length-take-le}
use Rattle.jn_env.specs.Keys.{mask, no_bits}
use Rattle.jn_env.specs.Flat.{written, marked}
use Rattle.jn_env.proofs.BitOrder.{length-mask, length-also}

cond_same : {A : Type 0} (t : Bool) (z : A) → cond t z z ≡ z
cond_same true z = refl
cond_same false z = refl

cond_front : {A : Type 0} (t : Bool) (p xs ys : List A) → cond t (p ++ xs) (p ++ ys) ≡ p ++ cond t xs ys
cond_front true p xs ys = refl
cond_front false p xs ys = refl

cond_behind : {A : Type 0} (t : Bool) (x : A) (xs ys : List A) → cond t (x ∷ xs) (x ∷ ys) ≡ x ∷ cond t xs ys
cond_behind true x xs ys = refl
cond_behind false x xs ys = refl

cond_first : {A : Type 0} (t : Bool) (x y : A) (xs : List A) → cond t (x ∷ xs) (y ∷ xs) ≡ cond t x y ∷ xs
cond_first true x y xs = refl
cond_first false x y xs = refl

set_behind : {A : Type 0} (p xs : List A) (n i : ℕ) (x : A) → length p ≡ n → set (p ++ xs) (n + i) x ≡ p ++ set xs i x
set_behind p xs n i x l =
    let e : (n + i) - n ≡ i = omega arith in
    set-append_right p xs n (n + i) x l (omega arith) ∙ ap (λ k. p ++ set xs k x) e

module _ {K : Type 0} (test : K → Bool) (wanted : Bool) where
  pub length-written : (keys : List K) (bits : List Bool) → length (written test wanted keys bits) ≡ length bits
  length-written [] bits = refl
  length-written (k ∷ keys) [] = refl
  length-written (k ∷ keys) (b ∷ bits) = ap suc (length-written keys bits)

  more : (keys : List K) (bits : List Bool) (i : ℕ) (k : K) → i < length keys → k ≡ get_or keys i k → cond (test k) (set (written test wanted (take i keys) bits) i wanted) (written test wanted (take i keys) bits) ≡ written test wanted (take (suc i) keys) bits
  more [] bits i k lt e = absurd (omega (arith, lt))
  more (x ∷ keys) [] zero k lt e = cond_same (test k) []
  more (x ∷ keys) [] (suc i) k lt e = cond_same (test k) []
  more (x ∷ keys) (y ∷ bits) zero k lt e = cond_first (test k) wanted y bits ∙ ap (λ z. cond (test z) wanted y ∷ bits) e
  more (x ∷ keys) (y ∷ bits) (suc i) k lt e =
      let first = cond (test x) wanted y in
      let now = written test wanted (take i keys) bits in
      cond_behind (test k) first (set now i wanted) now ∙ ap (λ bs. first ∷ bs) (more keys bits i k (omega (arith, lt)) e)

  -- one key more, after what stands in front
  pub written_step : (keys : List K) (old now next : List Bool) (first i : ℕ) (k : K) (chosen : Bool) → i < length keys → first ≤ length old → k ≡ get_or keys i k → chosen ≡ test k → now ≡ take first old ++ written test wanted (take i keys) (drop first old) → next ≡ cond chosen (set now (first + i) wanted) now → next ≡ take first old ++ written test wanted (take (i + 1) keys) (drop first old)
  written_step keys old now next first i k chosen lt le at is before e =
      let front = take first old in
      let so_far = written test wanted (take i keys) (drop first old) in
      rw add-one
      (e ∙ ap (λ z. cond z (set now (first + i) wanted) now) is ∙ ap (λ z. cond (test k) (set z (first + i) wanted) z) before
      ∙ ap (λ z. cond (test k) z (front ++ so_far)) (set_behind front so_far first i wanted (length-take-le first old le))
      ∙ cond_front (test k) front (set so_far i wanted) so_far ∙ ap (λ z. front ++ z) (more keys (drop first old) i k lt at))

  pub length-so_far : (keys : List K) (old now : List Bool) (first : ℕ) → first ≤ length old → now ≡ take first old ++ written test wanted keys (drop first old) → length now ≡ length old
  length-so_far keys old now first le e = omega (arith, ap length e, length-append (take first old) (written test wanted keys (drop first old)), length-written keys (drop first old), length-take-le first old le, length-drop first old)

  pub written_end : (keys : List K) (old : List Bool) (first n : ℕ) → length keys ≤ n → take first old ++ written test wanted (take n keys) (drop first old) ≡ take first old ++ written test wanted keys (drop first old)
  written_end keys old first n le = ap (λ ks. take first old ++ written test wanted ks (drop first old)) (take_all n keys le)

learned : (t b : Bool) → cond t false (not b) ≡ not (b || t)
learned true true = refl
learned true false = refl
learned false true = refl
learned false false = refl

forgotten : (t b : Bool) → cond t true (not b) ≡ not (b && not t)
forgotten true true = refl
forgotten true false = refl
forgotten false true = refl
forgotten false false = refl

module _ {K : Type 0} (test : K → Bool) where
  pub length-marked : (known : Bool) (keys : List K) (bits : List Bool) → length (marked known test keys bits) ≡ length bits
  length-marked true keys bits = length-also test keys bits
  length-marked false keys bits = length-mask (λ k. not (test k)) keys bits

  -- what may be is cleared where what is known is set, and the other way round
  pub written_marked : (known : Bool) (keys : List K) (bits rest : List Bool) → length keys ≡ length bits → written test (not known) keys (map not bits ++ rest) ≡ map not (marked known test keys bits) ++ rest
  written_marked true [] [] rest l = refl
  written_marked false [] [] rest l = refl
  written_marked known [] (b ∷ bits) rest l = absurd (omega (arith, l))
  written_marked known (k ∷ keys) [] rest l = absurd (omega (arith, l))
  written_marked true (k ∷ keys) (b ∷ bits) rest l = ap (λ z. z ∷ written test false keys (map not bits ++ rest)) (learned (test k) b) ∙ ap (λ bs. not (b || test k) ∷ bs) (written_marked true keys bits rest (omega (arith, l)))
  written_marked false (k ∷ keys) (b ∷ bits) rest l = ap (λ z. z ∷ written test true keys (map not bits ++ rest)) (forgotten (test k) b) ∙ ap (λ bs. not (b && not (test k)) ∷ bs) (written_marked false keys bits rest (omega (arith, l)))

pub mask_none : {K : Type 0} (keys : List K) (bits : List Bool) → length keys ≡ length bits → mask (λ k. false) keys bits ≡ no_bits keys
mask_none [] [] l = refl
mask_none [] (b ∷ bits) l = absurd (omega (arith, l))
mask_none (k ∷ keys) [] l = absurd (omega (arith, l))
mask_none (k ∷ keys) (b ∷ bits) l = ap (λ z. z ∷ mask (λ x. false) keys bits) (nothing b) ∙ ap (λ bs. false ∷ bs) (mask_none keys bits (omega (arith, l)))
  where
    nothing : (b : Bool) → (b && false) ≡ false
    nothing true = refl
    nothing false = refl
