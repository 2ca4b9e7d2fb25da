-- Bits along a list of keys keep their number, and the order.
use Rattle.std.proofs.Common.{◌≡◌, suc, Bool, true, false, not, ◌&&◌, ◌||◌, List, [], ◌∷◌, length, refl, ap}
use Rattle.std.specs.Prelude.{IsTrue}
use Rattle.jn_env.specs.Order.{BitsAbove}
use Rattle.jn_env.specs.Keys.{mask, also, is_on, no_bits}

bit_mask : (a b k : Bool) → IsTrue (not b || a) → IsTrue (not (b && k) || (a && k))
bit_mask a false k w = refl
bit_mask true true true w = refl
bit_mask true true false w = refl
bit_mask false true k w = cc

bit_also : (a b k l : Bool) → IsTrue (not b || a) → (l ≡ true → k ≡ true) → IsTrue (not (b || l) || (a || k))
bit_also true b k l w h = always (b || l)
  where
    always : (x : Bool) → IsTrue (not x || true)
    always true = refl
    always false = refl
bit_also false true k l w h = cc
bit_also false false k true w h = h refl
bit_also false false k false w h = refl

bit_on : (a b t on off : Bool) → IsTrue (not b || a) → (off ≡ true → on ≡ true) → ((b && t) || off) ≡ true → ((a && t) || on) ≡ true
bit_on true b true on off w h e = refl
bit_on true b false on off w h e = h (rest b e)
  where
    rest : (b : Bool) → ((b && false) || off) ≡ true → off ≡ true
    rest true e = e
    rest false e = e
bit_on false true t on off w h e = cc
bit_on false false t on off w h e = h e

module _ {K : Type 0} where
  pub length-mask : (keep : K → Bool) (keys : List K) (bits : List Bool) → length (mask keep keys bits) ≡ length bits
  length-mask keep [] bits = refl
  length-mask keep (k ∷ keys) [] = refl
  length-mask keep (k ∷ keys) (b ∷ bits) = ap suc (length-mask keep keys bits)

  pub length-also : (test : K → Bool) (keys : List K) (bits : List Bool) → length (also test keys bits) ≡ length bits
  length-also test [] bits = refl
  length-also test (k ∷ keys) [] = refl
  length-also test (k ∷ keys) (b ∷ bits) = ap suc (length-also test keys bits)

  pub length-no_bits : (keys : List K) → length (no_bits keys) ≡ length keys
  length-no_bits [] = refl
  length-no_bits (k ∷ keys) = ap suc (length-no_bits keys)

  pub mask_above : (keep : K → Bool) (keys : List K) (as' bs : List Bool) → BitsAbove as' bs → BitsAbove (mask keep keys as') (mask keep keys bs)
  mask_above keep [] as' bs w = w
  mask_above keep (k ∷ keys) [] [] w = tt
  mask_above keep (k ∷ keys) [] (b ∷ bs) w = absurd w
  mask_above keep (k ∷ keys) (a ∷ as') [] w = absurd w
  mask_above keep (k ∷ keys) (a ∷ as') (b ∷ bs) w = (bit_mask a b (keep k) w.0, mask_above keep keys as' bs w.1)

  pub also_above : (test : K → Bool) (keys : List K) (as' bs : List Bool) → BitsAbove as' bs → BitsAbove (also test keys as') (also test keys bs)
  also_above test [] as' bs w = w
  also_above test (k ∷ keys) [] [] w = tt
  also_above test (k ∷ keys) [] (b ∷ bs) w = absurd w
  also_above test (k ∷ keys) (a ∷ as') [] w = absurd w
  also_above test (k ∷ keys) (a ∷ as') (b ∷ bs) w = (bit_also a b (test k) (test k) w.0 (λ h. h), also_above test keys as' bs w.1)

  -- more bits are set on the left alone
  pub also_left : (test : K → Bool) (keys : List K) (as' bs : List Bool) → BitsAbove as' bs → BitsAbove (also test keys as') bs
  also_left test [] as' bs w = w
  also_left test (k ∷ keys) [] bs w = w
  also_left test (k ∷ keys) (a ∷ as') [] w = absurd w
  also_left test (k ∷ keys) (a ∷ as') (b ∷ bs) w = (more a b (test k) w.0, also_left test keys as' bs w.1)
    where
      more : (a b t : Bool) → IsTrue (not b || a) → IsTrue (not b || (a || t))
      more a false t w = refl
      more true true t w = refl
      more false true t w = cc

  pub is_on_above : (test : K → Bool) (keys : List K) (as' bs : List Bool) → BitsAbove as' bs → is_on test keys bs ≡ true → is_on test keys as' ≡ true
  is_on_above test [] as' bs w e = cc
  is_on_above test (k ∷ keys) [] [] w e = cc
  is_on_above test (k ∷ keys) [] (b ∷ bs) w e = absurd w
  is_on_above test (k ∷ keys) (a ∷ as') [] w e = absurd w
  is_on_above test (k ∷ keys) (a ∷ as') (b ∷ bs) w e = bit_on a b (test k) (is_on test keys as') (is_on test keys bs) w.0 (is_on_above test keys as' bs w.1) e
