-- The order of qualifiers and their joins.
use Rattle.std.proofs.Common.{◌≡◌, Bool, true, false, not, ◌||◌, ⊎_elim, refl, sym, ap, ◌∙◌}
use Rattle.std.specs.Prelude.{IsTrue}
use Rattle.std.proofs.lemmas.Bool.{and_parts, and_from, or_cases, or_left, or_right}
use Rattle.jn_quals.specs.Qualifier.{Qualifier}
use Rattle.jn_quals.specs.Order.{no_qual, without_null, without_free, null_part, settle, is_none, join, within}

-- inclusion, bit by bit
pub record Included (a b : Qualifier) : Type 0 where
  pub null : a.null ≡ true → b.null ≡ true
  pub committed : a.committed ≡ true → b.committed ≡ true
  pub free : a.free ≡ true → b.free ≡ true

bit_included : (a b : Bool) → (not a || b) ≡ true → a ≡ true → b ≡ true
bit_included true b h e = h
bit_included false b h e = cc

included_bit : (a b : Bool) → (a ≡ true → b ≡ true) → (not a || b) ≡ true
included_bit true b h = h refl
included_bit false b h = refl

pub included : (a b : Qualifier) → IsTrue (within a b) → Included a b
included a b w =
    let p = and_parts _ _ w in
    let q = and_parts _ _ p.0 in
    record { null = bit_included a.null b.null q.0; committed = bit_included a.committed b.committed q.1; free = bit_included a.free b.free p.1 }

pub within_of : (a b : Qualifier) → Included a b → IsTrue (within a b)
within_of a b s = and_from _ _ (and_from _ _ (included_bit a.null b.null s.null) (included_bit a.committed b.committed s.committed)) (included_bit a.free b.free s.free)

pub within_refl : (a : Qualifier) → IsTrue (within a a)
within_refl a = within_of a a (record { null = λ h. h; committed = λ h. h; free = λ h. h })

pub within_trans : (a b c : Qualifier) → IsTrue (within a b) → IsTrue (within b c) → IsTrue (within a c)
within_trans a b c v w =
    let s = included a b v in
    let t = included b c w in
    within_of a c (record { null = λ h. t.null (s.null h); committed = λ h. t.committed (s.committed h); free = λ h. t.free (s.free h) })

bits_equal : (a b : Bool) → (a ≡ true → b ≡ true) → (b ≡ true → a ≡ true) → a ≡ b
bits_equal true b f g = sym (f refl)
bits_equal false true f g = g refl
bits_equal false false f g = refl

pub same_qual : (a b : Qualifier) → a.null ≡ b.null → a.committed ≡ b.committed → a.free ≡ b.free → a ≡ b
same_qual a b e f g =
    let P : Bool → Bool → Bool → Qualifier = λ x y z. record { null = x; committed = y; free = z } in
    ap (λ x. P x a.committed a.free) e ∙ ap (λ y. P b.null y a.free) f ∙ ap (λ z. P b.null b.committed z) g

pub within_antisym : (a b : Qualifier) → IsTrue (within a b) → IsTrue (within b a) → a ≡ b
within_antisym a b v w =
    let s = included a b v in
    let t = included b a w in
    same_qual a b (bits_equal a.null b.null s.null t.null) (bits_equal a.committed b.committed s.committed t.committed) (bits_equal a.free b.free s.free t.free)

pub within_join_left : (a b : Qualifier) → IsTrue (within a (join a b))
within_join_left a b = within_of a (join a b) (record { null = λ h. or_left _ _ h; committed = λ h. or_left _ _ h; free = λ h. or_left _ _ h })

pub within_join_right : (a b : Qualifier) → IsTrue (within b (join a b))
within_join_right a b = within_of b (join a b) (record { null = λ h. or_right _ _ h; committed = λ h. or_right _ _ h; free = λ h. or_right _ _ h })

either : (x y z : Bool) → (x ≡ true → z ≡ true) → (y ≡ true → z ≡ true) → (x || y) ≡ true → z ≡ true
either x y z f g h = ⊎_elim f g (or_cases x y h)

pub within_join_least : (a b c : Qualifier) → IsTrue (within a c) → IsTrue (within b c) → IsTrue (within (join a b) c)
within_join_least a b c v w =
    let s = included a c v in
    let t = included b c w in
    within_of (join a b) c (record { null = either _ _ _ s.null t.null; committed = either _ _ _ s.committed t.committed; free = either _ _ _ s.free t.free })

pub nothing_within : (a : Qualifier) → IsTrue (within no_qual a)
nothing_within a = within_of no_qual a (record { null = λ h. cc; committed = λ h. cc; free = λ h. cc })

-- operations keep the order
pub null_part_within : (a b : Qualifier) → IsTrue (within a b) → IsTrue (within (null_part a) (null_part b))
null_part_within a b w = within_of (null_part a) (null_part b) (record { null = (included a b w).null; committed = λ h. h; free = λ h. h })

pub without_null_within : (a b : Qualifier) → IsTrue (within a b) → IsTrue (within (without_null a) (without_null b))
without_null_within a b w = let s = included a b w in within_of (without_null a) (without_null b) (record { null = λ h. h; committed = s.committed; free = s.free })

pub without_free_within : (a b : Qualifier) → IsTrue (within a b) → IsTrue (within (without_free a) (without_free b))
without_free_within a b w = let s = included a b w in within_of (without_free a) (without_free b) (record { null = s.null; committed = s.committed; free = λ h. h })

pub settle_within : (a b : Qualifier) → IsTrue (within a b) → IsTrue (within (settle a) (settle b))
settle_within a b w =
    let s = included a b w in
    within_of (settle a) (settle b) (record { null = s.null; committed = either _ _ _ (λ h. or_left _ _ (s.committed h)) (λ h. or_right b.committed _ (s.free h)); free = λ h. h })

bits_empty : (x y z x' y' z' : Bool) → (x ≡ true → x' ≡ true) → (y ≡ true → y' ≡ true) → (z ≡ true → z' ≡ true) → not (x' || (y' || z')) ≡ true → not (x || (y || z)) ≡ true
bits_empty false false false x' y' z' f g h e = refl
bits_empty true y z x' y' z' f g h e = absurd (let k = f refl in cc)
bits_empty false true z x' y' z' f g h e = absurd (last x' y' z' (g refl) e)
  where
    last : (x' y' z' : Bool) → y' ≡ true → not (x' || (y' || z')) ≡ true → ⊥
    last true y' z' k e = cc
    last false y' z' k e = cc
bits_empty false false true x' y' z' f g h e = absurd (last x' y' z' (h refl) e)
  where
    last : (x' y' z' : Bool) → z' ≡ true → not (x' || (y' || z')) ≡ true → ⊥
    last true y' z' k e = cc
    last false true z' k e = cc
    last false false z' k e = cc

pub is_none_within : (a b : Qualifier) → IsTrue (within a b) → is_none b ≡ true → is_none a ≡ true
is_none_within a b w e = let s = included a b w in bits_empty a.null a.committed a.free b.null b.committed b.free s.null s.committed s.free e
