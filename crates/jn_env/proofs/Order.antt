-- The order of environments and tables, and their joins.
use Rattle.std.proofs.Common.{◌≡◌, ℕ, zero, suc, Bool, true, false, not, ◌&&◌, ◌||◌, List, [], ◌∷◌, length, Option, Some, None, refl, ap, arith}
use Rattle.std.specs.Prelude.{slice_set, slice_index_or, IsTrue}
use Rattle.jn_quals.specs.Qualifier.{Qualifier}
use Rattle.jn_quals.specs.Order.{within, no_qual}
use Rattle.jn_quals.proofs.Order.{within_refl, within_trans, within_join_left, within_join_right, within_join_least}
use Rattle.jn_env.specs.Environment.{Env}
use Rattle.jn_env.specs.Order.{Table, env_in, qual_at, QualsWithin, BitsAbove, EnvWithin, SlotWithin, TableWithin, join_quals, meet_bits, join_env, join_slot}
use Rattle.jn_env.specs.Size.{SameSize}

-- lists of qualifiers
pub quals_refl : (xs : List Qualifier) → QualsWithin xs xs
quals_refl [] = tt
quals_refl (x ∷ xs) = (within_refl x, quals_refl xs)

pub quals_trans : (xs ys zs : List Qualifier) → QualsWithin xs ys → QualsWithin ys zs → QualsWithin xs zs
quals_trans [] [] zs v w = w
quals_trans [] (y ∷ ys) zs v w = absurd v
quals_trans (x ∷ xs) [] zs v w = absurd v
quals_trans (x ∷ xs) (y ∷ ys) [] v w = absurd w
quals_trans (x ∷ xs) (y ∷ ys) (z ∷ zs) v w = (within_trans x y z v.0 w.0, quals_trans xs ys zs v.1 w.1)

pub quals_join_left : (xs ys : List Qualifier) → length xs ≡ length ys → QualsWithin xs (join_quals xs ys)
quals_join_left [] [] h = tt
quals_join_left [] (y ∷ ys) h = absurd (omega (arith, h))
quals_join_left (x ∷ xs) [] h = absurd (omega (arith, h))
quals_join_left (x ∷ xs) (y ∷ ys) h = (within_join_left x y, quals_join_left xs ys (omega (arith, h)))

pub quals_join_right : (xs ys : List Qualifier) → length xs ≡ length ys → QualsWithin ys (join_quals xs ys)
quals_join_right [] [] h = tt
quals_join_right [] (y ∷ ys) h = absurd (omega (arith, h))
quals_join_right (x ∷ xs) [] h = absurd (omega (arith, h))
quals_join_right (x ∷ xs) (y ∷ ys) h = (within_join_right x y, quals_join_right xs ys (omega (arith, h)))

pub quals_join_least : (xs ys zs : List Qualifier) → QualsWithin xs zs → QualsWithin ys zs → QualsWithin (join_quals xs ys) zs
quals_join_least [] ys zs v w = w
quals_join_least (x ∷ xs) [] zs v w = v
quals_join_least (x ∷ xs) (y ∷ ys) [] v w = absurd v
quals_join_least (x ∷ xs) (y ∷ ys) (z ∷ zs) v w = (within_join_least x y z v.0 w.0, quals_join_least xs ys zs v.1 w.1)

pub length-join_quals : (xs ys : List Qualifier) → length xs ≡ length ys → length (join_quals xs ys) ≡ length ys
length-join_quals [] ys h = refl
length-join_quals (x ∷ xs) [] h = h
length-join_quals (x ∷ xs) (y ∷ ys) h = let e : length xs ≡ length ys = omega (arith, h) in ap suc (length-join_quals xs ys e)

pub quals_at : (xs ys : List Qualifier) (r : ℕ) → QualsWithin xs ys → IsTrue (within (slice_index_or xs r no_qual) (slice_index_or ys r no_qual))
quals_at [] [] r w = refl
quals_at [] (y ∷ ys) r w = absurd w
quals_at (x ∷ xs) [] r w = absurd w
quals_at (x ∷ xs) (y ∷ ys) zero w = w.0
quals_at (x ∷ xs) (y ∷ ys) (suc r) w = quals_at xs ys r w.1

pub quals_set : (xs ys : List Qualifier) (r : ℕ) (p q : Qualifier) → IsTrue (within p q) → QualsWithin xs ys → QualsWithin (slice_set xs r p) (slice_set ys r q)
quals_set [] [] r p q v w = tt
quals_set [] (y ∷ ys) r p q v w = absurd w
quals_set (x ∷ xs) [] r p q v w = absurd w
quals_set (x ∷ xs) (y ∷ ys) zero p q v w = (v, w.1)
quals_set (x ∷ xs) (y ∷ ys) (suc r) p q v w = (w.0, quals_set xs ys r p q v w.1)

-- lists of bits, with more of them below
bit_refl : (a : Bool) → IsTrue (not a || a)
bit_refl true = refl
bit_refl false = refl

bit_trans : (a b c : Bool) → IsTrue (not b || a) → IsTrue (not c || b) → IsTrue (not c || a)
bit_trans a b false v w = refl
bit_trans a true true v w = v
bit_trans a false true v w = cc

bit_meet_left : (a b : Bool) → IsTrue (not (a && b) || a)
bit_meet_left true true = refl
bit_meet_left true false = refl
bit_meet_left false b = refl

bit_meet_right : (a b : Bool) → IsTrue (not (a && b) || b)
bit_meet_right true true = refl
bit_meet_right true false = refl
bit_meet_right false b = refl

bit_meet_most : (a b c : Bool) → IsTrue (not c || a) → IsTrue (not c || b) → IsTrue (not c || (a && b))
bit_meet_most a b false v w = refl
bit_meet_most true b true v w = w
bit_meet_most false b true v w = cc

pub bits_refl : (xs : List Bool) → BitsAbove xs xs
bits_refl [] = tt
bits_refl (x ∷ xs) = (bit_refl x, bits_refl xs)

pub bits_trans : (xs ys zs : List Bool) → BitsAbove xs ys → BitsAbove ys zs → BitsAbove xs zs
bits_trans [] [] zs v w = w
bits_trans [] (y ∷ ys) zs v w = absurd v
bits_trans (x ∷ xs) [] zs v w = absurd v
bits_trans (x ∷ xs) (y ∷ ys) [] v w = absurd w
bits_trans (x ∷ xs) (y ∷ ys) (z ∷ zs) v w = (bit_trans x y z v.0 w.0, bits_trans xs ys zs v.1 w.1)

pub bits_meet_left : (xs ys : List Bool) → length xs ≡ length ys → BitsAbove xs (meet_bits xs ys)
bits_meet_left [] [] h = tt
bits_meet_left [] (y ∷ ys) h = absurd (omega (arith, h))
bits_meet_left (x ∷ xs) [] h = absurd (omega (arith, h))
bits_meet_left (x ∷ xs) (y ∷ ys) h = (bit_meet_left x y, bits_meet_left xs ys (omega (arith, h)))

pub bits_meet_right : (xs ys : List Bool) → length xs ≡ length ys → BitsAbove ys (meet_bits xs ys)
bits_meet_right [] [] h = tt
bits_meet_right [] (y ∷ ys) h = absurd (omega (arith, h))
bits_meet_right (x ∷ xs) [] h = absurd (omega (arith, h))
bits_meet_right (x ∷ xs) (y ∷ ys) h = (bit_meet_right x y, bits_meet_right xs ys (omega (arith, h)))

pub bits_meet_most : (xs ys zs : List Bool) → BitsAbove xs zs → BitsAbove ys zs → BitsAbove (meet_bits xs ys) zs
bits_meet_most [] ys zs v w = w
bits_meet_most (x ∷ xs) [] zs v w = v
bits_meet_most (x ∷ xs) (y ∷ ys) [] v w = absurd v
bits_meet_most (x ∷ xs) (y ∷ ys) (z ∷ zs) v w = (bit_meet_most x y z v.0 w.0, bits_meet_most xs ys zs v.1 w.1)

pub length-meet_bits : (xs ys : List Bool) → length xs ≡ length ys → length (meet_bits xs ys) ≡ length ys
length-meet_bits [] ys h = refl
length-meet_bits (x ∷ xs) [] h = h
length-meet_bits (x ∷ xs) (y ∷ ys) h = let e : length xs ≡ length ys = omega (arith, h) in ap suc (length-meet_bits xs ys e)

-- environments
pub env_refl : (a : Env) → EnvWithin a a
env_refl a = record { quals = quals_refl a.quals; facts = bits_refl a.facts; assigned = bits_refl a.assigned }

pub env_trans : (a b c : Env) → EnvWithin a b → EnvWithin b c → EnvWithin a c
env_trans a b c v w = record { quals = quals_trans a.quals b.quals c.quals v.quals w.quals; facts = bits_trans a.facts b.facts c.facts v.facts w.facts; assigned = bits_trans a.assigned b.assigned c.assigned v.assigned w.assigned }

pub env_join_left : (a b : Env) → SameSize a b → EnvWithin a (join_env a b)
env_join_left a b s = record { quals = quals_join_left a.quals b.quals s.quals; facts = bits_meet_left a.facts b.facts s.facts; assigned = bits_meet_left a.assigned b.assigned s.assigned }

pub env_join_right : (a b : Env) → SameSize a b → EnvWithin b (join_env a b)
env_join_right a b s = record { quals = quals_join_right a.quals b.quals s.quals; facts = bits_meet_right a.facts b.facts s.facts; assigned = bits_meet_right a.assigned b.assigned s.assigned }

pub env_join_least : (a b c : Env) → EnvWithin a c → EnvWithin b c → EnvWithin (join_env a b) c
env_join_least a b c v w = record { quals = quals_join_least a.quals b.quals c.quals v.quals w.quals; facts = bits_meet_most a.facts b.facts c.facts v.facts w.facts; assigned = bits_meet_most a.assigned b.assigned c.assigned v.assigned w.assigned }

pub env_qual : (a b : Env) (r : ℕ) → EnvWithin a b → IsTrue (within (qual_at a r) (qual_at b r))
env_qual a b r w = quals_at a.quals b.quals r w.quals

-- slots
pub slot_refl : (a : Option Env) → SlotWithin a a
slot_refl None = tt
slot_refl (Some e) = env_refl e

pub slot_trans : (a b c : Option Env) → SlotWithin a b → SlotWithin b c → SlotWithin a c
slot_trans None b c v w = tt
slot_trans (Some a) None c v w = absurd v
slot_trans (Some a) (Some b) None v w = absurd w
slot_trans (Some a) (Some b) (Some c) v w = env_trans a b c v w

pub slot_join_least : (a : Option Env) (e : Env) (c : Option Env) → SlotWithin a c → SlotWithin (Some e) c → SlotWithin (join_slot a e) c
slot_join_least None e c v w = w
slot_join_least (Some a) e None v w = absurd v
slot_join_least (Some a) e (Some c) v w = env_join_least a e c v w

-- tables
pub table_refl : (t : Table) → TableWithin t t
table_refl [] = tt
table_refl (a ∷ t) = (slot_refl a, table_refl t)

pub table_trans : (t u v : Table) → TableWithin t u → TableWithin u v → TableWithin t v
table_trans [] [] v p q = q
table_trans [] (b ∷ u) v p q = absurd p
table_trans (a ∷ t) [] v p q = absurd p
table_trans (a ∷ t) (b ∷ u) [] p q = absurd q
table_trans (a ∷ t) (b ∷ u) (c ∷ v) p q = (slot_trans a b c p.0 q.0, table_trans t u v p.1 q.1)

pub table_at : (t u : Table) (p : ℕ) → TableWithin t u → SlotWithin (env_in t p) (env_in u p)
table_at [] [] p w = tt
table_at [] (b ∷ u) p w = absurd w
table_at (a ∷ t) [] p w = absurd w
table_at (a ∷ t) (b ∷ u) zero w = w.0
table_at (a ∷ t) (b ∷ u) (suc p) w = table_at t u p w.1

pub table_set_within : (t u : Table) (p : ℕ) (o : Option Env) → TableWithin t u → SlotWithin o (env_in u p) → TableWithin (slice_set t p o) u
table_set_within [] [] p o w h = tt
table_set_within [] (b ∷ u) p o w h = absurd w
table_set_within (a ∷ t) [] p o w h = absurd w
table_set_within (a ∷ t) (b ∷ u) zero o w h = (h, w.1)
table_set_within (a ∷ t) (b ∷ u) (suc p) o w h = (w.0, table_set_within t u p o w.1 h)

pub table_set_above : (t : Table) (p : ℕ) (o : Option Env) → SlotWithin (env_in t p) o → TableWithin t (slice_set t p o)
table_set_above [] p o h = tt
table_set_above (a ∷ t) zero o h = (h, table_refl t)
table_set_above (a ∷ t) (suc p) o h = (slot_refl a, table_set_above t p o h)
