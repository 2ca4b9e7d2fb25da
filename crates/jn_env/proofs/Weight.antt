-- A table's weight rises wherever the table does, and is bounded by its size.
use Rattle.std.proofs.Common.{◌≡◌, ℕ, ◌*◌, ◌≤◌, Bool, true, false, not, ◌||◌, cond, List, [], ◌∷◌, length, Option, Some, None, refl, ap, ◌∙◌, arith}
use Rattle.std.specs.Prelude.{IsTrue}
use Rattle.jn_quals.specs.Qualifier.{Qualifier}
use Rattle.jn_quals.specs.Order.{within}
use Rattle.jn_quals.proofs.Order.{included, same_qual}
use Rattle.jn_env.specs.Environment.{Env}
use Rattle.jn_env.specs.Order.{Table, QualsWithin, BitsAbove, EnvWithin, SlotWithin, TableWithin}
use Rattle.jn_env.specs.Weight.{qual_weight, quals_weight, bits_weight, slot_weight, weight}

abbrev bit : Bool → ℕ
bit b = cond b 1 0

bit_grows : (a b : Bool) → (a ≡ true → b ≡ true) → (bit a ≤ bit b) × (bit b ≤ bit a → a ≡ b)
bit_grows true true h = (omega arith, λ le. refl)
bit_grows true false h = absurd (let e = h refl in cc)
bit_grows false true h = (omega arith, λ le. absurd (omega (arith, le)))
bit_grows false false h = (omega arith, λ le. refl)

bit_small : (b : Bool) → bit b ≤ 1
bit_small true = omega arith
bit_small false = omega arith

qual_grows : (a b : Qualifier) → IsTrue (within a b) → (qual_weight a ≤ qual_weight b) × (qual_weight b ≤ qual_weight a → a ≡ b)
qual_grows a b w =
    let s = included a b w in
    let n = bit_grows a.null b.null s.null in
    let c = bit_grows a.committed b.committed s.committed in
    let f = bit_grows a.free b.free s.free in
    (omega (arith, n.0, c.0, f.0), λ le. same_qual a b (n.1 (omega (arith, n.0, c.0, f.0, le))) (c.1 (omega (arith, n.0, c.0, f.0, le))) (f.1 (omega (arith, n.0, c.0, f.0, le))))

quals_grow : (xs ys : List Qualifier) → QualsWithin xs ys → (quals_weight xs ≤ quals_weight ys) × (quals_weight ys ≤ quals_weight xs → xs ≡ ys)
quals_grow [] [] w = (omega arith, λ le. refl)
quals_grow [] (y ∷ ys) w = absurd w
quals_grow (x ∷ xs) [] w = absurd w
quals_grow (x ∷ xs) (y ∷ ys) w =
    let h = qual_grows x y w.0 in
    let t = quals_grow xs ys w.1 in
    (omega (arith, h.0, t.0), λ le. ap (λ z. z ∷ xs) (h.1 (omega (arith, h.0, t.0, le))) ∙ ap (λ zs. y ∷ zs) (t.1 (omega (arith, h.0, t.0, le))))

gap_grows : (a b : Bool) → IsTrue (not b || a) → (cond a 0 1 ≤ cond b 0 1) × (cond b 0 1 ≤ cond a 0 1 → a ≡ b)
gap_grows true true h = (omega arith, λ le. refl)
gap_grows true false h = (omega arith, λ le. absurd (omega (arith, le)))
gap_grows false true h = absurd (cc)
gap_grows false false h = (omega arith, λ le. refl)

bits_grow : (xs ys : List Bool) → BitsAbove xs ys → (bits_weight xs ≤ bits_weight ys) × (bits_weight ys ≤ bits_weight xs → xs ≡ ys)
bits_grow [] [] w = (omega arith, λ le. refl)
bits_grow [] (y ∷ ys) w = absurd w
bits_grow (x ∷ xs) [] w = absurd w
bits_grow (x ∷ xs) (y ∷ ys) w =
    let h = gap_grows x y w.0 in
    let t = bits_grow xs ys w.1 in
    (omega (arith, h.0, t.0), λ le. ap (λ z. z ∷ xs) (h.1 (omega (arith, h.0, t.0, le))) ∙ ap (λ zs. y ∷ zs) (t.1 (omega (arith, h.0, t.0, le))))

pub same_env : (a b : Env) → a.quals ≡ b.quals → a.facts ≡ b.facts → a.assigned ≡ b.assigned → a ≡ b
same_env a b e f g =
    let P : List Qualifier → List Bool → List Bool → Env = λ x y z. record { quals = x; facts = y; assigned = z } in
    ap (λ x. P x a.facts a.assigned) e ∙ ap (λ y. P b.quals y a.assigned) f ∙ ap (λ z. P b.quals b.facts z) g

pub slot_grows : (a b : Option Env) → SlotWithin a b → (slot_weight a ≤ slot_weight b) × (slot_weight b ≤ slot_weight a → a ≡ b)
slot_grows None None w = (omega arith, λ le. refl)
slot_grows None (Some b) w = (omega arith, λ le. absurd (omega (arith, le)))
slot_grows (Some a) None w = absurd w
slot_grows (Some a) (Some b) w =
    let q = quals_grow a.quals b.quals w.quals in
    let f = bits_grow a.facts b.facts w.facts in
    let g = bits_grow a.assigned b.assigned w.assigned in
    (omega (arith, q.0, f.0, g.0), λ le. ap (λ e. Some e) (same_env a b (q.1 (omega (arith, q.0, f.0, g.0, le))) (f.1 (omega (arith, q.0, f.0, g.0, le))) (g.1 (omega (arith, q.0, f.0, g.0, le)))))

pub table_grows : (t u : Table) → TableWithin t u → (weight t ≤ weight u) × (weight u ≤ weight t → t ≡ u)
table_grows [] [] w = (omega arith, λ le. refl)
table_grows [] (b ∷ u) w = absurd w
table_grows (a ∷ t) [] w = absurd w
table_grows (a ∷ t) (b ∷ u) w =
    let h = slot_grows a b w.0 in
    let r = table_grows t u w.1 in
    (omega (arith, h.0, r.0), λ le. ap (λ z. z ∷ t) (h.1 (omega (arith, h.0, r.0, le))) ∙ ap (λ zs. b ∷ zs) (r.1 (omega (arith, h.0, r.0, le))))

pub quals_bounded : (xs : List Qualifier) → quals_weight xs ≤ 3 * length xs
quals_bounded [] = omega arith
quals_bounded (x ∷ xs) = omega (arith, bit_small x.null, bit_small x.committed, bit_small x.free, quals_bounded xs)

gap_small : (b : Bool) → cond b 0 1 ≤ 1
gap_small true = omega arith
gap_small false = omega arith

pub bits_bounded : (xs : List Bool) → bits_weight xs ≤ length xs
bits_bounded [] = omega arith
bits_bounded (x ∷ xs) = omega (arith, gap_small x, bits_bounded xs)

-- the order is antisymmetric
pub table_antisym : (t u : Table) → TableWithin t u → TableWithin u t → t ≡ u
table_antisym t u v w = (table_grows t u v).1 (table_grows u t w).0

pub env_antisym : (a b : Env) → EnvWithin a b → EnvWithin b a → a ≡ b
env_antisym a b v w =
    let q = quals_grow a.quals b.quals v.quals in
    let f = bits_grow a.facts b.facts v.facts in
    let g = bits_grow a.assigned b.assigned v.assigned in
    same_env a b (q.1 (quals_grow b.quals a.quals w.quals).0) (f.1 (bits_grow b.facts a.facts w.facts).0) (g.1 (bits_grow b.assigned a.assigned w.assigned).0)
