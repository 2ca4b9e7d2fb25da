-- What packed words have: each send is within words exactly where its bits are.
use Rattle.std.proofs.Common.{◌≡◌, ⊎_elim, ℕ, zero, suc, ◌+◌, ◌-◌, ◌*◌, ◌/◌, ◌%◌, ◌^◌, ◌<◌, ◌≤◌, ◌==◌, Bool, true, false, cond, nat_eq, if◌then◌else◌, List, [], ◌∷◌, sym, refl, ap, ◌∙◌, subst, arith, bit_or, eq-eqb, lit<, max}
use mathlib.Core.Option.{some, some-injective, some-ne-none}
use lib.ListN.{get_elem?}
use Rattle.std.specs.Prelude.{IsTrue}
use Rattle.std.specs.Int.{bit_at}
use Rattle.std.proofs.lemmas.Nat.{or_lt, mod_below, shr-shr, pow_pos}
use Rattle.std.proofs.lemmas.Nat.Bits.{bit_at_or, bit_at-lt, bit_at-zero, bit_at_above, bit_at_cat_low, bit_at_cat_high, same_from_bits}
use Rattle.std.proofs.lemmas.Bool.{cases_lt, eqb-true}
use Rattle.jn_base.specs.declared.number.WordNo.{WordNo}
use Rattle.jn_quals.specs.Qualifier.{Qualifier, to_bits}
use Rattle.jn_quals.specs.Order.{within}
use Rattle.jn_quals.specs.Word.{unpack, pack}
use Rattle.jn_quals.proofs.Order.{Included, included, within_of, within_refl}
use Rattle.jn_quals.proofs.Words.{to_bits_small, pack_small}
use Rattle.jn_sigtable.specs.System.{Within, NamesOnce, bits_for}
use Rattle.jn_sigtable.proofs.Bits.{within_trans, zero_within}
use Rattle.jn_inference_law.specs.Packing.{add_bits, pack_onto, packed}

same_test : (a b : ℕ) → (a == b) ≡ true → a ≡ b
same_test a b e = eqb-true a b e

-- the bits for one word
abbrev named_bits : ℕ → ℕ → ℕ → ℕ
named_bits w bits v = if w == v then bits else 0

or_none : (a : ℕ) → a ≡ bit_or a 0
or_none a = same_from_bits a (bit_or a 0) (λ i. let p = bit_at_or a 0 i in let q = bit_at-zero i in omega arith)

-- what is added stands for its word alone
pub added_bits : (w bits : ℕ) (os : List (WordNo × ℕ)) (v i : ℕ) → bit_at (bits_for (add_bits w bits os) v) i ≡ max (bit_at (bits_for os v) i) (bit_at (named_bits w bits v) i)
added_bits w bits [] v i = one (w == v)
  where
    one : (t : Bool) → bit_at (if t then bit_or bits 0 else 0) i ≡ max (bit_at 0 i) (bit_at (if t then bits else 0) i)
    one true = let p = bit_at_or bits 0 i in let q = bit_at-zero i in omega arith
    one false = let q = bit_at-zero i in omega arith
added_bits w bits (o ∷ os) v i = here (added_bits w bits os v i) (o.0.0 == w) refl
  where
    joined : (t : Bool) → bit_at (if t then bit_or (bit_or o.1 bits) (bits_for os v) else bits_for os v) i ≡ max (bit_at (if t then bit_or o.1 (bits_for os v) else bits_for os v) i) (bit_at (if t then bits else 0) i)
    joined true =
        let p = bit_at_or (bit_or o.1 bits) (bits_for os v) i in
        let q = bit_at_or o.1 bits i in
        let r = bit_at_or o.1 (bits_for os v) i in
        omega arith
    joined false = let q = bit_at-zero i in omega arith

    kept : bit_at (bits_for (add_bits w bits os) v) i ≡ max (bit_at (bits_for os v) i) (bit_at (named_bits w bits v) i) → (t : Bool) → bit_at (if t then bit_or o.1 (bits_for (add_bits w bits os) v) else bits_for (add_bits w bits os) v) i ≡ max (bit_at (if t then bit_or o.1 (bits_for os v) else bits_for os v) i) (bit_at (named_bits w bits v) i)
    kept h true =
        let p = bit_at_or o.1 (bits_for (add_bits w bits os) v) i in
        let r = bit_at_or o.1 (bits_for os v) i in
        omega arith
    kept h false = h

    here : bit_at (bits_for (add_bits w bits os) v) i ≡ max (bit_at (bits_for os v) i) (bit_at (named_bits w bits v) i) → (t : Bool) → (o.0.0 == w) ≡ t → bit_at (bits_for (if t then ((o.0, bit_or o.1 bits) ∷ os) else (o ∷ add_bits w bits os)) v) i ≡ max (bit_at (bits_for (o ∷ os) v) i) (bit_at (named_bits w bits v) i)
    here h true e =
        let same : o.0.0 ≡ w = same_test o.0.0 w e in
        subst (λ n. bit_at (if o.0.0 == v then bit_or (bit_or o.1 bits) (bits_for os v) else bits_for os v) i ≡ max (bit_at (if o.0.0 == v then bit_or o.1 (bits_for os v) else bits_for os v) i) (bit_at (if n == v then bits else 0) i)) same (joined (o.0.0 == v))
    here h false e = kept h (o.0.0 == v)

-- the words W have all that is output
abbrev pub HasAll : List (WordNo × ℕ) → (ℕ → ℕ) → Type 0
HasAll os W = (v : ℕ) → Within (bits_for os v) (W v)

named_within : (w bits v : ℕ) (W : ℕ → ℕ) → Within bits (W w) → Within (named_bits w bits v) (W v)
named_within w bits v W h = go (w == v) refl
  where
    go : (t : Bool) → (w == v) ≡ t → Within (if t then bits else 0) (W v)
    go true e = subst (λ n. Within bits (W n)) (same_test w v e) h
    go false e = zero_within (W v)

add_has : (w bits : ℕ) (os : List (WordNo × ℕ)) (W : ℕ → ℕ) → HasAll os W → Within bits (W w) → HasAll (add_bits w bits os) W
add_has w bits os W h k v i =
    let p = added_bits w bits os v i in
    let q = h v i in
    let r = named_within w bits v W k i in
    omega arith

added_old : (w bits : ℕ) (os : List (WordNo × ℕ)) (W : ℕ → ℕ) → HasAll (add_bits w bits os) W → HasAll os W
added_old w bits os W h v i =
    let p = added_bits w bits os v i in
    let q = h v i in
    omega arith

same_true : (w : ℕ) → (w == w) ≡ true
same_true w = eq-eqb w w refl

added_new : (w bits : ℕ) (os : List (WordNo × ℕ)) (W : ℕ → ℕ) → HasAll (add_bits w bits os) W → Within bits (W w)
added_new w bits os W h i =
    let p = added_bits w bits os w i in
    let q = h w i in
    let r : named_bits w bits w ≡ bits = ap (λ (t : Bool). if t then bits else 0) (same_true w) in
    let s : bit_at (named_bits w bits w) i ≡ bit_at bits i = ap (λ n. bit_at n i) r in
    omega arith

-- each send's bits stand in the words W
abbrev pub SendsWithin : List (ℕ × Qualifier) → (ℕ → ℕ) → Type 0
SendsWithin [] W = Unit {0}
SendsWithin (x ∷ xs) W = Within (pack 0 (x.0 % 21) x.1) (W (x.0 / 21)) × SendsWithin xs W

onto_has : (xs : List (ℕ × Qualifier)) (os : List (WordNo × ℕ)) (W : ℕ → ℕ) → HasAll os W → SendsWithin xs W → HasAll (pack_onto os xs) W
onto_has [] os W h k = h
onto_has (x ∷ xs) os W h k = onto_has xs (add_bits (x.0 / 21) (pack 0 (x.0 % 21) x.1) os) W (add_has (x.0 / 21) (pack 0 (x.0 % 21) x.1) os W h k.0) k.1

onto_old : (xs : List (ℕ × Qualifier)) (os : List (WordNo × ℕ)) (W : ℕ → ℕ) → HasAll (pack_onto os xs) W → HasAll os W
onto_old [] os W h = h
onto_old (x ∷ xs) os W h = added_old (x.0 / 21) (pack 0 (x.0 % 21) x.1) os W (onto_old xs (add_bits (x.0 / 21) (pack 0 (x.0 % 21) x.1) os) W h)

onto_sends : (xs : List (ℕ × Qualifier)) (os : List (WordNo × ℕ)) (W : ℕ → ℕ) → HasAll (pack_onto os xs) W → SendsWithin xs W
onto_sends [] os W h = tt
onto_sends (x ∷ xs) os W h = (
  added_new (x.0 / 21) (pack 0 (x.0 % 21) x.1) os W (onto_old xs (add_bits (x.0 / 21) (pack 0 (x.0 % 21) x.1) os) W h),
  onto_sends xs (add_bits (x.0 / 21) (pack 0 (x.0 % 21) x.1) os) W h,
)

pub packed_has : (xs : List (ℕ × Qualifier)) (W : ℕ → ℕ) → SendsWithin xs W → HasAll (packed xs) W
packed_has xs W k = onto_has xs [] W (λ v. zero_within (W v)) k

pub packed_sends : (xs : List (ℕ × Qualifier)) (W : ℕ → ℕ) → HasAll (packed xs) W → SendsWithin xs W
packed_sends xs W h = onto_sends xs [] W h

-- the three bits of a qualifier
first_bit : (x y z : Bool) → bit_at (cond x 1 0 + cond y 2 0 + cond z 4 0) 0 ≡ cond x 1 0
first_bit true true true = refl
first_bit true true false = refl
first_bit true false true = refl
first_bit true false false = refl
first_bit false true true = refl
first_bit false true false = refl
first_bit false false true = refl
first_bit false false false = refl

second_bit : (x y z : Bool) → bit_at (cond x 1 0 + cond y 2 0 + cond z 4 0) 1 ≡ cond y 1 0
second_bit true true true = refl
second_bit true true false = refl
second_bit true false true = refl
second_bit true false false = refl
second_bit false true true = refl
second_bit false true false = refl
second_bit false false true = refl
second_bit false false false = refl

third_bit : (x y z : Bool) → bit_at (cond x 1 0 + cond y 2 0 + cond z 4 0) 2 ≡ cond z 1 0
third_bit true true true = refl
third_bit true true false = refl
third_bit true false true = refl
third_bit true false false = refl
third_bit false true true = refl
third_bit false true false = refl
third_bit false false true = refl
third_bit false false false = refl

-- a packed qualifier has its bits at its index alone
pub packed_low : (j i : ℕ) (q : Qualifier) → i < 3 * j → bit_at (pack 0 j q) i ≡ 0
packed_low j i q lt =
    let a = bit_at_or 0 (to_bits q * 2 ^ (3 * j)) i in
    let z = bit_at-zero i in
    let e : to_bits q * 2 ^ (3 * j) + 0 ≡ to_bits q * 2 ^ (3 * j) = omega arith in
    let c : bit_at (to_bits q * 2 ^ (3 * j)) i ≡ 0 = ap (λ n. bit_at n i) (sym e) ∙ bit_at_cat_low (to_bits q) (3 * j) 0 i lt ∙ z in
    omega arith

pub packed_high : (j k : ℕ) (q : Qualifier) → bit_at (pack 0 j q) (3 * j + k) ≡ bit_at (to_bits q) k
packed_high j k q =
    let i = 3 * j + k in
    let a = bit_at_or 0 (to_bits q * 2 ^ (3 * j)) i in
    let z = bit_at-zero i in
    let e : to_bits q * 2 ^ (3 * j) + 0 ≡ to_bits q * 2 ^ (3 * j) = omega arith in
    let some : 0 < 2 ^ (3 * j) = pow_pos (3 * j) in
    let over : 3 * j ≤ i = omega arith in
    let back : i - 3 * j ≡ k = omega arith in
    let c : bit_at (to_bits q * 2 ^ (3 * j)) i ≡ bit_at (to_bits q) k = ap (λ n. bit_at n i) (sym e) ∙ bit_at_cat_high (to_bits q) (3 * j) 0 i some over ∙ ap (bit_at (to_bits q)) back in
    omega arith

-- the three bits at an index of a word
pub word_bit : (n j k : ℕ) → bit_at n (3 * j + k) ≡ n / 2 ^ (3 * j) / 2 ^ k % 2
word_bit n j k = ap (λ m. m % 2) (sym (shr-shr n (3 * j) k))

set_first : (m : ℕ) → m / 2 ^ 0 % 2 ≡ 1 → nat_eq (m % 8 / 1 % 2) 1 ≡ true
set_first m e = eq-eqb (m % 8 / 1 % 2) 1 (omega (arith, e))

set_second : (m : ℕ) → m / 2 ^ 1 % 2 ≡ 1 → nat_eq (m % 8 / 2 % 2) 1 ≡ true
set_second m e = eq-eqb (m % 8 / 2 % 2) 1 (omega (arith, e))

set_third : (m : ℕ) → m / 2 ^ 2 % 2 ≡ 1 → nat_eq (m % 8 / 4 % 2) 1 ≡ true
set_third m e = eq-eqb (m % 8 / 4 % 2) 1 (omega (arith, e))

first_set : (m : ℕ) → nat_eq (m % 8 / 1 % 2) 1 ≡ true → m / 2 ^ 0 % 2 ≡ 1
first_set m e = let h = eqb-true (m % 8 / 1 % 2) 1 e in omega (arith, h)

second_set : (m : ℕ) → nat_eq (m % 8 / 2 % 2) 1 ≡ true → m / 2 ^ 1 % 2 ≡ 1
second_set m e = let h = eqb-true (m % 8 / 2 % 2) 1 e in omega (arith, h)

third_set : (m : ℕ) → nat_eq (m % 8 / 4 % 2) 1 ≡ true → m / 2 ^ 2 % 2 ≡ 1
third_set m e = let h = eqb-true (m % 8 / 4 % 2) 1 e in omega (arith, h)

-- a bit of the packed qualifier is set in the word
carried : (j n k : ℕ) (q : Qualifier) → Within (pack 0 j q) n → bit_at (to_bits q) k ≡ 1 → n / 2 ^ (3 * j) / 2 ^ k % 2 ≡ 1
carried j n k q h e =
    let a = h (3 * j + k) in
    let b = packed_high j k q in
    let c = word_bit n j k in
    let d = bit_at-lt n (3 * j + k) in
    omega arith

-- a packed qualifier is within a word exactly where the word's qualifier at that index includes it
pub within_packed : (j n : ℕ) (q : Qualifier) → Within (pack 0 j q) n → IsTrue (within q (unpack n j))
within_packed j n q h = within_of q (unpack n j) (record {
  null = λ e. set_first (n / 2 ^ (3 * j)) (carried j n 0 q h (first_bit q.null q.committed q.free ∙ ap (λ (t : Bool). cond t 1 0) e));
  committed = λ e. set_second (n / 2 ^ (3 * j)) (carried j n 1 q h (second_bit q.null q.committed q.free ∙ ap (λ (t : Bool). cond t 1 0) e));
  free = λ e. set_third (n / 2 ^ (3 * j)) (carried j n 2 q h (third_bit q.null q.committed q.free ∙ ap (λ (t : Bool). cond t 1 0) e));
})

bit_kept : (x : Bool) (a b : ℕ) → a ≡ cond x 1 0 → (x ≡ true → b ≡ 1) → a ≤ b
bit_kept true a b e h = let k = h refl in omega (arith, e, k)
bit_kept false a b e h = omega (arith, e)

pub packed_within : (j n : ℕ) (q : Qualifier) → IsTrue (within q (unpack n j)) → Within (pack 0 j q) n
packed_within j n q w i = ⊎_elim (λ lt. let z = packed_low j i q lt in omega (arith, z)) (λ le. high (i - 3 * j) (omega (arith, le))) (cases_lt i (3 * j))
  where
    has : Included q (unpack n j)
    has = included q (unpack n j) w

    at_most : (k : ℕ) → bit_at (to_bits q) k ≤ n / 2 ^ (3 * j) / 2 ^ k % 2
    at_most zero = bit_kept q.null (bit_at (to_bits q) 0) (n / 2 ^ (3 * j) / 2 ^ 0 % 2) (first_bit q.null q.committed q.free) (λ e. first_set (n / 2 ^ (3 * j)) (has.null e))
    at_most (suc zero) = bit_kept q.committed (bit_at (to_bits q) 1) (n / 2 ^ (3 * j) / 2 ^ 1 % 2) (second_bit q.null q.committed q.free) (λ e. second_set (n / 2 ^ (3 * j)) (has.committed e))
    at_most (suc (suc zero)) = bit_kept q.free (bit_at (to_bits q) 2) (n / 2 ^ (3 * j) / 2 ^ 2 % 2) (third_bit q.null q.committed q.free) (λ e. third_set (n / 2 ^ (3 * j)) (has.free e))
    at_most (suc (suc (suc k))) = let z = bit_at_above (to_bits q) 3 (suc (suc (suc k))) (to_bits_small q) (omega arith) in omega (arith, z)

    high : (k : ℕ) → i ≡ 3 * j + k → bit_at (pack 0 j q) i ≤ bit_at n i
    high k e =
        let a = packed_high j k q in
        let b = word_bit n j k in
        let c = at_most k in
        let d : bit_at (pack 0 j q) (3 * j + k) ≤ bit_at n (3 * j + k) = omega arith in
        subst (λ m. bit_at (pack 0 j q) m ≤ bit_at n m) (sym e) d

-- words that are within others hold qualifiers that are
pub words_within : (a b j : ℕ) → Within a b → IsTrue (within (unpack a j) (unpack b j))
words_within a b j h = within_packed j b (unpack a j) (within_trans (pack 0 j (unpack a j)) a b (packed_within j a (unpack a j) (within_refl (unpack a j))) h)

-- what is packed has 63 bits
pub SmallBits : List (WordNo × ℕ) → Type 0
SmallBits os = (v : ℕ) → bits_for os v < 2 ^ 63

add_is : (w bits : ℕ) (os : List (WordNo × ℕ)) (v : ℕ) → bits_for (add_bits w bits os) v ≡ bit_or (bits_for os v) (named_bits w bits v)
add_is w bits os v = same_from_bits (bits_for (add_bits w bits os) v) (bit_or (bits_for os v) (named_bits w bits v)) (λ i. let p = added_bits w bits os v i in let q = bit_at_or (bits_for os v) (named_bits w bits v) i in omega arith)

named_small : (w bits v : ℕ) → bits < 2 ^ 63 → named_bits w bits v < 2 ^ 63
named_small w bits v h = go (w == v)
  where
    go : (t : Bool) → (if t then bits else 0) < 2 ^ 63
    go true = h
    go false = lit< tt

onto_small : (xs : List (ℕ × Qualifier)) (os : List (WordNo × ℕ)) → ((v : ℕ) → bits_for os v < 2 ^ 63) → (v : ℕ) → bits_for (pack_onto os xs) v < 2 ^ 63
onto_small [] os h v = h v
onto_small (x ∷ xs) os h v =
    let bits = pack 0 (x.0 % 21) x.1 in
    let index : x.0 % 21 < 21 = mod_below x.0 21 (lit< tt) in
    let few : bits < 2 ^ 63 = pack_small 0 (x.0 % 21) 63 x.1 (lit< tt) (omega (arith, index)) in
    onto_small xs (add_bits (x.0 / 21) bits os) (λ u. subst (λ n. n < 2 ^ 63) (sym (add_is (x.0 / 21) bits os u)) (or_lt 63 (bits_for os u) (named_bits (x.0 / 21) bits u) (h u) (named_small (x.0 / 21) bits u few))) v

pub packed_small : (xs : List (ℕ × Qualifier)) (v : ℕ) → bits_for (packed xs) v < 2 ^ 63
packed_small xs v = onto_small xs [] (λ u. lit< tt) v

-- outputs name each word once, and words below n alone
abbrev Fresh : ℕ → List (WordNo × ℕ) → Type 0
Fresh w [] = Unit {0}
Fresh w (o ∷ os) = (o.0.0 ≡ w → ⊥) × Fresh w os

abbrev Distinct : List (WordNo × ℕ) → Type 0
Distinct [] = Unit {0}
Distinct (o ∷ os) = Fresh o.0.0 os × Distinct os

abbrev NamesBelow : ℕ → List (WordNo × ℕ) → Type 0
NamesBelow n [] = Unit {0}
NamesBelow n (o ∷ os) = (o.0.0 < n) × NamesBelow n os

add_fresh : (v w bits : ℕ) (os : List (WordNo × ℕ)) → (w ≡ v → ⊥) → Fresh v os → Fresh v (add_bits w bits os)
add_fresh v w bits [] ne f = (ne, tt)
add_fresh v w bits (o ∷ os) ne f = go (add_fresh v w bits os ne f.1) (o.0.0 == w)
  where
    go : Fresh v (add_bits w bits os) → (t : Bool) → Fresh v (if t then ((o.0, bit_or o.1 bits) ∷ os) else (o ∷ add_bits w bits os))
    go rest true = (f.0, f.1)
    go rest false = (f.0, rest)

add_distinct : (w bits : ℕ) (os : List (WordNo × ℕ)) → Distinct os → Distinct (add_bits w bits os)
add_distinct w bits [] d = (tt, tt)
add_distinct w bits (o ∷ os) d = go (add_distinct w bits os d.1) (o.0.0 == w) refl
  where
    apart : (o.0.0 == w) ≡ false → w ≡ o.0.0 → ⊥
    apart e same = let h = eq-eqb o.0.0 w (sym same) in cc

    go : Distinct (add_bits w bits os) → (t : Bool) → (o.0.0 == w) ≡ t → Distinct (if t then ((o.0, bit_or o.1 bits) ∷ os) else (o ∷ add_bits w bits os))
    go rest true e = (d.0, d.1)
    go rest false e = (add_fresh o.0.0 w bits os (apart e) d.0, rest)

add_below : (n w bits : ℕ) (os : List (WordNo × ℕ)) → w < n → NamesBelow n os → NamesBelow n (add_bits w bits os)
add_below n w bits [] lt h = (lt, tt)
add_below n w bits (o ∷ os) lt h = go (add_below n w bits os lt h.1) (o.0.0 == w)
  where
    go : NamesBelow n (add_bits w bits os) → (t : Bool) → NamesBelow n (if t then ((o.0, bit_or o.1 bits) ∷ os) else (o ∷ add_bits w bits os))
    go rest true = (h.0, h.1)
    go rest false = (h.0, rest)

onto_distinct : (xs : List (ℕ × Qualifier)) (os : List (WordNo × ℕ)) → Distinct os → Distinct (pack_onto os xs)
onto_distinct [] os d = d
onto_distinct (x ∷ xs) os d = onto_distinct xs (add_bits (x.0 / 21) (pack 0 (x.0 % 21) x.1) os) (add_distinct (x.0 / 21) (pack 0 (x.0 % 21) x.1) os d)

-- each goes to a word below n
abbrev pub SentBelow : ℕ → List (ℕ × Qualifier) → Type 0
SentBelow n [] = Unit {0}
SentBelow n (x ∷ xs) = (x.0 / 21 < n) × SentBelow n xs

onto_below : (n : ℕ) (xs : List (ℕ × Qualifier)) (os : List (WordNo × ℕ)) → SentBelow n xs → NamesBelow n os → NamesBelow n (pack_onto os xs)
onto_below n [] os s h = h
onto_below n (x ∷ xs) os s h = onto_below n xs (add_bits (x.0 / 21) (pack 0 (x.0 % 21) x.1) os) s.1 (add_below n (x.0 / 21) (pack 0 (x.0 % 21) x.1) os s.0 h)

below_at : (n : ℕ) (os : List (WordNo × ℕ)) (i : ℕ) (o : WordNo × ℕ) → NamesBelow n os → get_elem? os i ≡ some o → o.0.0 < n
below_at n [] i o h e = absurd (some-ne-none o (sym e))
below_at n (p ∷ os) zero o h e = subst (λ (x : WordNo × ℕ). x.0.0 < n) (some-injective p o e) h.0
below_at n (p ∷ os) (suc i) o h e = below_at n os i o h.1 e

fresh_at : (w : ℕ) (os : List (WordNo × ℕ)) (i : ℕ) (o : WordNo × ℕ) → Fresh w os → get_elem? os i ≡ some o → o.0.0 ≡ w → ⊥
fresh_at w [] i o f e = absurd (some-ne-none o (sym e))
fresh_at w (p ∷ os) zero o f e = subst (λ (x : WordNo × ℕ). x.0.0 ≡ w → ⊥) (some-injective p o e) f.0
fresh_at w (p ∷ os) (suc i) o f e = fresh_at w os i o f.1 e

distinct_once : (os : List (WordNo × ℕ)) → Distinct os → NamesOnce os
distinct_once [] d i j o p e f same = absurd (some-ne-none o (sym e))
distinct_once (x ∷ os) d zero zero o p e f same = refl
distinct_once (x ∷ os) d zero (suc j) o p e f same = absurd (fresh_at x.0.0 os j p d.0 f (sym (subst (λ (y : WordNo × ℕ). y.0.0 ≡ p.0.0) (sym (some-injective x o e)) same)))
distinct_once (x ∷ os) d (suc i) zero o p e f same = absurd (fresh_at x.0.0 os i o d.0 e (subst (λ (y : WordNo × ℕ). o.0.0 ≡ y.0.0) (sym (some-injective x p f)) same))
distinct_once (x ∷ os) d (suc i) (suc j) o p e f same = ap suc (distinct_once os d.1 i j o p e f same)

pub packed_once : (xs : List (ℕ × Qualifier)) → NamesOnce (packed xs)
packed_once xs = distinct_once (packed xs) (onto_distinct xs [] tt)

pub packed_named : (n : ℕ) (xs : List (ℕ × Qualifier)) → SentBelow n xs → (i : ℕ) (o : WordNo × ℕ) → get_elem? (packed xs) i ≡ some o → o.0.0 < n
packed_named n xs s i o e = below_at n (packed xs) i o (onto_below n xs [] s tt) e
