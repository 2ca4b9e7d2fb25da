-- Facts are counted by their codes.
use Rattle.std.proofs.Common.{◌≡◌, ℕ, Bool, true, false, cond, not, ◌||◌, List, [], ◌∷◌, length, map, filter, nat_eq, refl, sym, ap, ◌∙◌, arith}
use Rattle.std.specs.List.{AllByRecursion, IsDistinct}
use Rattle.std.specs.Cmp.{nat_eq_equiv}
use Rattle.std.specs.Set.{distinct_count, is_member}
use Rattle.std.proofs.lemmas.List.{length-map}
use Rattle.std.proofs.lemmas.Bool.Decides.{nat_tests}
use Rattle.std.proofs.lemmas.Map.Made.{length-from_keys}
use Rattle.jn_env.specs.Keys.{Key, distinct, is_key}
use Rattle.jn_limits.specs.Large.{AllNarrow, IsNarrow, code}

code_same : (a b : Key) → IsNarrow a → IsNarrow b → nat_eq (code a) (code b) ≡ is_key a.reg a.field b
code_same a b n m = grind (arith, nat_tests)

abbrev others : Key → List Key → List Key
others k ks = filter (λ x. not (is_key k.reg k.field x)) ks

narrow_filter : (test : Key → Bool) (ks : List Key) → AllNarrow ks → AllNarrow (filter test ks)
narrow_filter test [] h = tt
narrow_filter test (k ∷ ks) h = by (test k) (narrow_filter test ks h.1)
  where
    by : (b : Bool) → AllNarrow (filter test ks) → AllNarrow (cond b (k ∷ filter test ks) (filter test ks))
    by true g = (h.0, g)
    by false g = g

narrow_distinct : (ks : List Key) → AllNarrow ks → AllNarrow (distinct ks)
narrow_distinct [] h = tt
narrow_distinct (k ∷ ks) h = (h.0, narrow_filter (λ x. not (is_key k.reg k.field x)) (distinct ks) (narrow_distinct ks h.1))

apart : (k : Key) (ks : List Key) → IsNarrow k → AllNarrow ks → AllByRecursion (λ n. nat_eq (code k) n ≡ false) (map code (others k ks))
apart k [] a h = tt
apart k (x ∷ xs) a h = by (is_key k.reg k.field x) refl (apart k xs a h.1)
  where
    by : (b : Bool) → is_key k.reg k.field x ≡ b → AllByRecursion (λ n. nat_eq (code k) n ≡ false) (map code (others k xs)) → AllByRecursion (λ n. nat_eq (code k) n ≡ false) (map code (cond (not b) (x ∷ others k xs) (others k xs)))
    by true e g = g
    by false e g = (code_same k x a h.0 ∙ e, g)

all_filter : (P : ℕ → Type 0) (test : Key → Bool) (ks : List Key) → AllByRecursion P (map code ks) → AllByRecursion P (map code (filter test ks))
all_filter P test [] h = tt
all_filter P test (k ∷ ks) h = by (test k) (all_filter P test ks h.1)
  where
    by : (b : Bool) → AllByRecursion P (map code (filter test ks)) → AllByRecursion P (map code (cond b (k ∷ filter test ks) (filter test ks)))
    by true g = (h.0, g)
    by false g = g

distinct_filter : (test : Key → Bool) (ks : List Key) → IsDistinct nat_eq (map code ks) → IsDistinct nat_eq (map code (filter test ks))
unfolding IsDistinct
distinct_filter test [] h = tt
distinct_filter test (k ∷ ks) h = by (test k) (distinct_filter test ks h.1)
  where
    by : (b : Bool) → IsDistinct nat_eq (map code (filter test ks)) → IsDistinct nat_eq (map code (cond b (k ∷ filter test ks) (filter test ks)))
    by true g = (all_filter (λ n. nat_eq (code k) n ≡ false) test ks h.0, g)
    by false g = g

is_distinct : (ks : List Key) → AllNarrow ks → IsDistinct nat_eq (map code (distinct ks))
unfolding IsDistinct
is_distinct [] h = tt
is_distinct (k ∷ ks) h = (apart k (distinct ks) h.0 (narrow_distinct ks h.1), distinct_filter (λ x. not (is_key k.reg k.field x)) (distinct ks) (is_distinct ks h.1))

not_equal : (a b c : ℕ) → nat_eq a b ≡ false → nat_eq b c ≡ true → nat_eq a c ≡ false
not_equal a b c e f = grind (arith, nat_tests)

member_others : (k : Key) (q : ℕ) (ks : List Key) → nat_eq q (code k) ≡ false → IsNarrow k → AllNarrow ks → is_member nat_eq (map code (others k ks)) q ≡ is_member nat_eq (map code ks) q
member_others k q [] ne a h = refl
member_others k q (x ∷ xs) ne a h = by (is_key k.reg k.field x) refl (member_others k q xs ne a h.1)
  where
    by : (b : Bool) → is_key k.reg k.field x ≡ b → is_member nat_eq (map code (others k xs)) q ≡ is_member nat_eq (map code xs) q → is_member nat_eq (map code (cond (not b) (x ∷ others k xs) (others k xs))) q ≡ (nat_eq q (code x) || is_member nat_eq (map code xs) q)
    by true e g = g ∙ sym (ap (λ b. b || is_member nat_eq (map code xs) q) (not_equal q (code k) (code x) ne (code_same k x a h.0 ∙ e)))
    by false e g = ap (λ b. nat_eq q (code x) || b) g

member_distinct : (q : ℕ) (ks : List Key) → AllNarrow ks → is_member nat_eq (map code (distinct ks)) q ≡ is_member nat_eq (map code ks) q
member_distinct q [] h = refl
member_distinct q (k ∷ ks) h = by (nat_eq q (code k)) refl (member_distinct q ks h.1)
  where
    by : (b : Bool) → nat_eq q (code k) ≡ b → is_member nat_eq (map code (distinct ks)) q ≡ is_member nat_eq (map code ks) q → (b || is_member nat_eq (map code (others k (distinct ks))) q) ≡ (b || is_member nat_eq (map code ks) q)
    by true e g = refl
    by false e g = member_others k q (distinct ks) e h.0 (narrow_distinct ks h.1) ∙ g

pub count_codes : (ks : List Key) → AllNarrow ks → distinct_count nat_eq (map code ks) ≡ length (distinct ks)
count_codes ks h = sym (sym (length-map (distinct ks) code) ∙ length-from_keys nat_eq_equiv (map code (distinct ks)) (map code ks) (is_distinct ks h) (λ q. member_distinct q ks h))
