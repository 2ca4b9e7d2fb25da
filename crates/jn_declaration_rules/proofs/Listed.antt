-- Where only items of one key pass, those of the key are enough.
use Rattle.std.proofs.Common.{◌≡◌, ◌<◌, ◌≤◌, ◌+◌, ◌-◌, ℕ, zero, suc, Bool, true, false, ◌||◌, ◌&&◌, ◌⊎◌, inl, inr, List, [], ◌∷◌, length, map, take, Some, refl, sym, ap, ◌∙◌, subst, eqb, ltb, arith}
use Rattle.std.specs.Prelude.{slice_get}
use Rattle.std.proofs.lemmas.Bool.{ltb-true}
use Rattle.jn_points.specs.declared.program.Field.{Field}
use Rattle.jn_points.specs.declared.program.Method.{Method}
use Rattle.jn_points.specs.Members.{some_of}
use Rattle.jn_member_tables.specs.Numbers.{list_at, places_of}
use Rattle.jn_index.specs.Index.{names, owners}
use Rattle.jn_declaration_rules.specs.Listed.{there, is_earlier}
use Rattle.jn_declaration_rules.specs.Rows.{some_at, earlier, same_method, same_field}
use Rattle.jn_declaration_rules.proofs.Tests.{true_or_not}

module _ {A : Type 0} (all : List A) (of : A → ℕ) (key : ℕ) (t : ℕ → A → Bool) (none : (k : ℕ) (y : A) → eqb (of y) key ≡ false → t k y ≡ false) where
  some_places : (i : ℕ) (xs : List A) → ((k : ℕ) → slice_get all (i + k) ≡ slice_get xs k) → some_of (λ k. there (t k) (slice_get all k)) (places_of key i (map of xs)) ≡ some_at t i xs
  some_places i [] at = refl
  some_places i (x ∷ xs) at = by (true_or_not (eqb (of x) key)) (subst (λ n. some_of (λ k. there (t k) (slice_get all k)) (places_of key n (map of xs)) ≡ some_at t (suc i) xs) (sym up) (some_places (suc i) xs (λ k. (let e : suc i + k ≡ i + suc k = omega arith in ap (slice_get all) e ∙ at (suc k)))))
    where
      up : i + 1 ≡ suc i
      up = omega arith

      here : slice_get all i ≡ Some x
      here = let e : i ≡ i + 0 = omega arith in ap (slice_get all) e ∙ at 0

      by : (eqb (of x) key ≡ true) ⊎ (eqb (of x) key ≡ false) → some_of (λ k. there (t k) (slice_get all k)) (places_of key (i + 1) (map of xs)) ≡ some_at t (suc i) xs → some_of (λ k. there (t k) (slice_get all k)) (places_of key i (map of (x ∷ xs))) ≡ some_at t i (x ∷ xs)
      by (inl e) rest = rw e (ap (λ o. there (t i) o || some_of (λ k. there (t k) (slice_get all k)) (places_of key (i + 1) (map of xs))) here ∙ ap (λ b. t i x || b) rest)
      by (inr e) rest = rw e (rest ∙ sym (ap (λ b. b || some_at t (suc i) xs) (none i x e)))

  pub some_listed : some_of (λ k. there (t k) (slice_get all k)) (places_of key 0 (map of all)) ≡ some_at t 0 all
  some_listed = some_places 0 all (λ k. (let e : 0 + k ≡ k = omega arith in ap (slice_get all) e))

some_before : {A : Type 0} (test : A → Bool) (n i : ℕ) (xs : List A) → some_at (λ k y. ltb k n && test y) i xs ≡ some_of test (take (n - i) xs)
some_before test n i [] = none (n - i)
  where
    none : (m : ℕ) → false ≡ some_of test (take m [])
    none zero = refl
    none (suc m) = refl
some_before {A} test n i (x ∷ xs) = by (true_or_not (ltb i n)) (some_before test n (suc i) xs)
  where
    by : (ltb i n ≡ true) ⊎ (ltb i n ≡ false) → some_at (λ k y. ltb k n && test y) (suc i) xs ≡ some_of test (take (n - suc i) xs) → ((ltb i n && test x) || some_at (λ k y. ltb k n && test y) (suc i) xs) ≡ some_of test (take (n - i) (x ∷ xs))
    by (inl e) rest =
        let l : i < n = ltb-true i n e in
        let s : n - i ≡ suc (n - suc i) = omega arith in
        rw (e, s) (ap (λ b. test x || b) rest)
    by (inr e) rest =
        let l : n ≤ i = grind arith in
        let s : n - i ≡ 0 = omega arith in
        let u : n - suc i ≡ 0 = omega arith in
        let r : some_at (λ k y. ltb k n && test y) (suc i) xs ≡ some_of test (take 0 xs) = subst (λ m. some_at (λ k y. ltb k n && test y) (suc i) xs ≡ some_of test (take m xs)) u rest in
        rw (e, s) r

-- the items before a place that are like x stand among those of x's key
earlier_listed : {A : Type 0} (all : List A) (of : A → ℕ) (like : A → A → Bool) (i : ℕ) (x : A) → ((y : A) → eqb (of y) (of x) ≡ false → like x y ≡ false) → some_of (is_earlier like all i x) (places_of (of x) 0 (map of all)) ≡ earlier like all i x
earlier_listed all of like i x other =
    some_listed all of (of x) (λ k y. ltb k i && like x y) (λ k y e. no (ltb k i) (like x y) (other y e))
    ∙ (some_before (like x) i 0 all ∙ (let s : i - 0 ≡ i = omega arith in ap (λ m. some_of (like x) (take m all)) s))
  where
    no : (a b : Bool) → b ≡ false → (a && b) ≡ false
    no true b h = h
    no false b h = refl

pub eqb_other : (a b : ℕ) → eqb a b ≡ false → eqb b a ≡ false
eqb_other a b e = grind arith

pub earlier_method : (all : List Method) (lists : List (List ℕ)) (i : ℕ) (x : Method) → ((d : ℕ) → list_at lists d ≡ places_of d 0 (owners all)) → some_of (is_earlier same_method all i x) (list_at lists x.owner.0) ≡ earlier same_method all i x
earlier_method all lists i x are = ap (some_of (is_earlier same_method all i x)) (are x.owner.0) ∙ earlier_listed all (λ (y : Method). y.owner.0) same_method i x (λ y e. no (eqb x.owner.0 y.owner.0) (eqb x.name.0 y.name.0) (eqb (length x.params) (length y.params)) (eqb_other y.owner.0 x.owner.0 e))
  where
    no : (a b c : Bool) → a ≡ false → (a && b && c) ≡ false
    no true b c h = cc
    no false b c h = refl

pub earlier_field : (all : List Field) (lists : List (List ℕ)) (i : ℕ) (x : Field) → ((d : ℕ) → list_at lists d ≡ places_of d 0 (map (λ (y : Field). y.owner.0) all)) → some_of (is_earlier same_field all i x) (list_at lists x.owner.0) ≡ earlier same_field all i x
earlier_field all lists i x are = ap (some_of (is_earlier same_field all i x)) (are x.owner.0) ∙ earlier_listed all (λ (y : Field). y.owner.0) same_field i x (λ y e. no (eqb x.owner.0 y.owner.0) (eqb x.name.0 y.name.0) (eqb_other y.owner.0 x.owner.0 e))
  where
    no : (a b : Bool) → a ≡ false → (a && b) ≡ false
    no true b h = cc
    no false b h = refl

-- or among those of x's name
pub earlier_named_method : (all : List Method) (lists : List (List ℕ)) (i : ℕ) (x : Method) → ((n : ℕ) → list_at lists n ≡ places_of n 0 (names all)) → some_of (is_earlier same_method all i x) (list_at lists x.name.0) ≡ earlier same_method all i x
earlier_named_method all lists i x are = ap (some_of (is_earlier same_method all i x)) (are x.name.0) ∙ earlier_listed all (λ (y : Method). y.name.0) same_method i x (λ y e. no (eqb x.owner.0 y.owner.0) (eqb x.name.0 y.name.0) (eqb (length x.params) (length y.params)) (eqb_other y.name.0 x.name.0 e))
  where
    no : (a b c : Bool) → b ≡ false → (a && b && c) ≡ false
    no true true c h = cc
    no true false c h = refl
    no false b c h = refl

pub earlier_named_field : (all : List Field) (lists : List (List ℕ)) (i : ℕ) (x : Field) → ((n : ℕ) → list_at lists n ≡ places_of n 0 (map (λ (y : Field). y.name.0) all)) → some_of (is_earlier same_field all i x) (list_at lists x.name.0) ≡ earlier same_field all i x
earlier_named_field all lists i x are = ap (some_of (is_earlier same_field all i x)) (are x.name.0) ∙ earlier_listed all (λ (y : Field). y.name.0) same_field i x (λ y e. no (eqb x.owner.0 y.owner.0) (eqb x.name.0 y.name.0) (eqb_other y.name.0 x.name.0 e))
  where
    no : (a b : Bool) → b ≡ false → (a && b) ≡ false
    no true b h = h
    no false b h = refl
