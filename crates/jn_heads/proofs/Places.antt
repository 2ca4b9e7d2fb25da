-- Steps of an index of classes by name.
use Rattle.std.proofs.Common.{◌≡◌, ◌<◌, ◌+◌, ℕ, zero, suc, Bool, true, false, cond, ◌⊎◌, inl, inr, List, [], ◌∷◌, ◌++◌, length, take, set, Option, Some, None, get_or, refl, sym, ap, ◌∙◌, subst, eqb, arith}
use Rattle.std.proofs.lemmas.Bool.{eqb-true, eq-eqb}
use Rattle.std.proofs.lemmas.List.{get_or-set_same, get_or-set_other, length-take-le}
use Rattle.std.proofs.lemmas.List.{take_more}
use Rattle.jn_points.specs.Members.{first_at, first_or}
use Rattle.jn_heads.specs.declared.head.ClassHead.{ClassHead}
use Rattle.jn_heads.specs.TypePlaces.{some_place, place_at, ArePlaces}

true_or_not : (b : Bool) → (b ≡ true) ⊎ (b ≡ false)
true_or_not true = inl refl
true_or_not false = inr refl

not_both : (b : Bool) → b ≡ true → b ≡ false → ⊥
not_both b h k = cc

pub pad : (xs : List ℕ) (m : ℕ) → get_or (xs ++ 0 ∷ []) m 0 ≡ get_or xs m 0
pad [] zero = refl
pad [] (suc m) = refl
pad (x ∷ xs) zero = refl
pad (x ∷ xs) (suc m) = pad xs m

first_at_push : {A : Type 0} (test : A → Bool) (n k : ℕ) (xs : List A) (y : A) → n + length xs ≡ k → first_at test n (xs ++ y ∷ []) ≡ first_or (first_at test n xs) (cond (test y) (Some k) None)
first_at_push test n k [] y e = ap (λ (i : ℕ). cond (test y) (Some i) None) (let s : n ≡ k = omega arith in s)
first_at_push {A} test n k (x ∷ xs) y e = by (test x) (first_at_push test (n + 1) k xs y (omega arith))
  where
    by : (b : Bool) → first_at test (n + 1) (xs ++ y ∷ []) ≡ first_or (first_at test (n + 1) xs) (cond (test y) (Some k) None) → cond b (Some n) (first_at test (n + 1) (xs ++ y ∷ [])) ≡ first_or (cond b (Some n) (first_at test (n + 1) xs)) (cond (test y) (Some k) None)
    by true rest = refl
    by false rest = rest

-- one class more: it counts where no earlier one has its name
pub one_class_more : (heads : List ClassHead) (i k : ℕ) (h : ClassHead) (old new : List ℕ) → i < length heads → get_or heads i h ≡ h → 2 + i ≡ k → ArePlaces (take i heads) old → ((n : ℕ) → place_at new n ≡ first_or (place_at old n) (cond (eqb h.name.name.0 n) (Some k) None)) → ArePlaces (take (i + 1) heads) new
one_class_more heads i k h old new l at e before step n =
    let more : take (i + 1) heads ≡ take i heads ++ h ∷ [] = take_more heads i h l ∙ ap (λ x. take i heads ++ x ∷ []) at in
    let len : length (take i heads) ≡ i = length-take-le i heads (omega arith) in
    let push = first_at_push (λ (h : ClassHead). eqb h.name.name.0 n) 2 k (take i heads) h (omega arith) in
    step n ∙ (ap (λ o. first_or o (cond (eqb h.name.name.0 n) (Some k) None)) (before n) ∙ (sym push ∙ ap (first_at (λ (h : ClassHead). eqb h.name.name.0 n) 2) (sym more)))

-- writing a number at a name that has none
pub put_first : (xs : List ℕ) (name k n : ℕ) → name < length xs → get_or xs name 0 ≡ 0 → 0 < k → place_at (set xs name k) n ≡ first_or (place_at xs n) (cond (eqb name n) (Some k) None)
put_first xs name zero n l none k = absurd (omega arith)
put_first xs name (suc k) n l none pos = by (true_or_not (eqb name n))
  where
    by : (eqb name n ≡ true) ⊎ (eqb name n ≡ false) → place_at (set xs name (suc k)) n ≡ first_or (place_at xs n) (cond (eqb name n) (Some (suc k)) None)
    by (inl e) =
        let same : name ≡ n = eqb-true name n e in
        let here : get_or (set xs name (suc k)) name 0 ≡ suc k = get_or-set_same xs name (suc k) 0 l in
        subst (λ m. place_at (set xs name (suc k)) m ≡ first_or (place_at xs m) (cond (eqb name m) (Some (suc k)) None)) same
        (ap some_place here ∙ sym (ap (λ v. first_or (some_place v) (cond (eqb name name) (Some (suc k)) None)) none ∙ ap (λ b. cond b (Some (suc k)) None) (eq-eqb name name refl)))
    by (inr e) =
        let other : n ≡ name → ⊥ = λ s. not_both (eqb name n) (eq-eqb name n (sym s)) e in
        ap some_place (get_or-set_other xs name n (suc k) 0 other) ∙ (sym (or_none (place_at xs n)) ∙ ap (λ b. first_or (place_at xs n) (cond b (Some (suc k)) None)) (sym e))
      where
        or_none : (o : Option ℕ) → first_or o None ≡ o
        or_none None = refl
        or_none (Some m) = refl

-- nothing is written at a name that has a class
pub keep_first : (xs : List ℕ) (name k n : ℕ) → 0 < get_or xs name 0 → place_at xs n ≡ first_or (place_at xs n) (cond (eqb name n) (Some k) None)
keep_first xs name k n pos = by (true_or_not (eqb name n))
  where
    or_none : (o : Option ℕ) → o ≡ first_or o None
    or_none None = refl
    or_none (Some m) = refl

    kept : (v : ℕ) (o : Option ℕ) → 0 < v → some_place v ≡ first_or (some_place v) o
    kept zero o l = absurd (omega arith)
    kept (suc v) o l = refl

    by : (eqb name n ≡ true) ⊎ (eqb name n ≡ false) → place_at xs n ≡ first_or (place_at xs n) (cond (eqb name n) (Some k) None)
    by (inl e) = kept (get_or xs n 0) (cond (eqb name n) (Some k) None) (subst (λ m. 0 < get_or xs m 0) (eqb-true name n e) pos)
    by (inr e) = or_none (place_at xs n) ∙ ap (λ b. first_or (place_at xs n) (cond b (Some k) None)) (sym e)
