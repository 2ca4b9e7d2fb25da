-- Lists of rows that are empty, items at their places, and first places.
use Rattle.std.proofs.Common.{◌≡◌, ◌<◌, ◌+◌, ℕ, zero, suc, Bool, true, false, cond, ◌||◌, ◌⊎◌, inl, inr, List, [], ◌∷◌, ◌++◌, length, take, map, Some, refl, sym, ap, ◌∙◌, subst, eqb, arith}
use Rattle.std.specs.Prelude.{slice_get, flat_map}
use Rattle.std.proofs.lemmas.Bool.{or_left, or_right}
use Rattle.jn_base.specs.declared.code.Code.{Code}
use Rattle.jn_base.specs.declared.place.Row.{Row}
use Rattle.jn_base.specs.declared.place.Span.{Span}
use Rattle.jn_points.specs.Members.{some_of, first_at}
use Rattle.jn_declaration_rules.specs.Rows.{rows_at, some_at, earlier, unless}
use Rattle.jn_declaration_rules.proofs.Tests.{or_true, or_false, true_or_not, not_both, member}

pub append_empty : {A : Type 0} (xs ys : List A) → xs ++ ys ≡ [] → (xs ≡ []) × (ys ≡ [])
append_empty [] ys h = (refl, h)
append_empty (x ∷ xs) ys h = cc

pub cond_empty : {A : Type 0} (b : Bool) (x : A) → cond b (x ∷ []) [] ≡ [] → b ≡ false
cond_empty true x h = cc
cond_empty false x h = refl

pub unless_empty : (b : Bool) (rows : List Row) → unless b rows ≡ [] → b ≡ false → rows ≡ []
unless_empty true rows h e = cc
unless_empty false rows h e = h

-- without rows no item passes
pub rows_none : {A : Type 0} (code : Code) (place : A → Span) (test : ℕ → A → Bool) (i : ℕ) (xs : List A) → rows_at code place test i xs ≡ [] → (k j : ℕ) (x : A) → slice_get xs k ≡ Some x → j ≡ i + k → test j x ≡ false
rows_none code place test i [] h k j x at e = cc
rows_none code place test i (y ∷ xs) h zero j x at e =
    let parts = append_empty (cond (test i y) (record { span = place y; code = code } ∷ []) []) (rows_at code place test (suc i) xs) h in
    let same : y ≡ x = cc in
    let k : j ≡ i = omega arith in
    rw k (subst (λ z. test i z ≡ false) same (cond_empty (test i y) (record { span = place y; code = code }) parts.0))
rows_none code place test i (y ∷ xs) h (suc k) j x at e =
    let parts = append_empty (cond (test i y) (record { span = place y; code = code } ∷ []) []) (rows_at code place test (suc i) xs) h in
    rows_none code place test (suc i) xs parts.1 k j x at (omega arith)

pub no_row : {A : Type 0} (code : Code) (place : A → Span) (test : ℕ → A → Bool) (xs : List A) → rows_at code place test 0 xs ≡ [] → (k : ℕ) (x : A) → slice_get xs k ≡ Some x → test k x ≡ false
no_row code place test xs h k x at = rows_none code place test 0 xs h k k x at (omega arith)

pub flat_none : {A B : Type 0} (f : A → List B) (xs : List A) → flat_map f xs ≡ [] → (k : ℕ) (x : A) → slice_get xs k ≡ Some x → f x ≡ []
flat_none f [] h k x at = cc
flat_none f (y ∷ xs) h zero x at = let same : y ≡ x = cc in subst (λ z. f z ≡ []) same (append_empty (f y) (flat_map f xs) h).0
flat_none f (y ∷ xs) h (suc k) x at = flat_none f xs (append_empty (f y) (flat_map f xs) h).1 k x at

-- no item passes
pub some_none : {A : Type 0} (test : A → Bool) (xs : List A) → some_of test xs ≡ false → (k : ℕ) (x : A) → slice_get xs k ≡ Some x → test x ≡ false
some_none test [] h k x at = cc
some_none test (y ∷ xs) h zero x at = let same : y ≡ x = cc in subst (λ z. test z ≡ false) same (or_false (test y) (some_of test xs) h).0
some_none test (y ∷ xs) h (suc k) x at = some_none test xs (or_false (test y) (some_of test xs) h).1 k x at

pub some_at_none : {A : Type 0} (test : ℕ → A → Bool) (i : ℕ) (xs : List A) → some_at test i xs ≡ false → (k j : ℕ) (x : A) → slice_get xs k ≡ Some x → j ≡ i + k → test j x ≡ false
some_at_none test i [] h k j x at e = cc
some_at_none test i (y ∷ xs) h zero j x at e =
    let same : y ≡ x = cc in
    let k : j ≡ i = omega arith in
    rw k (subst (λ z. test i z ≡ false) same (or_false (test i y) (some_at test (suc i) xs) h).0)
some_at_none test i (y ∷ xs) h (suc k) j x at e = some_at_none test (suc i) xs (or_false (test i y) (some_at test (suc i) xs) h).1 k j x at (omega arith)

pub none_at : {A : Type 0} (test : ℕ → A → Bool) (xs : List A) → some_at test 0 xs ≡ false → (k : ℕ) (x : A) → slice_get xs k ≡ Some x → test k x ≡ false
none_at test xs h k x at = some_at_none test 0 xs h k k x at (omega arith)

-- an earlier item that is like x
pub earlier_found : {A : Type 0} (like : A → A → Bool) (xs : List A) (i : ℕ) (x : A) (k : ℕ) (y : A) → slice_get xs k ≡ Some y → k < i → like x y ≡ true → earlier like xs i x ≡ true
earlier_found like [] i x k y at l h = cc
earlier_found like (z ∷ xs) zero x k y at l h = absurd (omega arith)
earlier_found like (z ∷ xs) (suc i) x zero y at l h = let same : z ≡ y = cc in or_left (like x z) (some_of (like x) (take i xs)) (subst (λ w. like x w ≡ true) (sym same) h)
earlier_found like (z ∷ xs) (suc i) x (suc k) y at l h = or_right (like x z) (some_of (like x) (take i xs)) (earlier_found like xs i x k y at (omega arith) h)

pub order : (i j : ℕ) → (i < j) ⊎ ((i ≡ j) ⊎ (j < i))
order zero zero = inr (inl refl)
order zero (suc j) = inl (omega arith)
order (suc i) zero = inr (inr (omega arith))
order (suc i) (suc j) = up (order i j)
  where
    up : (i < j) ⊎ ((i ≡ j) ⊎ (j < i)) → (suc i < suc j) ⊎ ((suc i ≡ suc j) ⊎ (suc j < suc i))
    up (inl l) = inl (omega arith)
    up (inr (inl e)) = inr (inl (ap suc e))
    up (inr (inr l)) = inr (inr (omega arith))

-- no two items at different places are alike, where none is like an earlier one
pub one_of : {A : Type 0} (like : A → A → Bool) (xs : List A) → ((k : ℕ) (x : A) → slice_get xs k ≡ Some x → earlier like xs k x ≡ false) → (i j : ℕ) (x y : A) → slice_get xs i ≡ Some x → slice_get xs j ≡ Some y → like x y ≡ true → like y x ≡ true → i ≡ j
one_of like xs first i j x y atx aty h k = by (order i j)
  where
    by : (i < j) ⊎ ((i ≡ j) ⊎ (j < i)) → i ≡ j
    by (inl l) = absurd (not_both (earlier like xs j y) (earlier_found like xs j y i x atx l k) (first j y aty))
    by (inr (inl e)) = e
    by (inr (inr l)) = absurd (not_both (earlier like xs i x) (earlier_found like xs i x j y aty l h) (first i x atx))

pub first_at_within : {A : Type 0} (test : A → Bool) (i : ℕ) (xs : List A) (c : ℕ) → first_at test i xs ≡ Some c → c < i + length xs
first_at_within test i [] c h = cc
first_at_within test i (x ∷ xs) c h = by (test x) h (first_at_within test (suc i) xs c)
  where
    by : (b : Bool) → cond b (Some i) (first_at test (i + 1) xs) ≡ Some c → (first_at test (suc i) xs ≡ Some c → c < suc i + length xs) → c < i + suc (length xs)
    by true e rest = let k : i ≡ c = cc in omega arith
    by false e rest =
        let s : i + 1 ≡ suc i = omega arith in
        let l : c < suc i + length xs = rest (subst (λ n. first_at test n xs ≡ Some c) s e) in
        omega arith

-- where an item passes, a first one is found, and it passes
pub first_at_found : {A : Type 0} (test : A → Bool) (i : ℕ) (xs : List A) (k : ℕ) (x : A) → slice_get xs k ≡ Some x → test x ≡ true → (c : ℕ) × (first_at test i xs ≡ Some c)
first_at_found test i [] k x at h = cc
first_at_found test i (y ∷ xs) zero x at h = let same : y ≡ x = cc in (i, ap (λ b. cond b (Some i) (first_at test (i + 1) xs)) (subst (λ z. test z ≡ true) (sym same) h))
first_at_found test i (y ∷ xs) (suc k) x at h = by (true_or_not (test y)) (first_at_found test (i + 1) xs k x at h)
  where
    by : (test y ≡ true) ⊎ (test y ≡ false) → ((c : ℕ) × (first_at test (i + 1) xs ≡ Some c)) → (c : ℕ) × (first_at test i (y ∷ xs) ≡ Some c)
    by (inl e) rest = (i, ap (λ b. cond b (Some i) (first_at test (i + 1) xs)) e)
    by (inr e) rest = (rest.0, ap (λ b. cond b (Some i) (first_at test (i + 1) xs)) e ∙ rest.1)

pub first_at_passes : {A : Type 0} (test : A → Bool) (i : ℕ) (xs : List A) (c : ℕ) → first_at test i xs ≡ Some c → (k : ℕ) × (x : A) × (slice_get xs k ≡ Some x) × (test x ≡ true) × (c ≡ i + k)
first_at_passes test i [] c h = cc
first_at_passes {A} test i (y ∷ xs) c h = by (test y) refl h (first_at_passes test (i + 1) xs c)
  where
    by : (b : Bool) → test y ≡ b → cond b (Some i) (first_at test (i + 1) xs) ≡ Some c → (first_at test (i + 1) xs ≡ Some c → (k : ℕ) × (x : A) × (slice_get xs k ≡ Some x) × (test x ≡ true) × (c ≡ i + 1 + k)) → (k : ℕ) × (x : A) × (slice_get (y ∷ xs) k ≡ Some x) × (test x ≡ true) × (c ≡ i + k)
    by true t e rest = (zero, y, refl, t, (let k : i ≡ c = cc in omega arith))
    by false t e rest = let r = rest e in let l : c ≡ i + 1 + r.0 = r.4 in (suc r.0, r.1, r.2, r.3, omega arith)

pub map_at : {A B : Type 0} (f : A → B) (xs : List A) (k : ℕ) (y : B) → slice_get (map f xs) k ≡ Some y → (x : A) × (slice_get xs k ≡ Some x) × (y ≡ f x)
map_at f [] k y h = cc
map_at f (x ∷ xs) zero y h = (x, refl, cc)
map_at f (x ∷ xs) (suc k) y h = map_at f xs k y h

pub append_at : {A : Type 0} (xs ys : List A) (k : ℕ) (x : A) → slice_get (xs ++ ys) k ≡ Some x → (slice_get xs k ≡ Some x) ⊎ ((j : ℕ) × (slice_get ys j ≡ Some x))
append_at [] ys k x h = inr (k, h)
append_at (z ∷ xs) ys zero x h = inl h
append_at (z ∷ xs) ys (suc k) x h = append_at xs ys k x h

pub middle_at : {A : Type 0} (before after : List A) (x : A) → slice_get (before ++ (x ∷ after)) (length before) ≡ Some x
middle_at [] after x = refl
middle_at (y ∷ before) after x = middle_at before after x

pub some_map : {A B : Type 0} (f : B → Bool) (g : A → B) (xs : List A) → some_of f (map g xs) ≡ some_of (λ x. f (g x)) xs
some_map f g [] = refl
some_map f g (x ∷ xs) = ap (λ b. f (g x) || b) (some_map f g xs)

pub some_same : {A : Type 0} (f g : A → Bool) (xs : List A) → ((x : A) → f x ≡ g x) → some_of f xs ≡ some_of g xs
some_same f g [] h = refl
some_same f g (x ∷ xs) h = ap (λ b. b || some_of f xs) (h x) ∙ ap (λ b. g x || b) (some_same f g xs h)

pub member_append : (s : ℕ) (xs ys : List ℕ) → (member s xs ≡ true) ⊎ (member s ys ≡ true) → member s (xs ++ ys) ≡ true
member_append s [] ys (inl h) = cc
member_append s [] ys (inr h) = h
member_append s (x ∷ xs) ys (inl h) = by (or_true (eqb x s) (member s xs) h) (λ h. member_append s xs ys (inl h))
  where
    by : (eqb x s ≡ true) ⊎ (member s xs ≡ true) → (member s xs ≡ true → member s (xs ++ ys) ≡ true) → member s (x ∷ xs ++ ys) ≡ true
    by (inl e) rest = or_left (eqb x s) (member s (xs ++ ys)) e
    by (inr e) rest = or_right (eqb x s) (member s (xs ++ ys)) (rest e)
member_append s (x ∷ xs) ys (inr h) = or_right (eqb x s) (member s (xs ++ ys)) (member_append s xs ys (inr h))
