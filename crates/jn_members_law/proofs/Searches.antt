-- What a search along a list finds.
use Rattle.std.proofs.Common.{◌≡◌, ◌+◌, ℕ, zero, suc, Bool, true, false, cond, ◌||◌, ◌&&◌, ◌⊎◌, inl, inr, List, [], ◌∷◌, ◌++◌, Option, Some, None, refl, sym, ap, ◌∙◌, subst, eqb, arith}
use Rattle.std.specs.Prelude.{slice_get, filter, flat_map}
use Rattle.std.proofs.lemmas.Bool.{eqb-true, eq-eqb, or_left, or_right}
use Rattle.jn_base.specs.declared.number.ClassNo.{ClassNo}
use Rattle.jn_points.specs.Members.{some_of, first_at, first_or, first_some}
use Rattle.jn_points.proofs.Walks.{first_some_append}

pub true_or_not : (b : Bool) → (b ≡ true) ⊎ (b ≡ false)
true_or_not true = inl refl
true_or_not false = inr refl

pub or_true : (a b : Bool) → (a || b) ≡ true → (a ≡ true) ⊎ (b ≡ true)
or_true true b h = inl refl
or_true false b h = inr h

pub and_true : (a b : Bool) → (a && b) ≡ true → (a ≡ true) × (b ≡ true)
and_true true b h = (refl, h)
and_true false b h = cc

pub and_both : (a b : Bool) → a ≡ true → b ≡ true → (a && b) ≡ true
and_both true b e h = h
and_both false b e h = cc

-- the first item that passes
pub first_passes : {A : Type 0} (test : A → Bool) (i : ℕ) (xs : List A) (c : ℕ) → first_at test i xs ≡ Some c → (k : ℕ) × (x : A) × (slice_get xs k ≡ Some x) × (test x ≡ true) × (c ≡ i + k)
first_passes test i [] c h = cc
first_passes {A} test i (y ∷ xs) c h = by (test y) refl h (first_passes test (i + 1) xs c)
  where
    by : (b : Bool) → test y ≡ b → cond b (Some i) (first_at test (i + 1) xs) ≡ Some c → (first_at test (i + 1) xs ≡ Some c → (k : ℕ) × (x : A) × (slice_get xs k ≡ Some x) × (test x ≡ true) × (c ≡ i + 1 + k)) → (k : ℕ) × (x : A) × (slice_get (y ∷ xs) k ≡ Some x) × (test x ≡ true) × (c ≡ i + k)
    by true t e rest = (zero, y, refl, t, (let k : i ≡ c = cc in omega arith))
    by false t e rest = let r = rest e in let l : c ≡ i + 1 + r.0 = r.4 in (suc r.0, r.1, r.2, r.3, omega arith)

-- where none is found, none passes
pub none_passes : {A : Type 0} (test : A → Bool) (i : ℕ) (xs : List A) → first_at test i xs ≡ None → (k : ℕ) (x : A) → slice_get xs k ≡ Some x → test x ≡ false
none_passes test i [] h k x at = cc
none_passes {A} test i (y ∷ xs) h k x at = by (test y) refl h (none_passes test (i + 1) xs) k at
  where
    by : (b : Bool) → test y ≡ b → cond b (Some i) (first_at test (i + 1) xs) ≡ None → (first_at test (i + 1) xs ≡ None → (k : ℕ) (x : A) → slice_get xs k ≡ Some x → test x ≡ false) → (k : ℕ) → slice_get (y ∷ xs) k ≡ Some x → test x ≡ false
    by true t e rest k at = cc
    by false t e rest zero at = (let s : y ≡ x = cc in subst (λ z. test z ≡ false) s t)
    by false t e rest (suc k) at = rest e k x at

-- two tests that agree find the same
pub same_first : {A : Type 0} (test other : A → Bool) (i : ℕ) (xs : List A) → ((k : ℕ) (x : A) → slice_get xs k ≡ Some x → test x ≡ other x) → first_at test i xs ≡ first_at other i xs
same_first test other i [] same = refl
same_first test other i (x ∷ xs) same = ap (λ b. cond b (Some i) (first_at test (i + 1) xs)) (same zero x refl) ∙ ap (cond (other x) (Some i)) (same_first test other (i + 1) xs (λ k y at. same (suc k) y at))

pub found_or_none : (o : Option ℕ) → (o ≡ None) ⊎ ((j : ℕ) × (o ≡ Some j))
found_or_none None = inl refl
found_or_none (Some j) = inr (j, refl)

-- an item that passes is found, or one before it
pub passes_found : {A : Type 0} (test : A → Bool) (xs : List A) (k : ℕ) (x : A) → slice_get xs k ≡ Some x → test x ≡ true → (j : ℕ) × (first_at test 0 xs ≡ Some j)
passes_found test xs k x at t = by (found_or_none (first_at test 0 xs))
  where
    by : (first_at test 0 xs ≡ None) ⊎ ((j : ℕ) × (first_at test 0 xs ≡ Some j)) → (j : ℕ) × (first_at test 0 xs ≡ Some j)
    by (inl e) = absurd (let f : test x ≡ false = none_passes test 0 xs e k x at in cc)
    by (inr r) = r

pub or_found : (a b : Option ℕ) (m : ℕ) → first_or a b ≡ Some m → (a ≡ Some m) ⊎ ((a ≡ None) × (b ≡ Some m))
or_found None b m h = inr (refl, h)
or_found (Some n) b m h = inl h

pub or_first : (a b : Option ℕ) (m : ℕ) → a ≡ Some m → first_or a b ≡ Some m
or_first a b m e = ap (λ o. first_or o b) e

pub or_none : (a b : Option ℕ) → a ≡ None → first_or a b ≡ b
or_none a b e = ap (λ o. first_or o b) e

-- where the second finds something, one of both does
pub or_some : (a b : Option ℕ) (m : ℕ) → b ≡ Some m → (j : ℕ) × (first_or a b ≡ Some j)
or_some None b m e = (m, e)
or_some (Some n) b m e = (n, refl)

module _ (f : ℕ → Option ℕ) (walk : ℕ → List ℕ) where
  -- what is found along walks is found along one of them
  pub along_one : (ss : List ClassNo) (m : ℕ) → first_some f (flat_map (λ (s : ClassNo). walk s.0) ss) ≡ Some m → (s : ClassNo) × (some_of (λ (t : ClassNo). eqb t.0 s.0) ss ≡ true) × (first_some f (walk s.0) ≡ Some m)
  along_one [] m h = cc
  along_one (s ∷ ss) m h = by (or_found (first_some f (walk s.0)) (first_some f (flat_map (λ (s : ClassNo). walk s.0) ss)) m (sym (first_some_append f (walk s.0) (flat_map (λ (s : ClassNo). walk s.0) ss)) ∙ h)) (along_one ss m)
    where
      by : (first_some f (walk s.0) ≡ Some m) ⊎ ((first_some f (walk s.0) ≡ None) × (first_some f (flat_map (λ (s : ClassNo). walk s.0) ss) ≡ Some m)) → (first_some f (flat_map (λ (s : ClassNo). walk s.0) ss) ≡ Some m → (s : ClassNo) × (some_of (λ (t : ClassNo). eqb t.0 s.0) ss ≡ true) × (first_some f (walk s.0) ≡ Some m)) → (r : ClassNo) × (some_of (λ (t : ClassNo). eqb t.0 r.0) (s ∷ ss) ≡ true) × (first_some f (walk r.0) ≡ Some m)
      by (inl e) rest = (s, or_left (eqb s.0 s.0) (some_of (λ (t : ClassNo). eqb t.0 s.0) ss) (eq-eqb s.0 s.0 refl), e)
      by (inr e) rest = let r = rest e.1 in (r.0, or_right (eqb s.0 r.0.0) (some_of (λ (t : ClassNo). eqb t.0 r.0.0) ss) r.1, r.2)

  -- what one of the walks finds, all of them find, or something before it
  pub one_along : (ss : List ClassNo) (d m : ℕ) → some_of (λ (t : ClassNo). eqb t.0 d) ss ≡ true → first_some f (walk d) ≡ Some m → (j : ℕ) × (first_some f (flat_map (λ (s : ClassNo). walk s.0) ss) ≡ Some j)
  one_along [] d m there h = cc
  one_along (s ∷ ss) d m there h = by (or_true (eqb s.0 d) (some_of (λ (t : ClassNo). eqb t.0 d) ss) there) (λ t. one_along ss d m t h)
    where
      whole : first_some f (walk s.0 ++ flat_map (λ (s : ClassNo). walk s.0) ss) ≡ first_or (first_some f (walk s.0)) (first_some f (flat_map (λ (s : ClassNo). walk s.0) ss))
      whole = first_some_append f (walk s.0) (flat_map (λ (s : ClassNo). walk s.0) ss)

      by : (eqb s.0 d ≡ true) ⊎ (some_of (λ (t : ClassNo). eqb t.0 d) ss ≡ true) → (some_of (λ (t : ClassNo). eqb t.0 d) ss ≡ true → (j : ℕ) × (first_some f (flat_map (λ (s : ClassNo). walk s.0) ss) ≡ Some j)) → (j : ℕ) × (first_some f (walk s.0 ++ flat_map (λ (s : ClassNo). walk s.0) ss) ≡ Some j)
      by (inl e) rest = (m, whole ∙ or_first (first_some f (walk s.0)) (first_some f (flat_map (λ (s : ClassNo). walk s.0) ss)) m (subst (λ z. first_some f (walk z) ≡ Some m) (sym (eqb-true s.0 d e)) h))
      by (inr t) rest = let r = rest t in let o = or_some (first_some f (walk s.0)) (first_some f (flat_map (λ (s : ClassNo). walk s.0) ss)) r.0 r.1 in (o.0, whole ∙ o.1)

pub in_filter : (test keep : ClassNo → Bool) (ss : List ClassNo) → some_of test (filter keep ss) ≡ true → some_of test ss ≡ true
in_filter test keep [] h = h
in_filter test keep (s ∷ ss) h = by (keep s) h (in_filter test keep ss)
  where
    by : (b : Bool) → some_of test (cond b (s ∷ filter keep ss) (filter keep ss)) ≡ true → (some_of test (filter keep ss) ≡ true → some_of test ss ≡ true) → (test s || some_of test ss) ≡ true
    by true h rest = on (or_true (test s) (some_of test (filter keep ss)) h)
      where
        on : (test s ≡ true) ⊎ (some_of test (filter keep ss) ≡ true) → (test s || some_of test ss) ≡ true
        on (inl e) = or_left (test s) (some_of test ss) e
        on (inr e) = or_right (test s) (some_of test ss) (rest e)
    by false h rest = or_right (test s) (some_of test ss) (rest h)
