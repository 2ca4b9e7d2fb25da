-- Where only methods of some classes pass, those that these classes declare are enough.
use Rattle.std.proofs.Common.{◌≡◌, ◌<◌, ◌+◌, ℕ, zero, suc, Bool, true, cond, not, ◌||◌, ◌&&◌, ◌⊎◌, inl, inr, List, [], ◌∷◌, ◌++◌, length, map, Option, Some, None, refl, sym, ap, ◌∙◌, subst, eqb, arith}
use Rattle.std.specs.Prelude.{slice_get}
use Rattle.std.proofs.lemmas.Bool.{eqb-true, eq-eqb, or_left, or_right}
use Rattle.jn_points.specs.declared.program.Method.{Method}
use Rattle.jn_points.specs.declared.program.Program.{Program}
use Rattle.jn_points.specs.Lookup.{method_at}
use Rattle.jn_points.specs.Members.{declared_method, first_or, first_some, is_named, is_number, method_of, some_of, walk}
use Rattle.jn_member_tables.specs.Numbers.{contains, list_at, places_of, passes}
use Rattle.jn_index.specs.Index.{owners, Lists, IsIndex}
use Rattle.jn_index.proofs.Busied.{busy_abstract}
use Rattle.jn_index.proofs.Having.{contained_some, same_truth, some_contained}
use Rattle.jn_declaration_rules.specs.Rows.{some_at}
use Rattle.jn_declaration_rules.proofs.Tests.{and_true, or_true}
use Rattle.jn_declaration_rules.proofs.Lists.{first_at_passes, member_append}

some_at_intro : {A : Type 0} (t : ℕ → A → Bool) (i : ℕ) (xs : List A) (k j : ℕ) (x : A) → slice_get xs k ≡ Some x → j ≡ i + k → t j x ≡ true → some_at t i xs ≡ true
some_at_intro t i [] k j x at e h = cc
some_at_intro t i (y ∷ xs) zero j x at e h =
    let same : y ≡ x = cc in
    let n : j ≡ i = omega arith in
    or_left (t i y) (some_at t (suc i) xs) (subst (λ z. t i z ≡ true) (sym same) (subst (λ m. t m x ≡ true) n h))
some_at_intro t i (y ∷ xs) (suc k) j x at e h = or_right (t i y) (some_at t (suc i) xs) (some_at_intro t (suc i) xs k j x at (omega arith) h)

some_at_elim : {A : Type 0} (t : ℕ → A → Bool) (i : ℕ) (xs : List A) → some_at t i xs ≡ true → (k : ℕ) × (x : A) × (slice_get xs k ≡ Some x) × (t (i + k) x ≡ true)
some_at_elim t i [] h = cc
some_at_elim {A} t i (y ∷ xs) h = by (or_true (t i y) (some_at t (suc i) xs) h) (some_at_elim t (suc i) xs)
  where
    by : (t i y ≡ true) ⊎ (some_at t (suc i) xs ≡ true) → (some_at t (suc i) xs ≡ true → (k : ℕ) × (x : A) × (slice_get xs k ≡ Some x) × (t (suc i + k) x ≡ true)) → (k : ℕ) × (x : A) × (slice_get (y ∷ xs) k ≡ Some x) × (t (i + k) x ≡ true)
    by (inl e) rest = (zero, y, refl, subst (λ n. t n y ≡ true) (let n : i ≡ i + 0 = omega arith in n) e)
    by (inr e) rest = let r = rest e in (suc r.0, r.1, r.2, subst (λ n. t n r.1 ≡ true) (let n : suc i + r.0 ≡ i + suc r.0 = omega arith in n) r.3)

get_map : {A B : Type 0} (f : A → B) (xs : List A) (k : ℕ) (x : A) → slice_get xs k ≡ Some x → slice_get (map f xs) k ≡ Some (f x)
get_map f [] k x at = cc
get_map f (y ∷ xs) zero x at = let same : y ≡ x = cc in ap (λ z. Some (f z)) same
get_map f (y ∷ xs) (suc k) x at = get_map f xs k x at

in_places : (key i : ℕ) (ks : List ℕ) (k : ℕ) → slice_get ks k ≡ Some key → contains (places_of key i ks) (i + k) ≡ true
in_places key i [] k at = cc
in_places key i (x ∷ ks) zero at =
    let same : x ≡ key = cc in
    subst (λ b. contains (cond b (i ∷ []) [] ++ places_of key (i + 1) ks) (i + 0) ≡ true) (sym (eq-eqb x key same)) (or_left (eqb i (i + 0)) (contains (places_of key (i + 1) ks) (i + 0)) (eq-eqb i (i + 0) (omega arith)))
in_places key i (x ∷ ks) (suc k) at = member_append (i + suc k) (cond (eqb x key) (i ∷ []) []) (places_of key (i + 1) ks) (inr (subst (λ n. contains (places_of key (i + 1) ks) n ≡ true) (let e : i + 1 + k ≡ i + suc k = omega arith in e) (in_places key (i + 1) ks k at)))

module _ (P : Program) (t : ℕ → Method → Bool) where
  abbrev pub passing : ℕ → Bool
  passing k = passes (t k) (method_at P k)

  -- a method of the class passes
  abbrev pub among : ℕ → Bool
  among d = some_of passing (places_of d 0 (owners P.methods))

  pub among_own : (k : ℕ) (y : Method) → method_at P k ≡ Some y → t k y ≡ true → among y.owner.0 ≡ true
  among_own k y at h =
      let there : contains (places_of y.owner.0 0 (owners P.methods)) (0 + k) ≡ true = in_places y.owner.0 0 (owners P.methods) k (get_map (λ (m : Method). m.owner.0) P.methods k y at) in
      let own : contains (places_of y.owner.0 0 (owners P.methods)) k ≡ true = subst (λ n. contains (places_of y.owner.0 0 (owners P.methods)) n ≡ true) (let e : 0 + k ≡ k = omega arith in e) there in
      contained_some passing (places_of y.owner.0 0 (owners P.methods)) k own (ap (passes (t k)) at ∙ h)

  pub among_some : (d : ℕ) → among d ≡ true → some_at t 0 P.methods ≡ true
  among_some d h = let k = some_contained passing (places_of d 0 (owners P.methods)) h in by k.0 (method_at P k.0) refl k.2
    where
      by : (k : ℕ) (o : Option Method) → method_at P k ≡ o → passes (t k) o ≡ true → some_at t 0 P.methods ≡ true
      by k None e h = cc
      by k (Some y) e h = some_at_intro t 0 P.methods k k y e (omega arith) h

  -- the classes have all that pass
  pub along_classes : (ds : List ℕ) → ((k : ℕ) (y : Method) → method_at P k ≡ Some y → t k y ≡ true → contains ds y.owner.0 ≡ true) → some_of among ds ≡ some_at t 0 P.methods
  along_classes ds all = same_truth (some_of among ds) (some_at t 0 P.methods) (λ h. (let d = some_contained among ds h in among_some d.0 d.2)) back
    where
      back : some_at t 0 P.methods ≡ true → some_of among ds ≡ true
      back h =
          let r = some_at_elim t 0 P.methods h in
          let k : t r.0 r.1 ≡ true = subst (λ n. t n r.1 ≡ true) (let e : 0 + r.0 ≡ r.0 = omega arith in e) r.3 in
          contained_some among ds r.1.owner.0 (all r.0 r.1 r.2 k) (among_own r.0 r.1 r.2 k)

first_some_in : (f : ℕ → Option ℕ) (xs : List ℕ) (k : ℕ) → first_some f xs ≡ Some k → (d : ℕ) × (contains xs d ≡ true) × (f d ≡ Some k)
first_some_in f [] k h = cc
first_some_in f (x ∷ xs) k h = by (f x) refl h (first_some_in f xs k)
  where
    by : (o : Option ℕ) → f x ≡ o → first_or o (first_some f xs) ≡ Some k → (first_some f xs ≡ Some k → (d : ℕ) × (contains xs d ≡ true) × (f d ≡ Some k)) → (d : ℕ) × (contains (x ∷ xs) d ≡ true) × (f d ≡ Some k)
    by (Some j) e h rest = (x, or_left (eqb x x) (contains xs x) (eq-eqb x x refl), e ∙ h)
    by None e h rest = let r = rest h in (r.0, or_right (eqb x r.0) (contains xs r.0) r.1, r.2)

-- a class has a method from a class of its walk
pub in_its_walk : (P : Program) (c name arity k : ℕ) (y : Method) → method_at P k ≡ Some y → is_number (method_of P c name arity) k ≡ true → contains (walk P c) y.owner.0 ≡ true
in_its_walk P c name arity k y at h = by (method_of P c name arity) refl h
  where
    found : (j : ℕ) → method_of P c name arity ≡ Some j → j ≡ k → contains (walk P c) y.owner.0 ≡ true
    found j e s =
        let d = first_some_in (declared_method P c name arity) (walk P c) j e in
        let m = first_at_passes (λ (m : Method). is_named m name arity && eqb m.owner.0 d.0 && (not m.is_private || eqb d.0 c)) 0 P.methods j d.2 in
        let n : j ≡ 0 + m.0 = m.4 in
        let p : m.0 ≡ k = omega arith in
        let same : Some m.1 ≡ Some y = sym m.2 ∙ (ap (λ i. slice_get P.methods i) p ∙ at) in
        let one : m.1 ≡ y = cc in
        let a = and_true (is_named m.1 name arity && eqb m.1.owner.0 d.0) (not m.1.is_private || eqb d.0 c) m.3 in
        let b = and_true (is_named m.1 name arity) (eqb m.1.owner.0 d.0) a.0 in
        let o : y.owner.0 ≡ d.0 = ap (λ (z : Method). z.owner.0) (sym one) ∙ eqb-true m.1.owner.0 d.0 b.1 in
        subst (λ i. contains (walk P c) i ≡ true) (sym o) d.1

    by : (o : Option ℕ) → method_of P c name arity ≡ o → is_number o k ≡ true → contains (walk P c) y.owner.0 ≡ true
    by None e h = cc
    by (Some j) e h = found j e (eqb-true j k h)

-- T6: a class's abstract methods stand in busy classes of its walk
pub lacking_in_walk : (P : Program) (x : Lists) (c : ℕ) → IsIndex P x → c < length P.classes → some_of (λ d. some_of (λ k. passes (λ (y : Method). y.is_abstract && is_number (method_of P c y.name.0 (length y.params)) k) (method_at P k)) (places_of d 0 (owners P.methods))) (list_at x.walks c) ≡ some_at (λ m y. y.is_abstract && is_number (method_of P c y.name.0 (length y.params)) m) 0 P.methods
lacking_in_walk P x c is l = along_classes P (λ k y. y.is_abstract && is_number (method_of P c y.name.0 (length y.params)) k) (list_at x.walks c) (λ k y at h. (let both = and_true y.is_abstract (is_number (method_of P c y.name.0 (length y.params)) k) h in is.walks_have c y.owner.0 l (busy_abstract P x is k y at both.0) (in_its_walk P c y.name.0 (length y.params) k y at both.1)))
