-- A method's class is busy where the method is abstract, or another one has its name and arity.
use Rattle.std.proofs.Common.{◌≡◌, ◌<◌, ◌+◌, ℕ, zero, suc, Bool, true, false, not, cond, ◌||◌, ◌&&◌, ◌⊎◌, inl, inr, List, [], ◌∷◌, ◌++◌, length, Option, Some, None, refl, sym, ap, ◌∙◌, subst, eqb, arith}
use Rattle.std.specs.Prelude.{slice_get, map}
use Rattle.std.proofs.lemmas.Bool.{eqb-true, eq-eqb, or_left, or_right}
use Rattle.jn_points.specs.declared.program.Method.{Method}
use Rattle.jn_points.specs.declared.program.Program.{Program}
use Rattle.jn_points.specs.Lookup.{method_at}
use Rattle.jn_points.specs.Members.{some_of, is_named}
use Rattle.jn_member_tables.specs.Numbers.{list_at, places_of, contains, passes}
use Rattle.jn_index.specs.Busy.{is_other, has_other, is_busy_method, is_busy}
use Rattle.jn_index.specs.Index.{Lists, IsIndex}
use Rattle.jn_member_tables.proofs.Found.{true_or_not}
use Rattle.jn_member_tables.proofs.Ready.{and_true}
use Rattle.jn_index.proofs.Having.{and_both, contained_some}

-- an item stands in the list of its key
pub placed_at : {A : Type 0} (key : A → ℕ) (i k : ℕ) (xs : List A) (y : A) → slice_get xs k ≡ Some y → contains (places_of (key y) i (map key xs)) (i + k) ≡ true
placed_at key i k [] y at = cc
placed_at {A} key i zero (x ∷ xs) y at =
    let same : x ≡ y = cc in
    let here : eqb (key x) (key y) ≡ true = eq-eqb (key x) (key y) (ap key same) in
    let e : i + 0 ≡ i = omega arith in
    rw here (or_left (eqb i (i + 0)) (contains (places_of (key y) (i + 1) (map key xs)) (i + 0)) (eq-eqb i (i + 0) (sym e)))
placed_at {A} key i (suc k) (x ∷ xs) y at =
    let e : i + 1 + k ≡ i + suc k = omega arith in
    let rest : contains (places_of (key y) (i + 1) (map key xs)) (i + suc k) ≡ true = subst (λ n. contains (places_of (key y) (i + 1) (map key xs)) n ≡ true) e (placed_at key (i + 1) k xs y at) in
    by (true_or_not (eqb (key x) (key y))) rest
  where
    by : (eqb (key x) (key y) ≡ true) ⊎ (eqb (key x) (key y) ≡ false) → contains (places_of (key y) (i + 1) (map key xs)) (i + suc k) ≡ true → contains (places_of (key y) i (map key (x ∷ xs))) (i + suc k) ≡ true
    by (inl t) rest = rw t (or_right (eqb i (i + suc k)) (contains (places_of (key y) (i + 1) (map key xs)) (i + suc k)) rest)
    by (inr f) rest = rw f rest

module _ (P : Program) (x : Lists) (is : IsIndex P x) where
  pub own_there : (k : ℕ) (y : Method) → method_at P k ≡ Some y → contains (list_at x.own y.owner.0) k ≡ true
  own_there k y at =
      let e : 0 + k ≡ k = omega arith in
      subst (λ xs. contains xs k ≡ true) (sym (is.own_is y.owner.0)) (subst (λ n. contains (places_of y.owner.0 0 (map (λ (m : Method). m.owner.0) P.methods)) n ≡ true) e (placed_at (λ (m : Method). m.owner.0) 0 k P.methods y at))

  pub named_there : (k : ℕ) (y : Method) → method_at P k ≡ Some y → contains (list_at x.named y.name.0) k ≡ true
  named_there k y at =
      let e : 0 + k ≡ k = omega arith in
      subst (λ xs. contains xs k ≡ true) (sym (is.named_is y.name.0)) (subst (λ n. contains (places_of y.name.0 0 (map (λ (m : Method). m.name.0) P.methods)) n ≡ true) e (placed_at (λ (m : Method). m.name.0) 0 k P.methods y at))

  module _ (k : ℕ) (y : Method) (at : method_at P k ≡ Some y) where
    busy_by : (y.is_abstract || has_other P x.named k y) ≡ true → is_busy P x.own x.named y.owner.0 ≡ true
    busy_by h = contained_some (is_busy_method P x.named) (list_at x.own y.owner.0) k (own_there k y at) (ap (passes (λ (m : Method). m.is_abstract || has_other P x.named k m)) at ∙ h)

    pub busy_abstract : y.is_abstract ≡ true → is_busy P x.own x.named y.owner.0 ≡ true
    busy_abstract e = busy_by (or_left y.is_abstract (has_other P x.named k y) e)

    pub busy_other : has_other P x.named k y ≡ true → is_busy P x.own x.named y.owner.0 ≡ true
    busy_other e = busy_by (or_right y.is_abstract (has_other P x.named k y) e)

    -- another method that is no constructor has this one for another
    pub busy_partner : (m : ℕ) (over : Method) → method_at P m ≡ Some over → not over.ctor ≡ true → is_other P m over k ≡ true → is_busy P x.own x.named y.owner.0 ≡ true
    busy_partner m over there method other =
        let parts = and_true (not (eqb m k)) (passes (λ z. is_named z over.name.0 (length over.params)) (method_at P k)) other in
        let named : is_named y over.name.0 (length over.params) ≡ true = sym (ap (passes (λ z. is_named z over.name.0 (length over.params))) at) ∙ parts.1 in
        let outer = and_true (not y.ctor && eqb y.name.0 over.name.0) (eqb (length y.params) (length over.params)) named in
        let inner = and_true (not y.ctor) (eqb y.name.0 over.name.0) outer.0 in
        let name : y.name.0 ≡ over.name.0 = eqb-true y.name.0 over.name.0 inner.1 in
        let arity : length y.params ≡ length over.params = eqb-true (length y.params) (length over.params) outer.1 in
        let back : is_named over y.name.0 (length y.params) ≡ true = and_both (not over.ctor && eqb over.name.0 y.name.0) (eqb (length over.params) (length y.params)) (and_both (not over.ctor) (eqb over.name.0 y.name.0) method (eq-eqb over.name.0 y.name.0 (sym name))) (eq-eqb (length over.params) (length y.params) (sym arity)) in
        let apart : not (eqb k m) ≡ true = swap (true_or_not (eqb k m)) parts.0 in
        let is_one : is_other P k y m ≡ true = and_both (not (eqb k m)) (passes (λ z. is_named z y.name.0 (length y.params)) (method_at P m)) apart (ap (passes (λ z. is_named z y.name.0 (length y.params))) there ∙ back) in
        let listed : contains (list_at x.named y.name.0) m ≡ true = subst (λ n. contains (list_at x.named n) m ≡ true) (sym name) (named_there m over there) in
        busy_other (and_both (not y.ctor) (some_of (is_other P k y) (list_at x.named y.name.0)) inner.0 (contained_some (is_other P k y) (list_at x.named y.name.0) m listed is_one))
      where
        swap : (eqb k m ≡ true) ⊎ (eqb k m ≡ false) → not (eqb m k) ≡ true → not (eqb k m) ≡ true
        swap (inl e) h = let t : not (eqb m k) ≡ false = ap not (eq-eqb m k (sym (eqb-true k m e))) in cc
        swap (inr e) h = ap not e
