-- What a method overrides or hides stands in Object or in busy classes along the walks of its class and of the classes that have it.
use Rattle.std.proofs.Common.{◌≡◌, ◌<◌, ℕ, true, false, not, ◌||◌, ◌&&◌, ◌⊎◌, inl, inr, List, [], ◌∷◌, ◌++◌, length, Some, sym, ap, ◌∙◌, subst, eqb, ltb}
use Rattle.std.specs.Prelude.{flat_map}
use Rattle.std.proofs.lemmas.Bool.{eqb-true, eq-eqb, lt-ltb, ltb-true, or_left, or_right}
use Rattle.jn_points.specs.declared.program.Method.{Method}
use Rattle.jn_points.specs.declared.program.Program.{Program}
use Rattle.jn_points.specs.Lookup.{method_at}
use Rattle.jn_points.specs.Members.{below, class_pair, class_pairs, interface_pairs, in_interface, is_named, is_pair, pairs_of, some_of, sub, walk}
use Rattle.jn_member_tables.specs.Numbers.{contains, list_at, passes, places_of}
use Rattle.jn_index.specs.Index.{owners, Lists, IsIndex}
use Rattle.jn_index.specs.Users.{AreUsers, has_method}
use Rattle.jn_index.specs.Busy.{is_busy}
use Rattle.jn_index.proofs.Busied.{busy_partner}
use Rattle.jn_index.proofs.Declared.{walk_reaches}
use Rattle.jn_index.proofs.Gathered.{pair_method, pair_other}
use Rattle.jn_index.proofs.Having.{below_inside, some_contained, contained_some, users_pair}
use Rattle.jn_declaration_rules.specs.Listed.{candidates}
use Rattle.jn_declaration_rules.specs.Rows.{agrees, hides_badly, hides_well, over_static, overrides_badly}
use Rattle.jn_declaration_rules.proofs.Tests.{and_true, or_true, true_or_not}
use Rattle.jn_declaration_rules.proofs.Lists.{member_append}
use Rattle.jn_declaration_rules.proofs.ByName.{some_at_of}
use Rattle.jn_declaration_rules.proofs.OwnMethods.{along_classes}
use Rattle.jn_declaration_rules.proofs.Partners.{hidden_parts, hidden_other}

contains_flat : (f : ℕ → List ℕ) (xs : List ℕ) (c d : ℕ) → contains xs c ≡ true → contains (f c) d ≡ true → contains (flat_map f xs) d ≡ true
contains_flat f [] c d h k = cc
contains_flat f (x ∷ xs) c d h k = by (or_true (eqb x c) (contains xs c) h) (λ h. contains_flat f xs c d h k)
  where
    by : (eqb x c ≡ true) ⊎ (contains xs c ≡ true) → (contains xs c ≡ true → contains (flat_map f xs) d ≡ true) → contains (f x ++ flat_map f xs) d ≡ true
    by (inl e) rest = member_append d (f x) (flat_map f xs) (inl (subst (λ n. contains (f n) d ≡ true) (sym (eqb-true x c e)) k))
    by (inr e) rest = member_append d (f x) (flat_map f xs) (inr (rest e))

module _ (P : Program) (x : Lists) (is : IsIndex P x) (over : Method) (inside : over.owner.0 < length P.classes) where
  -- the supertypes of the method's class
  above_own : (users : List ℕ) (d : ℕ) → is_busy P x.own x.named d ≡ true → sub P over.owner.0 d ≡ true → contains (candidates x over.owner.0 users) d ≡ true
  above_own users d busy h = by (or_true (eqb d 0) (contains (walk P over.owner.0) d) (walk_reaches P x is over.owner.0 d inside ∙ h))
    where
      by : (eqb d 0 ≡ true) ⊎ (contains (walk P over.owner.0) d ≡ true) → contains (candidates x over.owner.0 users) d ≡ true
      by (inl e) = or_left (eqb 0 d) (contains (list_at x.walks over.owner.0 ++ flat_map (list_at x.walks) users) d) (eq-eqb 0 d (sym (eqb-true d 0 e)))
      by (inr e) = or_right (eqb 0 d) (contains (list_at x.walks over.owner.0 ++ flat_map (list_at x.walks) users) d) (member_append d (list_at x.walks over.owner.0) (flat_map (list_at x.walks) users) (inl (is.walks_have over.owner.0 d inside busy e)))

  -- those of a class that has the method
  above_user : (users : List ℕ) (c d : ℕ) → c < length P.classes → is_busy P x.own x.named d ≡ true → contains users c ≡ true → sub P c d ≡ true → contains (candidates x over.owner.0 users) d ≡ true
  above_user users c d l busy u h = by (or_true (eqb d 0) (contains (walk P c) d) (walk_reaches P x is c d l ∙ h))
    where
      by : (eqb d 0 ≡ true) ⊎ (contains (walk P c) d ≡ true) → contains (candidates x over.owner.0 users) d ≡ true
      by (inl e) = or_left (eqb 0 d) (contains (list_at x.walks over.owner.0 ++ flat_map (list_at x.walks) users) d) (eq-eqb 0 d (sym (eqb-true d 0 e)))
      by (inr e) = or_right (eqb 0 d) (contains (list_at x.walks over.owner.0 ++ flat_map (list_at x.walks) users) d) (member_append d (list_at x.walks over.owner.0) (flat_map (list_at x.walks) users) (inr (contains_flat (list_at x.walks) users c d u (is.walks_have c d l busy e))))

  hidden : (y : Method) → (over_static P over y && not (hides_well P over y)) ≡ true → sub P over.owner.0 y.owner.0 ≡ true
  hidden y h = (and_true (not over.ctor && is_named y over.name.0 (length over.params) && y.is_static && not y.is_private && not (eqb over.owner.0 y.owner.0)) (sub P over.owner.0 y.owner.0) (and_true (over_static P over y) (not (hides_well P over y)) h).0).1

  module _ (m : ℕ) (there : method_at P m ≡ Some over) (users : List ℕ) (are : AreUsers P m over users) where
    hidden_busy : (k : ℕ) (y : Method) → method_at P k ≡ Some y → (over_static P over y && not (hides_well P over y)) ≡ true → is_busy P x.own x.named y.owner.0 ≡ true
    hidden_busy k y at h = busy_partner P x is k y at m over there (hidden_parts P m over there y h).0 (hidden_other P m over there k y at h)

    hides_along : some_of (λ d. some_of (λ k. passes (λ y. over_static P over y && not (hides_well P over y)) (method_at P k)) (places_of d 0 (owners P.methods))) (candidates x over.owner.0 users) ≡ hides_badly P over
    hides_along =
        along_classes P (λ k y. over_static P over y && not (hides_well P over y)) (candidates x over.owner.0 users) (λ k y at h. above_own users y.owner.0 (hidden_busy k y at h) (hidden y h))
        ∙ some_at_of (λ y. over_static P over y && not (hides_well P over y)) 0 P.methods

    pub hides_by : (classes : List ℕ) → classes ≡ candidates x over.owner.0 users → some_of (λ d. some_of (λ k. passes (λ y. over_static P over y && not (hides_well P over y)) (method_at P k)) (places_of d 0 (owners P.methods))) classes ≡ hides_badly P over
    hides_by classes e = subst (λ ds. some_of (λ d. some_of (λ k. passes (λ y. over_static P over y && not (hides_well P over y)) (method_at P k)) (places_of d 0 (owners P.methods))) ds ≡ hides_badly P over) (sym e) hides_along

    user_inside : (c : ℕ) → contains users c ≡ true → c < length P.classes
    user_inside c u = by (true_or_not (ltb c (length P.classes)))
      where
        none : some_of (λ c. not (ltb c (length P.classes))) users ≡ true → ⊥
        none h =
            let r = some_contained (λ c. has_method P m over c && not (ltb c (length P.classes))) (below (length P.classes)) (are (λ c. not (ltb c (length P.classes))) ∙ h) in
            let l : r.0 < length P.classes = below_inside (length P.classes) r.0 r.1 in
            let n : not (ltb r.0 (length P.classes)) ≡ true = (and_true (has_method P m over r.0) (not (ltb r.0 (length P.classes))) r.2).1 in
            let bad : not true ≡ true = subst (λ b. not b ≡ true) (lt-ltb r.0 (length P.classes) l) n in
            cc

        by : (ltb c (length P.classes) ≡ true) ⊎ (ltb c (length P.classes) ≡ false) → c < length P.classes
        by (inl e) = ltb-true c (length P.classes) e
        by (inr e) = absurd (none (contained_some (λ c. not (ltb c (length P.classes))) users c u (ap not e)))

    pair_above : (k : ℕ) (y : Method) → method_at P k ≡ Some y → is_pair P m k ≡ true → contains (candidates x over.owner.0 users) y.owner.0 ≡ true
    pair_above k y at h =
        let busy : is_busy P x.own x.named y.owner.0 ≡ true = busy_partner P x is k y at m over there (pair_method P m over there k h) (pair_other P m over there k h) in
        let e : pairs_of P m k (Some over) (Some y) ≡ true = subst (λ o. pairs_of P m k (Some over) o ≡ true) at (subst (λ o. pairs_of P m k o (method_at P k) ≡ true) there h) in
        by busy (or_true (class_pairs P m k over y) (interface_pairs P over y) (and_true (not over.ctor && is_named y over.name.0 (length over.params)) (class_pairs P m k over y || interface_pairs P over y) e).1)
      where
        by : is_busy P x.own x.named y.owner.0 ≡ true → (class_pairs P m k over y ≡ true) ⊎ (interface_pairs P over y ≡ true) → contains (candidates x over.owner.0 users) y.owner.0 ≡ true
        by busy (inl e) =
            let s : some_of (class_pair P m over y) (below (length P.classes)) ≡ true = (and_true (not (eqb m k) && not y.is_private && not y.is_static) (some_of (class_pair P m over y) (below (length P.classes))) e).1 in
            let c = some_contained (λ c. sub P c y.owner.0) users (users_pair P m over y users are ∙ s) in
            above_user users c.0 y.owner.0 (user_inside c.0 c.1) busy c.1 c.2
        by busy (inr e) = above_own users y.owner.0 busy (and_true (in_interface P over && in_interface P y && not (eqb over.owner.0 y.owner.0)) (sub P over.owner.0 y.owner.0) e).1

    pub overrides_along : some_of (λ d. some_of (λ k. passes (λ y. is_pair P m k && not (agrees P over y)) (method_at P k)) (places_of d 0 (owners P.methods))) (candidates x over.owner.0 users) ≡ overrides_badly P m over
    overrides_along = along_classes P (λ k y. is_pair P m k && not (agrees P over y)) (candidates x over.owner.0 users) (λ k y at h. pair_above k y at (and_true (is_pair P m k) (not (agrees P over y)) h).0)

    pub overrides_by : (classes : List ℕ) → classes ≡ candidates x over.owner.0 users → some_of (λ d. some_of (λ k. passes (λ y. is_pair P m k && not (agrees P over y)) (method_at P k)) (places_of d 0 (owners P.methods))) classes ≡ overrides_badly P m over
    overrides_by classes e = subst (λ ds. some_of (λ d. some_of (λ k. passes (λ y. is_pair P m k && not (agrees P over y)) (method_at P k)) (places_of d 0 (owners P.methods))) ds ≡ overrides_badly P m over) (sym e) overrides_along
