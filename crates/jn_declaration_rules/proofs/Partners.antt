-- A method without a partner of its name and arity overrides none, and hides none.
use Rattle.std.proofs.Common.{◌≡◌, ℕ, Bool, true, false, not, ◌||◌, ◌&&◌, ◌⊎◌, inl, inr, List, [], ◌∷◌, length, Option, Some, None, refl, sym, ap, ◌∙◌, subst, eqb}
use Rattle.std.proofs.lemmas.Bool.{eqb-true, eq-eqb}
use Rattle.jn_points.specs.declared.program.Method.{Method}
use Rattle.jn_points.specs.declared.program.Program.{Program}
use Rattle.jn_points.specs.Lookup.{method_at}
use Rattle.jn_points.specs.Members.{some_of, is_pair, is_named, sub}
use Rattle.jn_member_tables.specs.Numbers.{list_at, passes}
use Rattle.jn_index.specs.Index.{Lists, IsIndex}
use Rattle.jn_index.specs.Busy.{is_other}
use Rattle.jn_index.specs.Users.{has_partner}
use Rattle.jn_index.proofs.Gathered.{pair_other, ctor_pairs}
use Rattle.jn_declaration_rules.specs.Rows.{agrees, over_static, hides_well, hides_badly, is_bad_override}
use Rattle.jn_declaration_rules.proofs.ByName.{clashes_named, hides_named}
use Rattle.jn_declaration_rules.proofs.Tests.{true_or_not}

never : (test : ℕ → Bool) → ((k : ℕ) → test k ≡ false) → (xs : List ℕ) → some_of test xs ≡ false
never test none [] = refl
never test none (x ∷ xs) = ap (λ b. b || some_of test xs) (none x) ∙ never test none xs

-- where no number passes a wider test, none passes
none_passes : (wide test : ℕ → Bool) → ((k : ℕ) → wide k ≡ false → test k ≡ false) → (xs : List ℕ) → some_of wide xs ≡ false → some_of test xs ≡ false
none_passes wide test sub [] h = refl
none_passes wide test sub (x ∷ xs) h = by (true_or_not (wide x)) (none_passes wide test sub xs)
  where
    by : (wide x ≡ true) ⊎ (wide x ≡ false) → (some_of wide xs ≡ false → some_of test xs ≡ false) → some_of test (x ∷ xs) ≡ false
    by (inl e) rest = (let t : some_of wide (x ∷ xs) ≡ true = ap (λ b. b || some_of wide xs) e in cc)
    by (inr e) rest = ap (λ b. b || some_of test xs) (sub x e) ∙ rest (sym (ap (λ b. b || some_of wide xs) e) ∙ h)

module _ (P : Program) (m : ℕ) (over : Method) (there : method_at P m ≡ Some over) where
  -- the clash of a method with its pair
  abbrev clash : ℕ → Bool
  clash k = passes (λ y. is_pair P m k && not (agrees P over y)) (method_at P k)

  -- a hidden method that isn't hidden well
  abbrev hidden : ℕ → Bool
  hidden k = passes (λ y. over_static P over y && not (hides_well P over y)) (method_at P k)

  no_clash : (k : ℕ) → is_pair P m k ≡ false → clash k ≡ false
  no_clash k e = by (method_at P k)
    where
      by : (o : Option Method) → passes (λ y. is_pair P m k && not (agrees P over y)) o ≡ false
      by None = refl
      by (Some y) = ap (λ b. b && not (agrees P over y)) e

  no_pair : (k : ℕ) → is_other P m over k ≡ false → is_pair P m k ≡ false
  no_pair k e = by (is_pair P m k) refl
    where
      by : (b : Bool) → is_pair P m k ≡ b → is_pair P m k ≡ false
      by true h = (let t : is_other P m over k ≡ true = pair_other P m over there k h in cc)
      by false h = h

  not_hidden : (c n s p o u w : Bool) → ((c && n && s && p && o && u) && w) ≡ true → (c ≡ true) × ((n ≡ true) × (o ≡ true))
  not_hidden true true true true true true w h = (refl, (refl, refl))
  not_hidden true true true true true false w h = cc
  not_hidden true true true true false u w h = cc
  not_hidden true true true false o u w h = cc
  not_hidden true true false p o u w h = cc
  not_hidden true false s p o u w h = cc
  not_hidden false n s p o u w h = cc

  pub hidden_parts : (y : Method) → (over_static P over y && not (hides_well P over y)) ≡ true → (not over.ctor ≡ true) × ((is_named y over.name.0 (length over.params) ≡ true) × (not (eqb over.owner.0 y.owner.0) ≡ true))
  hidden_parts y h = not_hidden (not over.ctor) (is_named y over.name.0 (length over.params)) y.is_static (not y.is_private) (not (eqb over.owner.0 y.owner.0)) (sub P over.owner.0 y.owner.0) (not (hides_well P over y)) h

  -- what a method hides is another of its name and arity
  pub hidden_other : (k : ℕ) (y : Method) → method_at P k ≡ Some y → (over_static P over y && not (hides_well P over y)) ≡ true → is_other P m over k ≡ true
  hidden_other k y at h = by (true_or_not (eqb m k))
    where
      named : passes (λ z. is_named z over.name.0 (length over.params)) (method_at P k) ≡ true
      named = ap (passes (λ z. is_named z over.name.0 (length over.params))) at ∙ (hidden_parts y h).1.0

      by : (eqb m k ≡ true) ⊎ (eqb m k ≡ false) → is_other P m over k ≡ true
      by (inl e) =
          let one : over ≡ y = (let t : method_at P m ≡ Some y = subst (λ n. method_at P n ≡ Some y) (sym (eqb-true m k e)) at in cc) in
          let own : eqb over.owner.0 y.owner.0 ≡ true = eq-eqb over.owner.0 y.owner.0 (ap (λ (z : Method). z.owner.0) one) in
          let off : not (eqb over.owner.0 y.owner.0) ≡ false = ap not own in
          let apart : not (eqb over.owner.0 y.owner.0) ≡ true = (hidden_parts y h).1.1 in
          cc
      by (inr e) = ap (λ b. not b && passes (λ z. is_named z over.name.0 (length over.params)) (method_at P k)) e ∙ named

  not_other : (k : ℕ) → is_other P m over k ≡ false → hidden k ≡ false
  not_other k e = by (method_at P k) refl
    where
      on : (y : Method) → method_at P k ≡ Some y → (b : Bool) → (over_static P over y && not (hides_well P over y)) ≡ b → (over_static P over y && not (hides_well P over y)) ≡ false
      on y at true h = (let t : is_other P m over k ≡ true = hidden_other k y at h in cc)
      on y at false h = h

      by : (o : Option Method) → method_at P k ≡ o → passes (λ y. over_static P over y && not (hides_well P over y)) o ≡ false
      by None at = refl
      by (Some y) at = on y at (over_static P over y && not (hides_well P over y)) refl

  ctor_hides : over.ctor ≡ true → (k : ℕ) → hidden k ≡ false
  ctor_hides ctor k = by (method_at P k)
    where
      on : (y : Method) (b : Bool) → (over_static P over y && not (hides_well P over y)) ≡ b → (over_static P over y && not (hides_well P over y)) ≡ false
      on y true h =
          let t : not over.ctor ≡ true = (hidden_parts y h).0 in
          let f : not over.ctor ≡ false = ap not ctor in
          cc
      on y false h = h

      by : (o : Option Method) → passes (λ y. over_static P over y && not (hides_well P over y)) o ≡ false
      by None = refl
      by (Some y) = on y (over_static P over y && not (hides_well P over y)) refl

  module _ (x : Lists) (is : IsIndex P x) (alone : has_partner P x m over ≡ false) where
    none_clashes : some_of clash (list_at x.named over.name.0) ≡ false
    none_clashes = by over.ctor refl alone
      where
        by : (b : Bool) → over.ctor ≡ b → (not b && some_of (is_other P m over) (list_at x.named over.name.0)) ≡ false → some_of clash (list_at x.named over.name.0) ≡ false
        by true ctor h = never clash (λ k. no_clash k (ctor_pairs P m over there ctor k)) (list_at x.named over.name.0)
        by false ctor h = none_passes (is_other P m over) clash (λ k e. no_clash k (no_pair k e)) (list_at x.named over.name.0) h

    none_hidden : some_of hidden (list_at x.named over.name.0) ≡ false
    none_hidden = by over.ctor refl alone
      where
        by : (b : Bool) → over.ctor ≡ b → (not b && some_of (is_other P m over) (list_at x.named over.name.0)) ≡ false → some_of hidden (list_at x.named over.name.0) ≡ false
        by true ctor h = never hidden (ctor_hides ctor) (list_at x.named over.name.0)
        by false ctor h = none_passes (is_other P m over) hidden not_other (list_at x.named over.name.0) h

    pub alone_is_well : is_bad_override P m over ≡ false
    alone_is_well =
        ap (λ b. b || hides_badly P over) (sym (clashes_named P x m over is there) ∙ none_clashes)
        ∙ (sym (hides_named P x over is) ∙ none_hidden)
