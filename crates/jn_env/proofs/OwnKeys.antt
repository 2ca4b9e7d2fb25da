-- A constructor's own keys are the reference fields of its class.
use Rattle.std.proofs.Common.{ℕ, ◌≡◌, ◌<◌, Bool, true, false, ◌&&◌, List, [], ◌∷◌, length, filter, refl, sym, ap, subst, ◌∙◌, arith}
use Rattle.std.specs.Prelude.{eqb, slice_index_or}
use Rattle.std.proofs.lemmas.Bool.{ne_eqb}
use Rattle.jn_points.specs.declared.program.Program.{Program}
use Rattle.jn_points.specs.Lookup.{owner, ref_field, class_of, ctor_of, method_in}
use Rattle.jn_points.specs.Members.{below}
use Rattle.jn_env.specs.Keys.{own_keys}
use Rattle.jn_env.specs.ClassFields.{is_field_of, class_fields, AreOwnFields}

filter_nothing : {A : Type 0} (xs : List A) → filter (λ x. false) xs ≡ []
filter_nothing [] = refl
filter_nothing (x ∷ xs) = filter_nothing xs

-- a field of another class
pub other_class : (at c : ℕ) → c < at → eqb at c ≡ false
other_class at c less = ne_eqb at c (λ e. omega (arith, less, e))

module _ (P : Program) where
  -- a body that is no constructor's has no own keys
  pub no_constructor : (b : ℕ) → ctor_of (method_in P b) ≡ false → [] ≡ own_keys P b
  no_constructor b none = sym (ap (λ ctor. filter (λ f. ctor && eqb (owner P f) (class_of (method_in P b)) && ref_field P f) (below (length P.fields))) none ∙ filter_nothing (below (length P.fields)))

  pub of_constructor : (b c : ℕ) → (ctor_of (method_in P b) ≡ true) × (class_of (method_in P b) ≡ c) → class_fields P c ≡ own_keys P b
  of_constructor b c (is, at) = sym (ap (λ ctor. filter (λ f. ctor && eqb (owner P f) (class_of (method_in P b)) && ref_field P f) (below (length P.fields))) is ∙ ap (class_fields P) at)

  pub of_listed : (lists : List (List ℕ)) (b c : ℕ) → AreOwnFields P lists → c < length lists → (ctor_of (method_in P b) ≡ true) × (class_of (method_in P b) ≡ c) → slice_index_or lists c [] ≡ own_keys P b
  of_listed lists b c are inside here = are.own c (subst (λ n. c < n) are.long inside) ∙ of_constructor b c here

  -- a field of no reference type is nobody's
  pub of_no_reference : (c f : ℕ) → ref_field P f ≡ false → is_field_of P c f ≡ false
  of_no_reference c f none = by (eqb (owner P f) c)
    where
      by : (b : Bool) → (b && ref_field P f) ≡ false
      by true = none
      by false = refl

  -- a reference field is one of its class
  pub of_reference : (c f : ℕ) → ref_field P f ≡ true → is_field_of P c f ≡ eqb (owner P f) c
  of_reference c f is = by (eqb (owner P f) c)
    where
      by : (b : Bool) → (b && ref_field P f) ≡ b
      by true = is
      by false = refl
