-- Signatures that agree on lists of slots.
use Rattle.std.proofs.Common.{◌≡◌, ℕ, ◌+◌, ◌<◌, Bool, true, false, List, [], ◌∷◌, ◌++◌, length, drop, get_or, refl, sym, ap, ◌∙◌, subst}
use Rattle.std.specs.Prelude.{◌↔◌, ◌&&◌, filter, eqb}
use Rattle.std.proofs.lemmas.List.{drop_more}
use Rattle.jn_quals.specs.Qualifier.{Qualifier}
use Rattle.jn_points.specs.declared.program.Program.{Program}
use Rattle.jn_points.specs.Lookup.{class_of, ctor_of, method_in, owner, ref_field}
use Rattle.jn_points.specs.Members.{below}
use Rattle.jn_env.specs.Keys.{own_keys}
use Rattle.jn_recheck_law.specs.Slots.{Agree}
use Rattle.jn_recheck_law.proofs.Agreed.{agree_left, agree_right}

pub never : false ≡ true → ⊥
never e = cc

module _ (s t : List Qualifier) where
  pub agree_both : (xs ys : List ℕ) → Agree s t xs → Agree s t ys → Agree s t (xs ++ ys)
  agree_both [] ys h k = k
  agree_both (x ∷ xs) ys h k = (h.0, agree_both xs ys h.1 k)

  all_three : (a b c : Bool) → (a && b && c) ≡ true → (a ≡ true) × (b ≡ true) × (c ≡ true)
  all_three true true true e = (refl, refl, refl)
  all_three true true false e = absurd (never e)
  all_three true false c e = absurd (never e)
  all_three false b c e = absurd (never e)

  three_all : (a b c : Bool) → a ≡ true → b ≡ true → c ≡ true → (a && b && c) ≡ true
  three_all a b c x y z = (λ i. x i && y i && z i)

  pub agree_three : (xs ys zs : List ℕ) (a b c r : Bool) → r ≡ (a && b && c) → (a ≡ true) ↔ Agree s t xs → (b ≡ true) ↔ Agree s t ys → (c ≡ true) ↔ Agree s t zs → (r ≡ true) ↔ Agree s t (xs ++ (ys ++ zs))
  agree_three xs ys zs a b c r is x y z = (
    (λ e. let h = all_three a b c (sym is ∙ e) in agree_both xs (ys ++ zs) (x.0 h.0) (agree_both ys zs (y.0 h.1) (z.0 h.2))),
    (λ h.
        let rest = agree_right s t xs (ys ++ zs) h in
        is ∙ three_all a b c (x.1 (agree_left s t xs (ys ++ zs) h)) (y.1 (agree_left s t ys zs rest)) (z.1 (agree_right s t ys zs rest))),
  )

  module _ {A : Type 0} (F : List A → List ℕ) (f : A → List ℕ) (more : (x : A) (xs : List A) → F (x ∷ xs) ≡ f x ++ F xs) (xs : List A) where
    -- what the first so many items leave to be shown
    abbrev pub LeftAgree : ℕ → Type 0
    LeftAgree i = Agree s t (F xs) ↔ Agree s t (F (drop i xs))

    opened : (d : A) (i : ℕ) → i < length xs → F (drop i xs) ≡ f (get_or xs i d) ++ F (drop (i + 1) xs)
    opened d i lt = ap F (drop_more xs i d lt) ∙ more (get_or xs i d) (drop (i + 1) xs)

    pub one_gone : (d : A) (i : ℕ) → i < length xs → LeftAgree i → Agree s t (f (get_or xs i d)) → LeftAgree (i + 1)
    one_gone d i lt left a = (
      (λ h. agree_right s t (f (get_or xs i d)) (F (drop (i + 1) xs)) (subst (Agree s t) (opened d i lt) (left.0 h))),
      (λ h. left.1 (subst (Agree s t) (sym (opened d i lt)) (agree_both (f (get_or xs i d)) (F (drop (i + 1) xs)) a h))),
    )

    pub one_differs : (d : A) (i : ℕ) → i < length xs → LeftAgree i → (Agree s t (f (get_or xs i d)) → ⊥) → (false ≡ true) ↔ Agree s t (F xs)
    one_differs d i lt left a = (
      (λ e. absurd (never e)),
      (λ h. absurd (a (agree_left s t (f (get_or xs i d)) (F (drop (i + 1) xs)) (subst (Agree s t) (opened d i lt) (left.0 h))))),
    )

-- a body that is no constructor's has no fields to assign
none_pass : (P : Program) (class : ℕ) (ctor : Bool) → ctor ≡ false → (fs : List ℕ) → filter (λ f. ctor && eqb (owner P f) class && ref_field P f) fs ≡ []
none_pass P class true e fs = cc
none_pass P class false e [] = refl
none_pass P class false e (f ∷ fs) = none_pass P class false e fs

pub no_own_keys : (P : Program) (b : ℕ) → ctor_of (method_in P b) ≡ false → own_keys P b ≡ []
no_own_keys P b e = none_pass P (class_of (method_in P b)) (ctor_of (method_in P b)) e (below (length P.fields))
