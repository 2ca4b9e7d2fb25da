-- The fields that one hides stand among those of its name.
use Rattle.std.proofs.Common.{◌≡◌, ℕ, suc, Bool, true, false, not, ◌||◌, ◌&&◌, List, [], ◌∷◌, map, refl, ap, ◌∙◌, eqb}
use Rattle.std.specs.Prelude.{slice_get}
use Rattle.jn_points.specs.declared.program.Field.{Field}
use Rattle.jn_points.specs.declared.program.Program.{Program}
use Rattle.jn_points.specs.Members.{some_of, sub}
use Rattle.jn_member_tables.specs.Numbers.{list_at, places_of}
use Rattle.jn_declaration_rules.specs.Listed.{there}
use Rattle.jn_declaration_rules.specs.Rows.{some_at, is_hiding}
use Rattle.jn_declaration_rules.proofs.Listed.{some_listed, eqb_other}

pub some_at_any : {A : Type 0} (test : A → Bool) (i : ℕ) (xs : List A) → some_at (λ k y. test y) i xs ≡ some_of test xs
some_at_any test i [] = refl
some_at_any test i (x ∷ xs) = ap (λ b. test x || b) (some_at_any test (suc i) xs)

pub hiding_listed : (P : Program) (lists : List (List ℕ)) (x : Field) → ((n : ℕ) → list_at lists n ≡ places_of n 0 (map (λ (y : Field). y.name.0) P.fields)) → some_of (λ k. there (λ y. eqb x.name.0 y.name.0 && not (eqb x.owner.0 y.owner.0) && sub P x.owner.0 y.owner.0) (slice_get P.fields k)) (list_at lists x.name.0) ≡ is_hiding P x
hiding_listed P lists x are =
    ap (some_of (λ k. there (λ (y : Field). eqb x.name.0 y.name.0 && not (eqb x.owner.0 y.owner.0) && sub P x.owner.0 y.owner.0) (slice_get P.fields k))) (are x.name.0)
    ∙ (some_listed P.fields (λ (y : Field). y.name.0) x.name.0 (λ k (y : Field). eqb x.name.0 y.name.0 && not (eqb x.owner.0 y.owner.0) && sub P x.owner.0 y.owner.0) (λ k y e. no (eqb x.name.0 y.name.0) (not (eqb x.owner.0 y.owner.0)) (sub P x.owner.0 y.owner.0) (eqb_other y.name.0 x.name.0 e))
    ∙ some_at_any (λ (y : Field). eqb x.name.0 y.name.0 && not (eqb x.owner.0 y.owner.0) && sub P x.owner.0 y.owner.0) 0 P.fields)
  where
    no : (a b c : Bool) → a ≡ false → (a && b && c) ≡ false
    no true b c h = cc
    no false b c h = refl
