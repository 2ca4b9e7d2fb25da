-- Where only methods of one name pass, those of the name are enough.
use Rattle.std.proofs.Common.{◌≡◌, ◌+◌, ℕ, suc, Bool, true, false, not, ◌||◌, ◌&&◌, ◌⊎◌, inl, inr, List, [], ◌∷◌, length, Some, refl, sym, ap, ◌∙◌, subst, eqb, arith}
use Rattle.std.specs.Prelude.{slice_get}
use Rattle.jn_points.specs.declared.program.Method.{Method}
use Rattle.jn_points.specs.declared.program.Program.{Program}
use Rattle.jn_points.specs.Lookup.{method_at}
use Rattle.jn_points.specs.Members.{some_of, is_pair, sub}
use Rattle.jn_member_tables.specs.Numbers.{list_at, places_of, passes}
use Rattle.jn_index.specs.Index.{names, Lists, IsIndex}
use Rattle.jn_index.proofs.Named.{other_name}
use Rattle.jn_declaration_rules.specs.Rows.{some_at, agrees, overrides_badly, over_static, hides_well, hides_badly}
use Rattle.jn_declaration_rules.proofs.Tests.{true_or_not}

some_places : (P : Program) (key : ℕ) (t : ℕ → Method → Bool) (i : ℕ) (ms : List Method) → ((k : ℕ) → slice_get P.methods (i + k) ≡ slice_get ms k) → ((k : ℕ) (y : Method) → method_at P k ≡ Some y → eqb y.name.0 key ≡ false → t k y ≡ false) → some_of (λ k. passes (t k) (method_at P k)) (places_of key i (names ms)) ≡ some_at t i ms
some_places P key t i [] at none = refl
some_places P key t i (m ∷ ms) at none = by (true_or_not (eqb m.name.0 key)) (subst (λ n. some_of (λ k. passes (t k) (method_at P k)) (places_of key n (names ms)) ≡ some_at t (suc i) ms) (sym up) (some_places P key t (suc i) ms (λ k. (let e : suc i + k ≡ i + suc k = omega arith in ap (slice_get P.methods) e ∙ at (suc k))) none))
  where
    up : i + 1 ≡ suc i
    up = omega arith

    there : method_at P i ≡ Some m
    there = let e : i ≡ i + 0 = omega arith in ap (slice_get P.methods) e ∙ at 0

    by : (eqb m.name.0 key ≡ true) ⊎ (eqb m.name.0 key ≡ false) → some_of (λ k. passes (t k) (method_at P k)) (places_of key (i + 1) (names ms)) ≡ some_at t (suc i) ms → some_of (λ k. passes (t k) (method_at P k)) (places_of key i (names (m ∷ ms))) ≡ some_at t i (m ∷ ms)
    by (inl e) rest = rw e (ap (λ o. passes (t i) o || some_of (λ k. passes (t k) (method_at P k)) (places_of key (i + 1) (names ms))) there ∙ ap (λ b. t i m || b) rest)
    by (inr e) rest = rw e (rest ∙ sym (ap (λ b. b || some_at t (suc i) ms) (none i m there e)))

some_named : (P : Program) (x : Lists) (key : ℕ) (t : ℕ → Method → Bool) → IsIndex P x → ((k : ℕ) (y : Method) → method_at P k ≡ Some y → eqb y.name.0 key ≡ false → t k y ≡ false) → some_of (λ k. passes (t k) (method_at P k)) (list_at x.named key) ≡ some_at t 0 P.methods
some_named P x key t is none = ap (some_of (λ k. passes (t k) (method_at P k))) (is.named_is key) ∙ some_places P key t 0 P.methods (λ k. (let e : 0 + k ≡ k = omega arith in ap (slice_get P.methods) e)) none

pub some_at_of : (test : Method → Bool) (i : ℕ) (ms : List Method) → some_at (λ k y. test y) i ms ≡ some_of test ms
some_at_of test i [] = refl
some_at_of test i (m ∷ ms) = ap (λ b. test m || b) (some_at_of test (suc i) ms)

pub clashes_named : (P : Program) (x : Lists) (m : ℕ) (over : Method) → IsIndex P x → method_at P m ≡ Some over → some_of (λ k. passes (λ y. is_pair P m k && not (agrees P over y)) (method_at P k)) (list_at x.named over.name.0) ≡ overrides_badly P m over
clashes_named P x m over is there = some_named P x over.name.0 (λ k y. is_pair P m k && not (agrees P over y)) is (λ k y at e. ap (λ b. b && not (agrees P over y)) (other_name P m k over y there at e))

other_static : (P : Program) (over y : Method) → eqb y.name.0 over.name.0 ≡ false → (over_static P over y && not (hides_well P over y)) ≡ false
other_static P over y e = no (not over.ctor) (not y.ctor) (eqb y.name.0 over.name.0) (eqb (length y.params) (length over.params)) y.is_static (not y.is_private) (not (eqb over.owner.0 y.owner.0)) (sub P over.owner.0 y.owner.0) (not (hides_well P over y)) e
  where
    no : (a b n l s p o u h : Bool) → n ≡ false → ((a && (b && n && l) && s && p && o && u) && h) ≡ false
    no true true true l s p o u h e = cc
    no true true false l s p o u h e = refl
    no true false n l s p o u h e = refl
    no false b n l s p o u h e = refl

pub hides_named : (P : Program) (x : Lists) (over : Method) → IsIndex P x → some_of (λ k. passes (λ y. over_static P over y && not (hides_well P over y)) (method_at P k)) (list_at x.named over.name.0) ≡ hides_badly P over
hides_named P x over is = some_named P x over.name.0 (λ k y. over_static P over y && not (hides_well P over y)) is (λ k y at e. other_static P over y e) ∙ some_at_of (λ y. over_static P over y && not (hides_well P over y)) 0 P.methods
