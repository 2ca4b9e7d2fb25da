-- Methods of other names don't clash, and a method has a row where some other one clashes with it.
use Rattle.std.proofs.Common.{Bool, true, false, not, ◌&&◌, ◌||◌, ◌≡◌, ℕ, suc, eqb, List, [], ◌∷◌, length, Some, refl, ap, ◌∙◌}
use Rattle.jn_points.specs.declared.program.Method.{Method}
use Rattle.jn_points.specs.declared.program.Program.{Program}
use Rattle.jn_points.specs.Lookup.{method_at}
use Rattle.jn_points.specs.Members.{is_named, is_pair, some_of, sub}
use Rattle.jn_declaration_rules.specs.Rows.{agrees, hides_well, is_bad_override, over_static, some_at}
use Rattle.jn_declaration_rules.proofs.Named.{pairs_are_named}
use Rattle.jn_phase_notes.specs.Others.{clashes}

pub other_names : (P : Program) (m k : ℕ) (x y : Method) → method_at P m ≡ Some x → method_at P k ≡ Some y → is_named y x.name.0 (length x.params) ≡ false → clashes P m x k y ≡ false
other_names P m k x y atx aty n =
    ap (λ b. (b && not (agrees P x y)) || (over_static P x y && not (hides_well P x y))) (pairs_are_named P m k x y atx aty n)
    ∙ (ap (λ b. (not x.ctor && b && y.is_static && not y.is_private && not (eqb x.owner.0 y.owner.0) && sub P x.owner.0 y.owner.0) && not (hides_well P x y)) n
    ∙ none (not x.ctor) y.is_static (not y.is_private) (not (eqb x.owner.0 y.owner.0)) (sub P x.owner.0 y.owner.0) (not (hides_well P x y)))
  where
    none : (a s p o u h : Bool) → ((a && false && s && p && o && u) && h) ≡ false
    none true s p o u h = refl
    none false s p o u h = refl

apart : (a b c d : Bool) → ((a || b) || (c || d)) ≡ ((a || c) || (b || d))
apart true b c d = refl
apart false true true d = refl
apart false true false d = refl
apart false false true d = refl
apart false false false d = refl

some_either : (a : ℕ → Method → Bool) (b : Method → Bool) (i : ℕ) (ms : List Method) → (some_at a i ms || some_of b ms) ≡ some_at (λ k y. a k y || b y) i ms
some_either a b i [] = refl
some_either a b i (y ∷ ms) = apart (a i y) (some_at a (suc i) ms) (b y) (some_of b ms) ∙ ap (λ t. (a i y || b y) || t) (some_either a b (suc i) ms)

pub some_clash : (P : Program) (m : ℕ) (x : Method) → is_bad_override P m x ≡ some_at (clashes P m x) 0 P.methods
some_clash P m x = some_either (λ k y. is_pair P m k && not (agrees P x y)) (λ y. over_static P x y && not (hides_well P x y)) 0 P.methods
