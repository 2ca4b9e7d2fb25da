-- Where no method has so many parameters, none is found for so many.
use Rattle.std.proofs.Common.{◌≡◌, ◌<◌, ◌≤◌, ◌^◌, ℕ, suc, ◌+◌, Bool, true, false, List, [], ◌∷◌, length, Option, Some, None, refl, ap, ◌∙◌, arith}
use Rattle.std.specs.Prelude.{◌&&◌, not, cond, eqb, slice_get}
use Rattle.std.proofs.lemmas.Bool.{ne_eqb}
use Rattle.jn_points.specs.declared.program.Method.{Method}
use Rattle.jn_points.specs.declared.program.Program.{Program}
use Rattle.jn_points.specs.Members.{declared_method, first_at, first_or, first_some, is_named, method_of, walk}
use Rattle.jn_index.specs.Sizes.{Few}

and_false : (a b : Bool) → b ≡ false → (a && b) ≡ false
and_false true b e = e
and_false false b e = refl

none_at : (ms : List Method) (test : Method → Bool) (i : ℕ) → ((k : ℕ) (x : Method) → slice_get ms k ≡ Some x → test x ≡ false) → first_at test i ms ≡ None
none_at [] test i none = refl
none_at (m ∷ ms) test i none = ap (λ b. cond b (Some i) (first_at test (i + 1) ms)) (none 0 m refl) ∙ none_at ms test (i + 1) (λ k x there. none (suc k) x there)

none_along : (found : ℕ → Option ℕ) → ((d : ℕ) → found d ≡ None) → (cs : List ℕ) → first_some found cs ≡ None
none_along found none [] = refl
none_along found none (c ∷ cs) = ap (λ o. first_or o (first_some found cs)) (none c) ∙ none_along found none cs

unnamed : (m : Method) (name arity : ℕ) (a b : Bool) → (length m.params ≡ arity → ⊥) → (is_named m name arity && a && b) ≡ false
unnamed m name arity a b other = ap (λ x. (x && a) && b) (and_false (not m.ctor && eqb m.name.0 name) (eqb (length m.params) arity) (ne_eqb (length m.params) arity other))

pub too_many : (P : Program) (class name arity : ℕ) → Few P → 2 ^ 32 ≤ arity → method_of P class name arity ≡ None
too_many P class name arity few many = none_along (declared_method P class name arity) (λ d. none_at P.methods _ 0 (λ k x there. unnamed x name arity _ _ (λ same. (let s : length x.params ≡ arity = same in let f : length x.params < 2 ^ 32 = few.parameters k x there in absurd (omega (s, f, many, arith)))))) (walk P class)
