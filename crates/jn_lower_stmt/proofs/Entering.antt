-- The parameters in scope, the last one first in the code and last in the definitions.
use Rattle.std.proofs.Common.{◌≡◌, ◌≤◌, ◌<◌, ℕ, zero, suc, ◌+◌, List, [], ◌∷◌, length, drop, get_or, min, None, refl, sym, ap, ◌∙◌, arith}
use Rattle.std.proofs.lemmas.List.{drop_more}
use Rattle.std.proofs.Math.ListN.{drop_of_length-le}
use Rattle.jn_trees.specs.declared.declaration.Parameter.{Parameter}
use Rattle.jn_points.specs.declared.point.BaseType.{BaseType}
use Rattle.jn_places.specs.Placed.{PlacedParameter}
use Rattle.jn_places.specs.PlacedView.{placed_parameters}
use Rattle.jn_lowering.specs.Scopes.{Scope}
use Rattle.jn_lowering.specs.Locals.{has_final, parameters_from}
use Rattle.jn_lower_stmt.specs.declared.names.Declared.{Declared}
use Rattle.jn_lower_stmt.specs.Views.{declared_local}

no_bases : (r : ℕ) (ps : List PlacedParameter) → parameters_from r ps [] ≡ []
no_bases r [] = refl
no_bases r (p ∷ ps) = refl

-- after the last parameter, or the last type, there is none
pub past : (n : ℕ) (ts : List Parameter) (bs : List BaseType) (r : ℕ) → min (length ts) (length bs) ≤ n → parameters_from r (placed_parameters (drop n ts)) (drop n bs) ≡ []
past n [] bs r h = let short : length {A = Parameter} [] ≤ n = omega arith in ap (λ xs. parameters_from r (placed_parameters xs) (drop n bs)) (drop_of_length-le {A = Parameter} [] short)
past n (t ∷ ts) [] r h = let short : length {A = BaseType} [] ≤ n = omega arith in ap (λ xs. parameters_from r (placed_parameters (drop n (t ∷ ts))) xs) (drop_of_length-le {A = BaseType} [] short) ∙ no_bases r (placed_parameters (drop n (t ∷ ts)))
past zero (t ∷ ts) (b ∷ bs) r h = absurd (omega (h, arith))
past (suc n) (t ∷ ts) (b ∷ bs) r h = past n ts bs r (omega (h, arith))

-- one parameter more in front of the others
pub one_more : (first i : ℕ) (ts : List Parameter) (bs : List BaseType) (t : Parameter) (b d : BaseType) (v : Declared) (s : Scope) → i < length ts → i < length bs → t ≡ get_or ts i t → b ≡ get_or bs i d →
    declared_local v ≡ record { name = t.name.name.0; reg = first + i; base = b; bound = None; fixed = has_final t.modifiers.items; faults = [] } →
    s ≡ parameters_from (first + (i + 1)) (placed_parameters (drop (i + 1) ts)) (drop (i + 1) bs) → declared_local v ∷ s ≡ parameters_from (first + i) (placed_parameters (drop i ts)) (drop i bs)
one_more first i ts bs t b d v s lt lb is_t is_b seen rest =
    let next : first + (i + 1) ≡ first + i + 1 = omega arith in
    let trees : drop i ts ≡ t ∷ drop (i + 1) ts = drop_more ts i t lt ∙ ap (λ x. x ∷ drop (i + 1) ts) (sym is_t) in
    let bases : drop i bs ≡ b ∷ drop (i + 1) bs = drop_more bs i d lb ∙ ap (λ x. x ∷ drop (i + 1) bs) (sym is_b) in
    ap (λ l. l ∷ s) seen
    ∙ ap (λ (s : Scope). record { name = t.name.name.0; reg = first + i; base = b; bound = None; fixed = has_final t.modifiers.items; faults = [] } ∷ s) (rest ∙ ap (λ r. parameters_from r (placed_parameters (drop (i + 1) ts)) (drop (i + 1) bs)) next)
    ∙ sym (ap (λ xs. parameters_from (first + i) (placed_parameters xs) (drop i bs)) trees ∙ ap (λ xs. parameters_from (first + i) (placed_parameters (t ∷ drop (i + 1) ts)) xs) bases)
