-- Overriding pairs by name, and lists of types of other lengths.
use Rattle.std.proofs.Common.{Bool, true, false, not, ◌&&◌, ◌||◌, ◌≡◌, ℕ, suc, List, [], ◌∷◌, length, Option, Some, refl, ap, ◌∙◌}
use Rattle.jn_points.specs.declared.point.BaseType.{BaseType}
use Rattle.jn_points.specs.declared.program.Method.{Method}
use Rattle.jn_points.specs.declared.program.Program.{Program}
use Rattle.jn_points.specs.Lookup.{method_at}
use Rattle.jn_points.specs.Members.{is_named, class_pairs, interface_pairs, pairs_of, is_pair}
use Rattle.jn_declaration_rules.specs.Rows.{same_base, same_bases}

-- an overriding pair has one name and arity
pub pairs_are_named : (P : Program) (m k : ℕ) (x y : Method) → method_at P m ≡ Some x → method_at P k ≡ Some y → is_named y x.name.0 (length x.params) ≡ false → is_pair P m k ≡ false
pairs_are_named P m k x y atx aty n =
    ap (λ o. pairs_of P m k o (method_at P k)) atx
    ∙ (ap (λ o. pairs_of P m k (Some x) o) aty
    ∙ (ap (λ b. not x.ctor && b && (class_pairs P m k x y || interface_pairs P x y)) n ∙ none (not x.ctor) (class_pairs P m k x y || interface_pairs P x y)))
  where
    none : (a b : Bool) → (a && false && b) ≡ false
    none true b = refl
    none false b = refl

pub other_lengths : (ss ts : List BaseType) → (length ss ≡ length ts → ⊥) → false ≡ same_bases ss ts
other_lengths [] [] d = absurd (d refl)
other_lengths [] (t ∷ ts) d = refl
other_lengths (s ∷ ss) [] d = refl
other_lengths (s ∷ ss) (t ∷ ts) d = by (same_base s t) (other_lengths ss ts (λ e. d (ap suc e)))
  where
    by : (b : Bool) → false ≡ same_bases ss ts → false ≡ (b && same_bases ss ts)
    by true e = e
    by false e = refl
