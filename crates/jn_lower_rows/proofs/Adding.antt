-- Rows that are added in turn.
use Rattle.std.proofs.Common.{◌≡◌, cond, ◌&&◌, eqb, List, [], ◌∷◌, ◌++◌, length, refl, ap, ◌∙◌, append_assoc, append-nil, arith}
use Rattle.std.proofs.lemmas.List.{length-append}
use Rattle.std.proofs.lemmas.Bool.{eq-eqb, ne_eqb}
use Rattle.jn_base.specs.declared.place.Row.{Row}
use Rattle.jn_lowering.specs.Annotations.{unless}
use Rattle.jn_lower_rows.specs.Before.{is_clean}

pub two : (old a b r1 r2 : List Row) → r1 ≡ old ++ a → r2 ≡ r1 ++ b → r2 ≡ old ++ (a ++ b)
two old a b r1 r2 e f = f ∙ ap (λ r. r ++ b) e ∙ append_assoc old a b

pub three : (old a b d r1 r2 r3 : List Row) → r1 ≡ old ++ a → r2 ≡ r1 ++ b → r3 ≡ r2 ++ d → r3 ≡ old ++ (a ++ (b ++ d))
three old a b d r1 r2 r3 e f g = two old a (b ++ d) r1 r3 e (two r1 b d r2 r3 f g)

-- the number of rows tells whether some were added
pub counted : (old more new : List Row) → new ≡ old ++ more → eqb (length new) (length old) ≡ is_clean more
counted old [] new e = eq-eqb (length new) (length old) (ap length (e ∙ append-nil old))
counted old (r ∷ rs) new e = ne_eqb (length new) (length old) (λ h. omega (h, ap length e, length-append old (r ∷ rs), arith))

-- what depends on rows
pub unless_clean : (xs ys : List Row) → unless xs ys ≡ cond (is_clean xs) ys []
unless_clean [] ys = refl
unless_clean (x ∷ xs) ys = refl

pub unless_both : (xs zs ys : List Row) → unless (xs ++ zs) ys ≡ cond (is_clean xs && is_clean zs) ys []
unless_both [] zs ys = unless_clean zs ys
unless_both (x ∷ xs) zs ys = refl
