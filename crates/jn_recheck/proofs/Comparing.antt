-- What is told of the kept program before bodies are compared.
use Rattle.std.proofs.Common.{◌≡◌, ℕ, Bool, true, false, List, [], get_or, Option, Some, None, sym, ap, ◌∙◌, subst}
use Rattle.std.specs.Prelude.{◌↔◌}
use Rattle.jn_quals.specs.Qualifier.{Qualifier}
use Rattle.jn_points.specs.declared.program.Program.{Program}
use Rattle.jn_points.specs.Lookup.{body_at}
use Rattle.jn_kept_points.specs.declared.typing.Unchanged.{Unchanged}
use Rattle.jn_kept_points.proofs.Knowing.{nothing_told}
use Rattle.jn_recheck_law.specs.Alike.{SameDeclarations}
use Rattle.jn_recheck_law.specs.Reusable.{Solved}
use Rattle.jn_recheck.specs.KeptRows.{TellsEqual, TellsKnown, TellsNamed, TellsSame}
use Rattle.jn_recheck.specs.Standing.{StandsIn}

-- where nothing is told, nothing has to stand
pub nothing_stands : (kept : Option Solved) (base : Option Program) (unchanged : Unchanged) → unchanged.alike ≡ false → unchanged.bodies.items ≡ [] → StandsIn kept base unchanged
nothing_stands None base unchanged other none = tt
nothing_stands (Some old) base unchanged other none = nothing_told old.program base unchanged other none

-- the bodies that are told
pub known_stands : (kept : Option Solved) (P : Program) (unchanged : Unchanged) (known : List Bool) → known ≡ unchanged.bodies.items → StandsIn kept (Some P) unchanged → TellsKnown kept P known
known_stands None P unchanged known e stands = tt
known_stands (Some old) P unchanged known e stands = λ b told. stands.1 b (ap (λ (flags : List Bool). get_or flags b false) (sym e) ∙ told)

-- what is told of a program that is kept
module _ (old : Option Solved) (kept new : Solved) (is : old ≡ Some kept) where
  pub same_told : (names : List (List ℕ)) (P : Program) (same : Bool) → names ≡ kept.names → P ≡ kept.program → TellsSame old new.names new.program same → (same ≡ true) ↔ SameDeclarations names new.names P new.program
  same_told names P same n p h =
      subst (λ (ns : List (List ℕ)). (same ≡ true) ↔ SameDeclarations ns new.names P new.program) (sym n)
      (subst (λ (R : Program). (same ≡ true) ↔ SameDeclarations kept.names new.names R new.program) (sym p)
      (subst (λ (o : Option Solved). TellsSame o new.names new.program same) is h))

  pub equal_told : (s : List Qualifier) (equal : Bool) → s ≡ kept.signature → TellsEqual old new.signature equal → equal ≡ true → s ≡ new.signature
  equal_told s equal n h e = n ∙ subst (λ (o : Option Solved). TellsEqual o new.signature equal) is h e

  pub known_told : (names : List (List ℕ)) (P : Program) (named : Bool) (known : List Bool) (b : ℕ) → names ≡ kept.names → P ≡ kept.program → TellsNamed old new.names named → TellsKnown old new.program known → named ≡ true → get_or known b false ≡ true → (names ≡ new.names) × (body_at P b ≡ body_at new.program b)
  known_told names P named known b n p h k e told = (
    n ∙ subst (λ (o : Option Solved). TellsNamed o new.names named) is h e,
    ap (λ (R : Program). body_at R b) p ∙ subst (λ (o : Option Solved). TellsKnown o new.program known) is k b told,
  )
