-- Why files have no annotated texts.
use Rattle.std.specs.Prelude.{ℕ, Bool, List}
use Rattle.jn_base.specs.declared.refusal.Fail.{Fail}
use Rattle.jn_base.specs.declared.refusal.Fail.TheVariants.{Refused, OutOfMemory}
use Rattle.jn_quals.specs.Qualifier.{Qualifier}
use Rattle.jn_points.specs.declared.program.SlotInfo.{SlotInfo}
use Rattle.jn_points.specs.declared.program.Program.{Program}
use Rattle.jn_trees.specs.declared.token.Token.{Token}
use Rattle.jn_trees.specs.Trees.{SourceTree}
use Rattle.jn_annotate.specs.declared.annotating.AnnotateFault.{AnnotateFault}
use Rattle.jn_annotate.specs.declared.annotating.AnnotateFault.TheVariants.{NameTaken, SharedType, TooLarge}
use Rattle.jn_annotate.specs.Annotated.{IsNameTaken, IsSharedType, IsTooLarge, IsFirst, is_too_large}

module _ (said : List SlotInfo) (imports : Bool) (P : Program) (s : List Qualifier) (texts : List (List ℕ)) (tokens : List (List Token)) (trees : List SourceTree) where
  abbrev pub IsFaultOf : AnnotateFault → Type 0
  IsFaultOf (NameTaken slot) = IsNameTaken said imports P s trees slot.0
  IsFaultOf (SharedType slot) = IsSharedType said imports P s trees slot.0
  IsFaultOf (TooLarge file) = IsTooLarge said imports P s texts tokens trees file.0

  -- want of memory says nothing
  abbrev pub IsWhyRefused : Fail AnnotateFault → Type 0
  IsWhyRefused (Refused fault) = IsFaultOf fault
  IsWhyRefused OutOfMemory = Unit {0}

-- why one of the texts is too large
abbrev pub IsLargeOf : List (List ℕ) → Fail AnnotateFault → Type 0
IsLargeOf texts (Refused (TooLarge file)) = IsFirst (is_too_large texts) file.0
IsLargeOf texts (Refused (NameTaken slot)) = ⊥
IsLargeOf texts (Refused (SharedType slot)) = ⊥
IsLargeOf texts OutOfMemory = Unit {0}
