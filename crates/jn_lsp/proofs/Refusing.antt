-- The rows of a report that ends before the rules are those that the phases give anew.
use Rattle.std.proofs.Common.{◌≡◌, ℕ, List, Option, Some, None, subst}
use Rattle.jn_base.specs.declared.infer.Infer.{Infer}
use Rattle.jn_base.specs.declared.place.Row.{Row}
use Rattle.jn_command.specs.Stands.{StandIn}
use Rattle.jn_front.specs.declared.source.SourceFile.{SourceFile}
use Rattle.jn_front.specs.declared.source.SourceRead.{SourceRead}
use Rattle.jn_phases.specs.Phases.{IsPhase, IsTypedOr, TypedProgramOf}
use Rattle.jn_places.specs.Placed.{PlacedFile}
use Rattle.jn_points.specs.declared.program.Program.{Program}

module _ (infer : Infer) (files : List SourceFile) (reads : List SourceRead) (rows : List Row) (is : IsPhase infer files rows) where
  pub stand_anew : ((rows others : List Row) → IsPhase infer files rows → IsPhase infer files others → rows ≡ others) → ((names : List (List ℕ)) (P : Program) (rows : List Row) → TypedProgramOf infer files names P → IsPhase infer files rows → ⊥) → (names : List (List ℕ)) (trees : List PlacedFile) (anew : List Row) (base : Option Program) → IsTypedOr infer files names trees anew base → StandIn reads anew → StandIn reads rows
  stand_anew one apart names trees anew None typed stand = subst (StandIn reads) (one anew rows typed is) stand
  stand_anew one apart names trees anew (Some P) typed stand = absurd (apart names P rows typed.1.0 is)
