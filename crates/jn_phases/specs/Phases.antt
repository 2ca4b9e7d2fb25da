-- What files come to before their rules are looked at, by the members that are inferred: the rows of the first phase that has any, or a program whose types fit.
use Rattle.std.specs.Prelude.{ℕ, ◌≡◌, ◌⊎◌, ◌↔◌, List, [], ◌∷◌, Contains, Option, Some, None}
use Rattle.jn_base.specs.declared.infer.Infer.{Infer}
use Rattle.jn_base.specs.declared.place.Row.{Row}
use Rattle.jn_trees.specs.declared.token.Token.{Token}
use Rattle.jn_places.specs.Placed.{PlacedFile}
use Rattle.jn_heads.specs.Extract.{heads}
use Rattle.jn_classtable.specs.Rows.{t_rows}
use Rattle.jn_points.specs.declared.program.Program.{Program}
use Rattle.jn_points.specs.BaseRows.{IsBaseRow, NoBaseRows}
use Rattle.jn_points.specs.Regular.{Regular}
use Rattle.jn_program_law.specs.FileProgram.{inferring, j_rows}
use Rattle.jn_diag.specs.Order.{IsOrderOf}
use Rattle.jn_front.specs.declared.source.SourceFile.{SourceFile}
use Rattle.jn_front.specs.Phases.{AreParsed, FrontRows}

-- the rows T1 to T10 of files with these trees: what their classes and members declare (JLS 8, 9) doesn't fit together
abbrev pub table_rows : List PlacedFile → List Row
table_rows trees = t_rows (heads trees)

-- the rows J1 to J6 of files with these trees: a name, a type or a form has no meaning in the subset, or a body passes a limit (JLS 8, 6 to 15)
abbrev pub lowering_rows : List PlacedFile → List Row
lowering_rows trees = j_rows trees

-- files with trees, whose classes and members have no row
pub record AreDeclared (files : List SourceFile) (names : List (List ℕ)) (tokens : List (List Token)) (trees : List PlacedFile) : Type 0 where
  pub parsed : AreParsed files names tokens trees
  pub rowless : table_rows trees ≡ []

-- all that they say has a meaning, so that each body has points
pub record AreLowered (files : List SourceFile) (names : List (List ℕ)) (tokens : List (List Token)) (trees : List PlacedFile) : Type 0 where
  pub declared : AreDeclared files names tokens trees
  pub rowless : lowering_rows trees ≡ []

-- the program of files that have no row so far, whose slots go by the members that are inferred, and the texts of its names and strings
pub record ProgramOf (infer : Infer) (files : List SourceFile) (names : List (List ℕ)) (P : Program) : Type 0 where
  pub tokens : List (List Token)
  pub trees : List PlacedFile
  pub lowered : AreLowered files names tokens trees
  pub is : P ≡ inferring infer trees
  pub regular : Regular P

-- each value has a type that fits where it is used, each register that is read is written before, each method returns what it declares
pub record TypedProgramOf (infer : Infer) (files : List SourceFile) (names : List (List ℕ)) (P : Program) : Type 0 where
  pub of_files : ProgramOf infer files names P
  pub typed : NoBaseRows P

-- the files have no trees: they pass a limit, or some text has no tokens or no tree
abbrev pub NoneParsed : List SourceFile → Type 0
NoneParsed files = (names : List (List ℕ)) (tokens : List (List Token)) (trees : List PlacedFile) → AreParsed files names tokens trees → ⊥

-- the names and the trees of files; files of which no name is known have no trees
abbrev pub AreTreesOrNone : List SourceFile → List (List ℕ) → List PlacedFile → Type 0
AreTreesOrNone files [] trees = NoneParsed files
AreTreesOrNone files (name ∷ names) trees = (tokens : List (List Token)) × AreParsed files (name ∷ names) tokens trees

-- the rows of classes and members, of files that have trees
pub record TableRows (files : List SourceFile) (rows : List Row) : Type 0 where
  pub names : List (List ℕ)
  pub tokens : List (List Token)
  pub trees : List PlacedFile
  pub parsed : AreParsed files names tokens trees
  pub are : rows ≡ table_rows trees
  pub some : rows ≡ [] → ⊥

-- the rows of bodies and of what stands around them, of files whose classes and members have none
pub record LoweringRows (files : List SourceFile) (rows : List Row) : Type 0 where
  pub names : List (List ℕ)
  pub tokens : List (List Token)
  pub trees : List PlacedFile
  pub declared : AreDeclared files names tokens trees
  pub are : rows ≡ lowering_rows trees
  pub some : rows ≡ [] → ⊥

-- the rows J7 to J10 of types, of files that have a program; in no order
pub record TypeRows (infer : Infer) (files : List SourceFile) (rows : List Row) : Type 0 where
  pub names : List (List ℕ)
  pub P : Program
  pub of_files : ProgramOf infer files names P
  pub are : (row : Row) → Contains rows row ↔ IsBaseRow P row
  pub some : rows ≡ [] → ⊥

-- the rows of the first phase that has any: limits, tokens and syntax, then classes and members, then bodies, then types
abbrev pub ProgramRows : Infer → List SourceFile → List Row → Type 0
ProgramRows infer files rows = LoweringRows files rows ⊎ TypeRows infer files rows

-- the same of all phases of files that have trees, from classes and members on
abbrev pub TreeRows : Infer → List SourceFile → List Row → Type 0
TreeRows infer files rows = TableRows files rows ⊎ ProgramRows infer files rows

-- the same of all phases, from limits, tokens and syntax on
abbrev pub PhaseRows : Infer → List SourceFile → List Row → Type 0
PhaseRows infer files rows = FrontRows files rows ⊎ TreeRows infer files rows

-- they are in order
pub record IsPhase (infer : Infer) (files : List SourceFile) (rows : List Row) : Type 0 where
  pub broken : List Row
  pub phase : PhaseRows infer files broken
  pub order : IsOrderOf broken rows

-- the rows of the first phase that has any, or no row, and a program with types that is these trees'
abbrev pub IsTypedOr : Infer → List SourceFile → List (List ℕ) → List PlacedFile → List Row → Option Program → Type 0
IsTypedOr infer files names trees rows None = IsPhase infer files rows
IsTypedOr infer files names trees rows (Some P) = (rows ≡ []) × ((typed : TypedProgramOf infer files names P) × (typed.of_files.trees ≡ trees))
