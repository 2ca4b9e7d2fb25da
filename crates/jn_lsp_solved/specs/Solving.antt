-- Files that no phase before the rules refuses, with what is inferred of their program.
use Rattle.std.specs.Prelude.{ℕ, ◌≡◌, ◌≤◌, List, Option, Some, None, length, map}
use Rattle.jn_base.specs.declared.infer.Infer.{Infer}
use Rattle.jn_base.specs.declared.place.Row.{Row}
use Rattle.jn_chain.specs.Search.{Ground}
use Rattle.jn_contrib.specs.Entries.{AreOverriders}
use Rattle.jn_env.specs.Order.{Table}
use Rattle.jn_front.specs.Files.{files_of_reads}
use Rattle.jn_front.specs.declared.source.SourceFile.{SourceFile}
use Rattle.jn_front.specs.declared.source.SourceRead.{SourceRead}
use Rattle.jn_inference_law.specs.Solution.{IsLeastSignature}
use Rattle.jn_lsp_text.specs.declared.encoding.Encoding.{Encoding}
use Rattle.jn_note_words.specs.Owned.{AreOwners}
use Rattle.jn_notes.specs.Noted.{AreLeastTables}
use Rattle.jn_origins.specs.Standing.{AreSized}
use Rattle.jn_phases.specs.Phases.{IsPhase, TypedProgramOf}
use Rattle.jn_places.specs.PlacedView.{placed_file}
use Rattle.jn_points.specs.declared.program.Program.{Program}
use Rattle.jn_quals.specs.Qualifier.{Qualifier}
use Rattle.jn_tables_law.specs.Inferable.{IsInferable}
use Rattle.jn_trees.specs.declared.declaration.FileTree.{FileTree}
use Rattle.jn_trees.specs.declared.token.Token.{Token}
use Rattle.jn_lsp_solved.specs.declared.solved.Inferred.{Inferred}
use Rattle.jn_lsp_solved.specs.declared.solved.Parts.{Parts}

-- files where these members are inferred, and the unit of positions in them; the texts of their names, their program, its signature, and the tables of its bodies
pub record SolvedFiles : Type 0 where
  pub infer : Infer
  pub encoding : Encoding
  pub files : List SourceFile
  pub names : List (List ℕ)
  pub program : Program
  pub sig : List Qualifier
  pub tables : List Table

abbrev pub solved_by : Infer → Encoding → List SourceFile → List (List ℕ) → Program → List Qualifier → List Table → SolvedFiles
solved_by infer encoding files names P s tables = record { infer = infer; encoding = encoding; files = files; names = names; program = P; sig = s; tables = tables }

-- the program can be inferred, and the signature and the tables are the least ones
pub record AreSolved (v : SolvedFiles) : Type 0 where
  pub inferable : IsInferable v.program
  pub least : IsLeastSignature v.program v.sig
  pub solved : AreLeastTables v.program v.sig v.tables

-- the program is that of the files, whose trees these are
abbrev pub HaveTrees : SolvedFiles → List FileTree → Type 0
HaveTrees v trees = (typed : TypedProgramOf v.infer v.files v.names v.program) × (typed.of_files.trees ≡ map placed_file trees)

-- the tokens are those of the files
abbrev pub AreTokens : SolvedFiles → List (List Token) → Type 0
AreTokens v tokens = (typed : TypedProgramOf v.infer v.files v.names v.program) → tokens ≡ typed.of_files.tokens

-- the files were read so, whole, and are few
pub record AreReadFrom (files : List SourceFile) (reads : List SourceRead) : Type 0 where
  pub few : length reads ≤ 64
  pub whole : files_of_reads reads ≡ files

-- what is inferred of a program
pub record IsInferredOf (P : Program) (inferred : Inferred) : Type 0 where
  pub inferable : IsInferable P
  pub overriders : AreOverriders P inferred.overriders.items
  pub least : IsLeastSignature P inferred.sig
  pub solved : AreLeastTables P inferred.sig inferred.tables.items
  pub owners : AreOwners P inferred.owners.items

-- files that a phase refuses aren't solved
abbrev pub AreSolvedOr : Infer → Encoding → List SourceFile → Option SolvedFiles → Type 0
AreSolvedOr infer encoding files None = (rows : List Row) × IsPhase infer files rows
AreSolvedOr infer encoding files (Some v) = (v.infer ≡ infer) × (v.encoding ≡ encoding) × (v.files ≡ files)

-- ---- parts

abbrev pub solved_of : Parts → SolvedFiles
solved_of p = solved_by p.infer p.encoding p.files.now p.names.now p.program.now p.sig.now p.tables.now

-- what holds of the parts
pub record AreParts (p : Parts) : Type 0 where
  pub typed : HaveTrees (solved_of p) p.trees.now
  pub inferable : IsInferable p.program.now
  pub indexed : p.indexed.now ≡ p.program.now
  pub overriders : AreOverriders p.program.now p.overriders.now
  pub least : IsLeastSignature p.program.now p.sig.now
  pub solved : AreLeastTables p.program.now p.sig.now p.tables.now
  pub sized : AreSized p.program.now p.tables.now
  pub owners : AreOwners p.program.now p.owners.now

-- ---- origins

-- origins of the program's bits under its signature and the tables
pub record AreOriginsOf (v : SolvedFiles) (ground : Ground) : Type 0 where
  pub program : ground.program ≡ v.program
  pub sig : ground.sig ≡ v.sig
  pub tables : ground.tables ≡ v.tables
