-- With what a body begins, and what a method's body means in a run.
use Rattle.std.specs.Prelude.{ℕ, ◌≡◌, List, [], Option, length}
use Rattle.jn_base.specs.declared.infer.Infer.{Infer}
use Rattle.jn_heap.specs.Values.{Limits, Value, usual_limits}
use Rattle.jn_lowering.specs.Bodies.{Source, at_entry}
use Rattle.jn_lower_stmt.specs.Sources.{sources_of}
use Rattle.jn_meaning.specs.Bodies as spec
use Rattle.jn_meaning.specs.Expressions.{Caller}
use Rattle.jn_meaning.specs.Statements.{Standing}
use Rattle.jn_meaning.specs.Worlds.{Result, World}
use Rattle.jn_places.specs.Placed.{PlacedFile, PlacedParameter}
use Rattle.jn_points.specs.BaseTyping.{given_bases}
use Rattle.jn_points.specs.Lookup.{body_of, method_at}
use Rattle.jn_points.specs.declared.program.Program.{Program}
use Rattle.jn_program_law.specs.FileProgram.{inferring, rows_of_files}
use Rattle.jn_tree_run.specs.declared.calling.Run.{Run}

-- where the first statement of a method's body stands
abbrev pub begins_in : Program → ℕ → List PlacedParameter → Standing
begins_in P m parameters = record { scope = (at_entry P m parameters).scope; count = length (given_bases P m) }

-- the source of a method's body, where it has one
abbrev pub source_in : Run → ℕ → Option Source
source_in run m = spec.source_of run.program.now (sources_of run.sources.now) run.names.now usual_limits.longest (body_of (method_at run.program.now m))

-- a method's body in a frame, with these calls
abbrev pub framed_in : Run → Caller → ℕ → ℕ → List Value → World → Result (Option Value)
framed_in run call turns m vs w = spec.in_frame run.program.now (sources_of run.sources.now) run.names.now usual_limits.longest call turns (source_in run m) m vs w

-- a method's body in a further frame
abbrev pub entered_in : Run → ℕ → ℕ → Caller
entered_in run turns frames m vs w = spec.entered run.program.now (sources_of run.sources.now) run.names.now usual_limits.longest run.deepest turns frames m vs w

-- so many frames at most, and arrays and texts of the interpreter's longest length
abbrev pub within_frames : ℕ → Limits
within_frames deepest = record { deepest = deepest; longest = usual_limits.longest }

-- what a main means, with these words and so many units of fuel
abbrev pub told_in : Run → ℕ → List (List ℕ) → ℕ → spec.Told
told_in run main words n = spec.tree run.program.now (sources_of run.sources.now) run.names.now (within_frames run.deepest) main words n

-- the program is that of the files, by a choice of members that are inferred, and they have no row T1 to T10 or J1 to J6
pub record HasTrees (files : List PlacedFile) (P : Program) : Type 0 where
  pub infer : Infer
  pub program : P ≡ inferring infer files
  pub rows : rows_of_files files ≡ []
