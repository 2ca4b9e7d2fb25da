-- When files are safe: in each run of their main, by the meaning of their trees, and for whoever calls their methods and constructors.
use Rattle.std.specs.Prelude.{ℕ, List, []}
use Rattle.jn_base.specs.declared.infer.Infer.{Infer}
use Rattle.jn_quals.specs.Qualifier.{Qualifier}
use Rattle.jn_points.specs.declared.program.Program.{Program}
use Rattle.jn_lowering.specs.Bodies.{Source}
use Rattle.jn_program_law.specs.FileSources.{sources as sources_of}
use Rattle.jn_transfer.specs.Rules.{Breaks}
use Rattle.jn_inference_law.specs.Solution.{IsLeastSignature}
use Rattle.jn_heap.specs.Runs.{NeverNull}
use Rattle.jn_progress_law.specs.Progress.{NeverStuck}
use Rattle.jn_meaning_law.specs.Safety.{NeverNullByTrees, NeverStuckByTrees}
use Rattle.jn_caller_law.specs.Safe.{SafeForCallers}
use Rattle.jn_front.specs.declared.source.SourceFile.{SourceFile}
use Rattle.jn_phases.specs.Phases.{TypedProgramOf}

-- no rule is broken under the least signature
abbrev pub BreaksNone : Program → Type 0
BreaksNone P = (signature : List Qualifier) × IsLeastSignature P signature × Breaks P signature []

-- the sources of the files' bodies, as their trees have them
abbrev pub trees_of : (infer : Infer) (files : List SourceFile) (names : List (List ℕ)) (P : Program) → TypedProgramOf infer files names P → List Source
trees_of infer files names P of_files = sources_of of_files.of_files.trees

-- under the least signature each call from outside over a whole heap is safe, and leaves a whole heap
abbrev pub CallersSafe : Program → Type 0
CallersSafe P = (signature : List Qualifier) × IsLeastSignature P signature × SafeForCallers P signature

-- no run of the files' own program has a null fault or gets stuck, nor does the meaning of its trees come to a null or to what has none; and each
-- call of its methods and constructors from outside is safe
pub record IsSafe (infer : Infer) (files : List SourceFile) : Type 0 where
  pub names : List (List ℕ)
  pub P : Program
  pub of_files : TypedProgramOf infer files names P
  pub never_null : NeverNull P
  pub never_stuck : NeverStuck P
  pub trees_never_null : NeverNullByTrees P (trees_of infer files names P of_files)
  pub trees_never_stuck : NeverStuckByTrees P (trees_of infer files names P of_files)
  pub callers : CallersSafe P
