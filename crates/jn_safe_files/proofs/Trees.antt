-- A program of files that breaks no rule is accepted; it is that of the files' trees, which have no row.
use Rattle.std.proofs.Common.{◌≡◌, ℕ, cond, List, [], ◌∷◌, sym, subst}
use Rattle.jn_base.specs.declared.infer.Infer.{Infer}
use Rattle.jn_base.specs.declared.place.Row.{Row}
use Rattle.jn_quals.specs.Qualifier.{Qualifier}
use Rattle.jn_points.specs.declared.program.Program.{Program}
use Rattle.jn_points.specs.BaseRows.{NoBaseRows}
use Rattle.jn_points.specs.Regular.{Regular}
use Rattle.jn_places.specs.Placed.{PlacedFile}
use Rattle.jn_heads.specs.Extract.{heads}
use Rattle.jn_declaration_rules.specs.Rows.{no_rows}
use Rattle.jn_classtable.specs.Rows.{t_rows}
use Rattle.jn_program_law.specs.FileProgram.{inferring, j_rows, rows_of_files}
use Rattle.jn_program_law.specs.FileSources.{sources as sources_of}
use Rattle.jn_soundness.specs.Accepting.{IsAccepted}
use Rattle.jn_front.specs.declared.source.SourceFile.{SourceFile}
use Rattle.jn_meaning_law.specs.Safety.{NeverNullByTrees, NeverStuckByTrees}
use Rattle.jn_phases.specs.Phases.{TypedProgramOf}
use Rattle.jn_safe_files.specs.Safe.{BreaksNone, trees_of}

no_rows_in : (ts js : List Row) → ts ≡ [] → js ≡ [] → cond (no_rows ts) js ts ≡ []
no_rows_in [] js t j = j
no_rows_in (t ∷ ts) js e j = cc

-- what is proved of trees
abbrev pub TreesSafe : Type 0
TreesSafe = (infer : Infer) (files : List PlacedFile) (signature : List Qualifier) → rows_of_files files ≡ [] → IsAccepted (inferring infer files) signature → NeverNullByTrees (inferring infer files) (sources_of files)

abbrev pub TreesMeant : Type 0
TreesMeant = (infer : Infer) (files : List PlacedFile) → rows_of_files files ≡ [] → Regular (inferring infer files) → NoBaseRows (inferring infer files) → NeverStuckByTrees (inferring infer files) (sources_of files)

module _ (infer : Infer) (files : List SourceFile) (names : List (List ℕ)) (P : Program) (typed : TypedProgramOf infer files names P) where
  abbrev trees : List PlacedFile
  trees = typed.of_files.trees

  rowless : rows_of_files trees ≡ []
  rowless = no_rows_in (t_rows (heads trees)) (j_rows trees) typed.of_files.lowered.declared.rowless typed.of_files.lowered.rowless

  -- it is accepted under its least signature
  pub accepted : (none : BreaksNone P) → IsAccepted P none.0
  accepted none = record {
    regular = typed.of_files.regular;
    typed = typed.typed;
    closed = none.1.closed;
    starts = none.1.starts;
    unbroken = none.2;
  }

  pub safe : TreesSafe → BreaksNone P → NeverNullByTrees P (trees_of infer files names P typed)
  safe law none = subst (λ Q. NeverNullByTrees Q (sources_of trees)) (sym typed.of_files.is) (law infer trees none.0 rowless (subst (λ Q. IsAccepted Q none.0) typed.of_files.is (accepted none)))

  pub meaningful : TreesMeant → NeverStuckByTrees P (trees_of infer files names P typed)
  meaningful law = subst (λ Q. NeverStuckByTrees Q (sources_of trees)) (sym typed.of_files.is) (law infer trees rowless (subst Regular typed.of_files.is typed.of_files.regular) (subst NoBaseRows typed.of_files.is typed.typed))
