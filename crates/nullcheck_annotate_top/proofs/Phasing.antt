-- What files come to, by what they came to before their rules.
use Rattle.std.proofs.Common.{◌≡◌, ℕ, Bool, List, [], Some, Result, Ok, Err, refl, sym, subst}
use Rattle.std.specs.Prelude.{IfOk}
use Rattle.jn_base.specs.declared.infer.Infer.{Infer}
use Rattle.jn_base.specs.declared.refusal.OutOfMemory.{OutOfMemory}
use Rattle.jn_base.specs.declared.place.Row.{Row}
use Rattle.jn_points.specs.declared.program.Program.{Program}
use Rattle.jn_command.proofs.Standing.{all_stand}
use Rattle.jn_places.specs.Placed.{PlacedFile}
use Rattle.jn_front.specs.declared.source.SourceFile.{SourceFile}
use Rattle.jn_front.specs.declared.source.SourceRead.{SourceRead}
use Rattle.jn_front.specs.Files.{AreReads, files_of_reads}
use Rattle.jn_phases.specs.Phases.{IsTypedOr, TypedProgramOf}
use Rattle.nullcheck_annotate_top.specs.declared.study.Study.{Study}
use Rattle.nullcheck_annotate_top.specs.declared.study.Study.TheVariants.{Refused, Unannotated, Annotated}
use Rattle.nullcheck_annotate_top.specs.Study.{AreWhole, IsOf, IsStudy}

abbrev pub Made : Type 0
Made = Result Study OutOfMemory

module _ (infer : Infer) (terse imports : Bool) (reads : List SourceRead) (names : List (List ℕ)) (trees : List PlacedFile) (rows : List Row) (P : Program) (some : (files : List SourceFile) × AreReads reads files) (typed : (files : List SourceFile) → AreReads reads files → IsTypedOr infer files names trees rows (Some P)) (whole : AreWhole reads) where
  -- what was read has the program and the trees
  pub typed_here : (of : TypedProgramOf infer (files_of_reads reads) names P) × (of.of_files.trees ≡ trees)
  typed_here = subst (λ fs. (of : TypedProgramOf infer fs names P) × (of.of_files.trees ≡ trees)) (sym (whole some.0 some.1)) (typed some.0 some.1).1

  -- what holds of what was read holds of the files
  pub study_all : (made : Made) → IfOk made (λ study. IsStudy infer terse imports (files_of_reads reads) study) → IfOk made (λ study. (files : List SourceFile) → AreReads reads files → IsStudy infer terse imports files study)
  study_all (Ok study) is = λ files are. subst (λ fs. IsStudy infer terse imports fs study) (whole files are) is
  study_all (Err e) is = tt

  -- no limit is passed, so rows stand anywhere
  pub of_made : (made : Made) → IfOk made (λ study. IsOf reads study)
  of_made (Ok (Refused broken)) = all_stand reads [] broken (λ files are. sym (typed files are).1.0.of_files.lowered.declared.parsed.within) refl some
  of_made (Ok (Unannotated fault span)) = whole
  of_made (Ok (Annotated new left)) = whole
  of_made (Err e) = tt
