-- What is found of files that were read.
use Rattle.std.proofs.Common.{ℕ, List, [], Some, Result, Ok, Err, refl, sym, subst}
use Rattle.std.specs.Prelude.{IfOk}
use Rattle.jn_base.specs.declared.infer.Infer.{Infer}
use Rattle.jn_base.specs.declared.refusal.OutOfMemory.{OutOfMemory}
use Rattle.jn_base.specs.declared.place.Row.{Row}
use Rattle.jn_places.specs.Placed.{PlacedFile}
use Rattle.jn_points.specs.declared.program.Program.{Program}
use Rattle.jn_front.specs.declared.source.SourceFile.{SourceFile}
use Rattle.jn_front.specs.declared.source.SourceRead.{SourceRead}
use Rattle.jn_front.specs.Files.{AreReads, files_of_reads}
use Rattle.jn_command.specs.Stands.{StandIn}
use Rattle.jn_command.proofs.Standing.{all_stand}
use Rattle.jn_phases.specs.Phases.{TypedProgramOf}
use Rattle.nullcheck_cert_check.proofs.Certified.{IsTypedAll, IsWhole}
use Rattle.nullcheck_cert_write.specs.declared.made.CertMade.{CertMade}
use Rattle.nullcheck_cert_write.specs.declared.made.CertMade.TheVariants.{Refused, Rejected, TooLarge, Made}
use Rattle.nullcheck_cert_write.specs.Making.{IsMadeOf}
use Rattle.nullcheck_cert_write.specs.Verdicts.{IsVerdict, rows_of}

abbrev pub Found : Type 0
Found = Result CertMade OutOfMemory

-- of the files' program
pub solved : (infer : Infer) (files : List SourceFile) (names : List (List ℕ)) (P : Program) → TypedProgramOf infer files names P → (found : Found) → IfOk found (IsMadeOf P) → IfOk found (IsVerdict infer files)
solved infer files names P typed (Ok (Refused rows)) gives = absurd gives
solved infer files names P typed (Ok (Rejected rows)) gives = record { P = P; of_files = record { names = names; typed = typed }; gives = gives }
solved infer files names P typed (Ok TooLarge) gives = record { P = P; of_files = record { names = names; typed = typed }; gives = gives }
solved infer files names P typed (Ok (Made cert)) gives = record { P = P; of_files = record { names = names; typed = typed }; gives = gives }
solved infer files names P typed (Err e) gives = tt

module _ (infer : Infer) (reads : List SourceRead) (names : List (List ℕ)) (trees : List PlacedFile) (rows : List Row) (P : Program) (some : (files : List SourceFile) × AreReads reads files) (typed : IsTypedAll infer reads names trees rows (Some P)) (whole : IsWhole reads (Some P)) where
  -- what is found of what was read is found of the files
  pub found_all : (found : Found) → IfOk found (IsVerdict infer (files_of_reads reads)) → IfOk found (λ v. (files : List SourceFile) → AreReads reads files → IsVerdict infer files v)
  found_all (Ok v) is = λ files are. subst (λ fs. IsVerdict infer fs v) (whole refl files are) is
  found_all (Err e) is = tt

  -- no limit is passed, where what was read has a program
  pub found_stands : (found : Found) → IfOk found (λ v. StandIn reads (rows_of v))
  found_stands (Ok v) = all_stand reads [] (rows_of v) (λ files are. sym (typed files are).1.0.of_files.lowered.declared.parsed.within) refl some
  found_stands (Err e) = tt
