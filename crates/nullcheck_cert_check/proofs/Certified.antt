-- What a certificate comes to of the program of files that were read.
use Rattle.std.proofs.Common.{◌≡◌, ℕ, true, false, List, [], Result, Ok, Err, Option, Some, inl, inr, refl, sym, ◌∙◌, subst}
use Rattle.std.specs.Prelude.{IfOk, IsSome}
use Rattle.jn_base.specs.declared.infer.Infer.{Infer}
use Rattle.jn_base.specs.declared.refusal.Fail.TheVariants.{Refused as RefusedFor}
use Rattle.jn_base.specs.declared.refusal.OutOfMemory.{OutOfMemory}
use Rattle.jn_base.specs.declared.place.Row.{Row}
use Rattle.jn_places.specs.Placed.{PlacedFile}
use Rattle.jn_quals.specs.Qualifier.{Qualifier}
use Rattle.jn_points.specs.declared.program.Program.{Program}
use Rattle.jn_program.specs.Lowered.{IsProgram}
use Rattle.jn_cert_law.specs.Certificate.{CertHolds}
use Rattle.jn_cert_judge.specs.declared.fault.CertFault.{CertFault}
use Rattle.jn_cert.specs.Checking.{IsCertified, IsWhyRefused}
use Rattle.jn_front.specs.declared.source.SourceFile.{SourceFile}
use Rattle.jn_front.specs.declared.source.SourceRead.{SourceRead}
use Rattle.jn_front.specs.Files.{AreReads, files_of_reads}
use Rattle.jn_command.specs.Stands.{StandIn}
use Rattle.jn_phases.specs.Phases.{IsTypedOr, ProgramOf, TypedProgramOf}
use Rattle.jn_safe_files.specs.Safe.{IsSafe}
use Rattle.nullcheck_cert_check.specs.declared.certificate.CertRead.{CertRead}
use Rattle.nullcheck_cert_check.specs.declared.verdict.CertVerdict.{CertVerdict}
use Rattle.nullcheck_cert_check.specs.declared.verdict.CertVerdict.TheVariants.{Refused, TooLarge, Faulty, Certified}
use Rattle.nullcheck_cert_check.specs.Inputs.{IsCertRead}
use Rattle.nullcheck_cert_check.specs.Verdicts.{HasProgram, IsCertifiedBy, IsFaultyBy, IsTooLarge, IsVerdict, refused_rows}

never_both : (read : CertRead) → read.whole ≡ true → read.whole ≡ false → ⊥
never_both read all part = clash (sym all ∙ part)
  where
    clash : true ≡ false → ⊥
    clash e = cc

-- a certificate holds by its signature, and under it the slots that are written keep what is written
pub cert_holds : (P : Program) (cert : List ℕ) (s : List Qualifier) → IsCertified P cert s → CertHolds P cert
cert_holds P cert s c = record { sig = s; tables = c.tables; form = c.form; holds = c.holds }

-- the program of files is that of their trees
pub program_of_trees : (infer : Infer) (files : List SourceFile) (names : List (List ℕ)) (P : Program) → (p : ProgramOf infer files names P) → IsProgram infer p.trees P
program_of_trees infer files names P p = record { program = p.is; rows = p.lowered.rowless; regular = p.regular }

module _ (infer : Infer) (files : List SourceFile) (names : List (List ℕ)) (P : Program) (typed : TypedProgramOf infer files names P) (read : CertRead) where
  pub faulty_verdict : (fault : CertFault) → IsWhyRefused P read.bytes (RefusedFor fault) → (CertHolds P read.bytes → ⊥) → read.whole ≡ true → (cert : List ℕ) → IsCertRead read cert → IsFaultyBy infer files cert P fault
  faulty_verdict fault why never whole cert (inl is) = record {
    of_files = record { names = names; typed = typed };
    small = is.2;
    why = subst (λ bytes. IsWhyRefused P bytes (RefusedFor fault)) is.1 why;
    never = λ holds. never (subst (CertHolds P) (sym is.1) holds);
  }
  faulty_verdict fault why never whole cert (inr is) = absurd (never_both read whole is.0)

  pub large_verdict : read.whole ≡ false → (cert : List ℕ) → IsCertRead read cert → IsTooLarge infer files cert
  large_verdict part cert (inl is) = absurd (never_both read is.0 part)
  large_verdict part cert (inr is) = record { P = P; of_files = record { names = names; typed = typed }; large = is.2 }

  -- nothing is no certificate
  pub certified_verdict : ((Q : Program) → CertHolds Q [] → ⊥) → CertHolds P read.bytes → (safe : IsSafe infer files) → safe.P ≡ P → (cert : List ℕ) → IsCertRead read cert → IsCertifiedBy infer files cert P
  certified_verdict none holds safe same cert (inl is) = record {
    of_files = record { names = names; typed = typed };
    certificate = record { small = is.2; holds = subst (CertHolds P) is.1 holds };
    safe = safe;
    same = same;
  }
  certified_verdict none holds safe same cert (inr is) = absurd (none P (subst (CertHolds P) is.1 holds))

-- ---- of the files

abbrev pub Made : Type 0
Made = Result CertVerdict OutOfMemory

-- what was read are the files, where they have a program
abbrev pub IsWhole : List SourceRead → Option Program → Type 0
IsWhole reads base = IsSome base → (files : List SourceFile) → AreReads reads files → files_of_reads reads ≡ files

abbrev pub IsTypedAll : Infer → List SourceRead → List (List ℕ) → List PlacedFile → List Row → Option Program → Type 0
IsTypedAll infer reads names trees rows base = (files : List SourceFile) → AreReads reads files → IsTypedOr infer files names trees rows base

module _ (infer : Infer) (reads : List SourceRead) (names : List (List ℕ)) (trees : List PlacedFile) (rows : List Row) (P : Program) (whole : IsWhole reads (Some P)) where
  -- what was read has the program
  pub program_read : ((files : List SourceFile) × AreReads reads files) → IsTypedAll infer reads names trees rows (Some P) → TypedProgramOf infer (files_of_reads reads) names P
  program_read some typed = subst (λ fs. TypedProgramOf infer fs names P) (sym (whole refl some.0 some.1)) (typed some.0 some.1).1.0

  -- what is found of what was read is found of the files
  pub found_all : (read : CertRead) (made : Made) → IfOk made (λ v. (cert : List ℕ) → IsCertRead read cert → IsVerdict infer (files_of_reads reads) cert v) → IfOk made (λ v. (files : List SourceFile) (cert : List ℕ) → AreReads reads files → IsCertRead read cert → IsVerdict infer files cert v)
  found_all read (Ok v) found = λ files cert are is. subst (λ fs. IsVerdict infer fs cert v) (whole refl files are) (found cert is)
  found_all read (Err e) found = tt

  pub found_whole : (made : Made) → IfOk made (λ v. HasProgram v → (files : List SourceFile) → AreReads reads files → files_of_reads reads ≡ files)
  found_whole (Ok v) = λ has. whole refl
  found_whole (Err e) = tt

-- a verdict on a program has no row of its files
no_rows : (reads : List SourceRead) (v : CertVerdict) → HasProgram v → StandIn reads (refused_rows v)
no_rows reads (Refused rows) has = absurd has
no_rows reads TooLarge has = tt
no_rows reads (Faulty P fault) has = tt
no_rows reads (Certified accepted) has = tt

pub found_stands : (reads : List SourceRead) (made : Made) → IfOk made HasProgram → IfOk made (λ v. StandIn reads (refused_rows v))
found_stands reads (Ok v) has = no_rows reads v has
found_stands reads (Err e) has = tt
