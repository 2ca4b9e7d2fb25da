-- Files and a certificate have one verdict.
use Rattle.std.proofs.Common.{◌≡◌, ℕ, ◌<◌, ◌≤◌, List, length, sym, subst, arith}
use Rattle.jn_base.specs.declared.infer.Infer.{Infer}
use Rattle.jn_base.specs.declared.place.Row.{Row}
use Rattle.jn_base.specs.declared.refusal.Fail.TheVariants.{Refused as RefusedFor}
use Rattle.jn_points.specs.declared.program.Program.{Program}
use Rattle.jn_cert_form.specs.Counted.{IsCounted}
use Rattle.jn_cert_judge.specs.declared.fault.CertFault.{CertFault}
use Rattle.jn_cert_law.specs.Certificate.{CertHolds}
use Rattle.jn_cert.specs.Checking.{IsWhyRefused}
use Rattle.jn_front.specs.declared.source.SourceFile.{SourceFile}
use Rattle.jn_phases.specs.Phases.{IsPhase, ProgramOf, TypedProgramOf}
use Rattle.nullcheck_cert_check.specs.declared.verdict.CertVerdict.{CertVerdict}
use Rattle.nullcheck_cert_check.specs.declared.verdict.CertVerdict.TheVariants.{Refused, TooLarge, Faulty, Certified}
use Rattle.nullcheck_cert_check.specs.Inputs.{cert_limit}
use Rattle.nullcheck_cert_check.specs.Verdicts.{IsFaultyBy, IsProgramOfFiles, IsSameVerdict, IsVerdict}
use Rattle.nullcheck_cert_check.proofs.Certified.{program_of_trees}
use Rattle.nullcheck_cert_check.proofs.Counted.{program_counted}

-- what is said of refusals: they have one fault
abbrev pub OneFault : Type 0
OneFault = (P : Program) (cert : List ℕ) (one other : CertFault) → IsCounted P → IsWhyRefused P cert (RefusedFor one) → IsWhyRefused P cert (RefusedFor other) → one ≡ other

module _ (infer : Infer) (files : List SourceFile) (program : (infer : Infer) (files : List SourceFile) (names others : List (List ℕ)) (P Q : Program) → ProgramOf infer files names P → ProgramOf infer files others Q → (names ≡ others) × (P ≡ Q)) where
  one_program : (P Q : Program) → IsProgramOfFiles infer files P → IsProgramOfFiles infer files Q → P ≡ Q
  one_program P Q p q = (program infer files p.names q.names P Q p.typed.of_files q.typed.of_files).1

  module _ (cert : List ℕ) where
    -- what has a fault holds of no program of the files
    pub not_held : (P Q : Program) (fault : CertFault) → IsFaultyBy infer files cert P fault → IsProgramOfFiles infer files Q → CertHolds Q cert → ⊥
    not_held P Q fault a q holds = a.never (subst (λ Z. CertHolds Z cert) (one_program Q P q a.of_files) holds)

    too_many : cert_limit < length cert → length cert ≤ cert_limit → ⊥
    too_many large small = omega (arith, large, small)

    module _ (refused : (infer : Infer) (files : List SourceFile) (rows others : List Row) → IsPhase infer files rows → IsPhase infer files others → rows ≡ others) (apart : (infer : Infer) (files : List SourceFile) (names : List (List ℕ)) (P : Program) (rows : List Row) → TypedProgramOf infer files names P → IsPhase infer files rows → ⊥) (one_fault : OneFault) where
      -- a phase with rows comes before a program
      none_typed : (rows : List Row) (P : Program) → IsPhase infer files rows → IsProgramOfFiles infer files P → ⊥
      none_typed rows P phase p = apart infer files p.names P rows p.typed phase

      same_fault : (P Q : Program) (fault other : CertFault) → IsFaultyBy infer files cert P fault → IsFaultyBy infer files cert Q other → (P ≡ Q) × (fault ≡ other)
      same_fault P Q fault other a b =
          let same = one_program Q P b.of_files a.of_files in
          let of_files = a.of_files.typed.of_files in
          let counted = program_counted infer of_files.trees P (program_of_trees infer files a.of_files.names P of_files) in
          (sym same, one_fault P cert fault other counted a.why (subst (λ Z. IsWhyRefused Z cert (RefusedFor other)) same b.why))

      pub same_verdict : (one other : CertVerdict) → IsVerdict infer files cert one → IsVerdict infer files cert other → IsSameVerdict one other
      same_verdict (Refused rows) (Refused others) a b = refused infer files rows others a b
      same_verdict (Refused rows) TooLarge a b = none_typed rows b.P a b.of_files
      same_verdict (Refused rows) (Faulty Q other) a b = none_typed rows Q a b.of_files
      same_verdict (Refused rows) (Certified other) a b = none_typed rows other.0 a b.of_files
      same_verdict TooLarge (Refused others) a b = none_typed others a.P b a.of_files
      same_verdict TooLarge TooLarge a b = tt
      same_verdict TooLarge (Faulty Q other) a b = too_many a.large b.small
      same_verdict TooLarge (Certified other) a b = too_many a.large b.certificate.small
      same_verdict (Faulty P fault) (Refused others) a b = none_typed others P b a.of_files
      same_verdict (Faulty P fault) TooLarge a b = too_many b.large a.small
      same_verdict (Faulty P fault) (Faulty Q other) a b = same_fault P Q fault other a b
      same_verdict (Faulty P fault) (Certified other) a b = not_held P other.0 fault a b.of_files b.certificate.holds
      same_verdict (Certified accepted) (Refused others) a b = none_typed others accepted.0 b a.of_files
      same_verdict (Certified accepted) TooLarge a b = too_many b.large a.certificate.small
      same_verdict (Certified accepted) (Faulty Q other) a b = not_held Q accepted.0 other b a.of_files a.certificate.holds
      same_verdict (Certified accepted) (Certified other) a b = one_program accepted.0 other.0 a.of_files b.of_files
