-- What is found of a certificate and files: the rows of the first phase that has any, what fails of the certificate, or that it holds.
use Rattle.std.specs.Prelude.{ℕ, ◌≡◌, ◌≤◌, ◌<◌, List, [], length}
use Rattle.jn_base.specs.declared.infer.Infer.{Infer}
use Rattle.jn_base.specs.declared.place.Row.{Row}
use Rattle.jn_points.specs.declared.program.Program.{Program}
use Rattle.jn_cert_law.specs.Certificate.{CertHolds}
use Rattle.jn_cert_judge.specs.declared.fault.CertFault.{CertFault}
use Rattle.jn_base.specs.declared.refusal.Fail.TheVariants.{Refused as RefusedFor}
use Rattle.jn_cert.specs.Checking.{IsWhyRefused}
use Rattle.jn_front.specs.declared.source.SourceFile.{SourceFile}
use Rattle.jn_phases.specs.Phases.{IsPhase, TypedProgramOf}
use Rattle.jn_safe_files.specs.Safe.{IsSafe}
use Rattle.nullcheck_cert_check.specs.Inputs.{cert_limit}
use Rattle.nullcheck_cert_check.specs.declared.verdict.CertVerdict.{CertVerdict}
use Rattle.nullcheck_cert_check.specs.declared.verdict.CertVerdict.TheVariants.{Refused, TooLarge, Faulty, Certified}

-- the bytes are a certificate of the program: not too many, and what they claim holds
pub record IsCertificate (P : Program) (cert : List ℕ) : Type 0 where
  pub small : length cert ≤ cert_limit
  pub holds : CertHolds P cert

module _ (infer : Infer) (files : List SourceFile) where
  -- the program of files without rows of the phases before the rules, whose slots go by the members that are inferred
  pub record IsProgramOfFiles (P : Program) : Type 0 where
    pub names : List (List ℕ)
    pub typed : TypedProgramOf infer files names P

  module _ (cert : List ℕ) where
    -- the certificate is too large
    pub record IsTooLarge : Type 0 where
      pub P : Program
      pub of_files : IsProgramOfFiles P
      pub large : cert_limit < length cert

    -- it is no certificate of the files' program, by the first that fails
    pub record IsFaultyBy (P : Program) (fault : CertFault) : Type 0 where
      pub of_files : IsProgramOfFiles P
      pub small : length cert ≤ cert_limit
      pub why : IsWhyRefused P cert (RefusedFor fault)
      pub never : CertHolds P cert → ⊥

    -- it is one, so the files are safe, whoever made the certificate
    pub record IsCertifiedBy (P : Program) : Type 0 where
      pub of_files : IsProgramOfFiles P
      pub certificate : IsCertificate P cert
      pub safe : IsSafe infer files
      pub same : safe.P ≡ P

    abbrev pub IsVerdict : CertVerdict → Type 0
    IsVerdict (Refused rows) = IsPhase infer files rows
    IsVerdict TooLarge = IsTooLarge
    IsVerdict (Faulty P fault) = IsFaultyBy P fault
    IsVerdict (Certified accepted) = IsCertifiedBy accepted.0

    -- the files have a program, and this is no certificate of it
    pub record HasNoCertificate : Type 0 where
      pub P : Program
      pub of_files : IsProgramOfFiles P
      pub never : IsCertificate P cert → ⊥

-- files that have a program
abbrev pub HasProgram : CertVerdict → Type 0
HasProgram (Refused rows) = ⊥
HasProgram TooLarge = Unit {0}
HasProgram (Faulty P fault) = Unit {0}
HasProgram (Certified accepted) = Unit {0}

-- the rows of files that are refused
abbrev pub refused_rows : CertVerdict → List Row
refused_rows (Refused rows) = rows
refused_rows TooLarge = []
refused_rows (Faulty P fault) = []
refused_rows (Certified accepted) = []

-- two verdicts say the same: the same rows, that the certificate is too large, the same fault of one program, or the same program that is certified
abbrev pub IsSameVerdict : CertVerdict → CertVerdict → Type 0
IsSameVerdict (Refused rows) (Refused others) = rows ≡ others
IsSameVerdict (Refused rows) TooLarge = ⊥
IsSameVerdict (Refused rows) (Faulty Q other) = ⊥
IsSameVerdict (Refused rows) (Certified other) = ⊥
IsSameVerdict TooLarge (Refused others) = ⊥
IsSameVerdict TooLarge TooLarge = Unit {0}
IsSameVerdict TooLarge (Faulty Q other) = ⊥
IsSameVerdict TooLarge (Certified other) = ⊥
IsSameVerdict (Faulty P fault) (Refused others) = ⊥
IsSameVerdict (Faulty P fault) TooLarge = ⊥
IsSameVerdict (Faulty P fault) (Faulty Q other) = (P ≡ Q) × (fault ≡ other)
IsSameVerdict (Faulty P fault) (Certified other) = ⊥
IsSameVerdict (Certified accepted) (Refused others) = ⊥
IsSameVerdict (Certified accepted) TooLarge = ⊥
IsSameVerdict (Certified accepted) (Faulty Q other) = ⊥
IsSameVerdict (Certified accepted) (Certified other) = accepted.0 ≡ other.0
