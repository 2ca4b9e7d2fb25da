-- What is found of files where a certificate is asked for.
use Rattle.std.specs.Prelude.{List, []}
use Rattle.jn_base.specs.declared.infer.Infer.{Infer}
use Rattle.jn_base.specs.declared.place.Row.{Row}
use Rattle.jn_points.specs.declared.program.Program.{Program}
use Rattle.nullcheck_cert_write.specs.declared.made.CertMade.{CertMade}
use Rattle.nullcheck_cert_write.specs.declared.made.CertMade.TheVariants.{Refused, Rejected, TooLarge, Made}
use Rattle.nullcheck_cert_write.specs.Making.{IsMadeOf}
use Rattle.jn_front.specs.declared.source.SourceFile.{SourceFile}
use Rattle.jn_phases.specs.Phases.{IsPhase}
use Rattle.nullcheck_cert_check.specs.Verdicts.{IsProgramOfFiles}

module _ (infer : Infer) (files : List SourceFile) where
  -- what the files' program comes to: rows of the rules under the least signature, or a certificate that holds
  pub record IsSolved (made : CertMade) : Type 0 where
    pub P : Program
    pub of_files : IsProgramOfFiles infer files P
    pub gives : IsMadeOf P made

  -- the rows of the first phase that has any, in order, or what the files' program comes to
  abbrev pub IsVerdict : CertMade → Type 0
  IsVerdict (Refused rows) = IsPhase infer files rows
  IsVerdict (Rejected rows) = IsSolved (Rejected rows)
  IsVerdict TooLarge = IsSolved TooLarge
  IsVerdict (Made cert) = IsSolved (Made cert)

-- the rows that are shown
abbrev pub rows_of : CertMade → List Row
rows_of (Refused rows) = rows
rows_of (Rejected rows) = rows
rows_of TooLarge = []
rows_of (Made cert) = []
