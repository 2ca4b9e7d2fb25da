-- Files that are refused, told so.
use Rattle.std.specs.Prelude.{ℕ, ◌≡◌, List}
use Rattle.jn_base.specs.declared.infer.Infer.{Infer}
use Rattle.jn_base.specs.declared.place.Row.{Row}
use Rattle.jn_command.specs.declared.report.Report.TheVariants.{Refused as RefusedReport}
use Rattle.jn_command.specs.declared.status.Status.{Status}
use Rattle.jn_command.specs.declared.status.Status.TheVariants.{Refused as RefusedStatus}
use Rattle.jn_command.specs.Shown.{shown}
use Rattle.jn_front.specs.declared.source.SourceFile.{SourceFile}
use Rattle.jn_reporters.specs.Reports.{plain_shown}
use Rattle.jn_phases.specs.Phases.{IsPhase}

-- the rows of the first phase that has any, as the plain reporter shows them
pub record IsRefusalOf (infer : Infer) (files : List SourceFile) (status : Status) (bytes : List ℕ) : Type 0 where
  pub rows : List Row
  pub are : IsPhase infer files rows
  pub ends : status ≡ RefusedStatus
  pub shows : bytes ≡ shown plain_shown files (RefusedReport rows)
