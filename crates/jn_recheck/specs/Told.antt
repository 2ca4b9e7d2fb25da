-- The last report of a session.
use Rattle.std.specs.Prelude.{◌≡◌, List, Option, Some, None}
use Rattle.jn_base.specs.declared.infer.Infer.{Infer}
use Rattle.jn_command.specs.declared.report.Report.{Report}
use Rattle.jn_command.specs.declared.report.Report.TheVariants.{Refused, Checked}
use Rattle.jn_front.specs.declared.source.SourceFile.{SourceFile}
use Rattle.jn_recheck_law.specs.Reusable.{Solved}
use Rattle.jn_recheck.specs.Sessions.{IsSolutionOf}
use Rattle.jn_report.specs.Report.{IsReport}

-- a report of these files; where it came to the rules, what is kept is their solution
abbrev pub IsTold : Infer → List SourceFile → Option Solved → Report → Type 0
IsTold infer files kept (Refused rows) = IsReport infer files (Refused rows)
IsTold infer files kept (Checked rows) = IsReport infer files (Checked rows) × ((solved : Solved) × (kept ≡ Some solved) × IsSolutionOf infer files solved)

-- the last report was one of the files that stood then
abbrev pub IsLastTold : Infer → List SourceFile → Option Solved → Option Report → Type 0
IsLastTold infer last kept None = Unit {0}
IsLastTold infer last kept (Some report) = IsTold infer last kept report
