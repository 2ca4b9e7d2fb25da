-- What a report of files is, by the members that are inferred: the rows of the first phase that has any, or those of the rules under the least signature of their program.
use Rattle.std.specs.Prelude.{ℕ, List}
use Rattle.jn_base.specs.declared.infer.Infer.{Infer}
use Rattle.jn_base.specs.declared.place.Row.{Row}
use Rattle.jn_points.specs.declared.program.Program.{Program}
use Rattle.jn_quals.specs.Qualifier.{Qualifier}
use Rattle.jn_command.specs.declared.report.Report.{Report}
use Rattle.jn_command.specs.declared.report.Report.TheVariants.{Refused, Checked}
use Rattle.jn_inference_law.specs.Solution.{IsLeastSignature}
use Rattle.jn_transfer.specs.Rules.{Breaks}
use Rattle.jn_diag.specs.Order.{IsOrderOf}
use Rattle.jn_front.specs.declared.source.SourceFile.{SourceFile}
use Rattle.jn_phases.specs.Phases.{IsPhase, TypedProgramOf}

-- the rules are those under the least signature
pub record RulesGive (P : Program) (rows : List Row) : Type 0 where
  pub signature : List Qualifier
  pub least : IsLeastSignature P signature
  pub broken : List Row
  pub breaks : Breaks P signature broken
  pub order : IsOrderOf broken rows

-- no phase refuses the files, and the rows are what the rules find in their program
pub record IsCheckedBy (infer : Infer) (files : List SourceFile) (rows : List Row) : Type 0 where
  pub names : List (List ℕ)
  pub P : Program
  pub of_files : TypedProgramOf infer files names P
  pub rules : RulesGive P rows

-- files are refused by the rows of the first phase that has any, or checked by the rules; the rows are in order
abbrev pub IsReport : Infer → List SourceFile → Report → Type 0
IsReport infer files (Refused rows) = IsPhase infer files rows
IsReport infer files (Checked rows) = IsCheckedBy infer files rows
