-- Files have one report.
use Rattle.std.proofs.Common.{◌≡◌, ℕ, List, Option, ap, subst}
use Rattle.jn_base.specs.declared.infer.Infer.{Infer}
use Rattle.jn_base.specs.declared.place.Row.{Row}
use Rattle.jn_quals.specs.Qualifier.{Qualifier}
use Rattle.jn_points.specs.declared.program.Program.{Program}
use Rattle.jn_env.specs.Environment.{Env}
use Rattle.jn_transfer.specs.Least.{IsLeastTable}
use Rattle.jn_transfer.specs.Rules.{Breaks}
use Rattle.jn_inference_law.specs.Solution.{IsLeastSignature}
use Rattle.jn_diag.specs.Order.{IsOrderOf}
use Rattle.jn_front.specs.declared.source.SourceFile.{SourceFile}
use Rattle.jn_command.specs.declared.report.Report.{Report}
use Rattle.jn_command.specs.declared.report.Report.TheVariants.{Refused, Checked}
use Rattle.jn_phases.specs.Phases.{IsPhase, ProgramOf, TypedProgramOf}
use Rattle.jn_report.specs.Report.{IsReport, RulesGive}
use Rattle.jn_report.proofs.RuleRows.{breaks_once}

module _ (refused : (infer : Infer) (files : List SourceFile) (rows others : List Row) → IsPhase infer files rows → IsPhase infer files others → rows ≡ others) (program : (infer : Infer) (files : List SourceFile) (names others : List (List ℕ)) (P Q : Program) → ProgramOf infer files names P → ProgramOf infer files others Q → (names ≡ others) × (P ≡ Q)) (apart : (infer : Infer) (files : List SourceFile) (names : List (List ℕ)) (P : Program) (rows : List Row) → TypedProgramOf infer files names P → IsPhase infer files rows → ⊥) (least : (P : Program) (s t : List Qualifier) → IsLeastSignature P s → IsLeastSignature P t → s ≡ t) (table : (P : Program) (s : List Qualifier) (b : ℕ) (t u : List (Option Env)) → IsLeastTable P s b t → IsLeastTable P s b u → t ≡ u) (ordered : (old one other : List Row) → IsOrderOf old one → IsOrderOf old other → one ≡ other) where
  one_rules : (P : Program) (rows others : List Row) → RulesGive P rows → RulesGive P others → rows ≡ others
  one_rules P rows others x y =
      let signature = least P x.signature y.signature x.least y.least in
      let breaks : Breaks P y.signature x.broken = subst (λ s. Breaks P s x.broken) signature x.breaks in
      let same = breaks_once P y.signature (table P y.signature) x.broken y.broken breaks y.breaks in
      ordered y.broken rows others (subst (λ broken. IsOrderOf broken rows) same x.order) y.order

  pub one_report : (infer : Infer) (files : List SourceFile) (one other : Report) → IsReport infer files one → IsReport infer files other → one ≡ other
  one_report infer files (Refused rows) (Refused others) x y = ap Refused (refused infer files rows others x y)
  one_report infer files (Refused rows) (Checked others) x y = absurd (apart infer files y.names y.P rows y.of_files x)
  one_report infer files (Checked rows) (Refused others) x y = absurd (apart infer files x.names x.P others x.of_files y)
  one_report infer files (Checked rows) (Checked others) x y =
      let same = (program infer files x.names y.names x.P y.P x.of_files.of_files y.of_files.of_files).1 in
      ap Checked (one_rules y.P rows others (subst (λ P. RulesGive P rows) same x.rules) y.rules)
