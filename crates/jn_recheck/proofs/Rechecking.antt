-- The report of files that have a program, and what is kept of it.
use Rattle.std.proofs.Common.{◌≡◌, ℕ, List, Option, Some, sym, ap, ◌∙◌, subst}
use Rattle.jn_base.specs.declared.infer.Infer.{Infer}
use Rattle.jn_base.specs.declared.place.Row.{Row}
use Rattle.jn_quals.specs.Qualifier.{Qualifier}
use Rattle.jn_points.specs.declared.program.Program.{Program}
use Rattle.jn_front.specs.declared.source.SourceFile.{SourceFile}
use Rattle.jn_inference_law.specs.Solution.{IsLeastSignature}
use Rattle.jn_system.specs.Rows.{AreBroken}
use Rattle.jn_command.specs.declared.report.Report.{Report}
use Rattle.jn_command.specs.declared.report.Report.TheVariants.{Checked, Refused}
use Rattle.jn_diag.specs.declared.shown.RowText.{RowText}
use Rattle.jn_diag.specs.declared.shown.Verdict.{Verdict}
use Rattle.jn_recheck_law.specs.Reusable.{Solved}
use Rattle.jn_recheck.specs.Files.{changed}
use Rattle.jn_recheck.specs.KeptRows.{AreMadeAnew}
use Rattle.jn_phases.specs.Phases.{TypedProgramOf}
use Rattle.jn_report.specs.Report.{IsCheckedBy, IsReport}
use Rattle.jn_recheck.specs.Sessions.{AreShown, IsRecheck, Reports, SessionOf, or_else}

pub checked_again : (infer : Infer) (files : List SourceFile) (names : List (List ℕ)) (P : Program) (s : List Qualifier) (rows shown : List Row) (old : Option Solved) (kept : Solved) (made : ℕ) → TypedProgramOf infer files names P → IsLeastSignature P s → AreBroken P s rows → kept ≡ record { names = names; program = P; signature = s } → AreMadeAnew old (record { names = names; program = P; signature = s }) made → shown ≡ rows → IsRecheck infer old files (Checked shown) (Some kept) made
checked_again infer files names P s rows shown old kept made of_files least broken is anew e = (
  subst (IsCheckedBy infer files) (sym e) (record { names = names; P = P; of_files = of_files; rules = record { signature = s; least = least; broken = broken.all; breaks = broken.broken; order = broken.ordered } }),
  (record { names = names; program = P; signature = s }, ap Some is, record { typed = of_files; least = least }, anew),
)

-- a recheck has the files' report
report_of : (infer : Infer) (old : Option Solved) (files : List SourceFile) (report : Report) (new : Option Solved) (made : ℕ) → IsRecheck infer old files report new made → IsReport infer files report
report_of infer old files (Refused rows) new made r = r.0
report_of infer old files (Checked rows) new made r = r.0

-- what a session's report gives
pub session_reports : (before after : SessionOf) (one two three : List SourceFile) (report : Report) (found : Option Solved) (made bodies count : ℕ) (rows : List RowText) (places : List Row) (verdict : Verdict)
    → one ≡ before.files → two ≡ before.files → three ≡ before.last
    → IsRecheck before.infer before.kept one report found made → AreShown two report rows places verdict → count ≡ changed three two → bodies ≡ made
    → after.infer ≡ before.infer → after.files ≡ before.files → after.last ≡ two → after.kept ≡ or_else found before.kept
    → Reports before after rows places verdict count bodies
session_reports before after one two three report found made bodies count rows places verdict e1 e2 e3 r shown counted same chosen stays last keeps =
    let recheck = subst (λ (fs : List SourceFile). IsRecheck before.infer before.kept fs report found made) e1 r in
    record {
      report = report;
      is = report_of before.infer before.kept before.files report found made recheck;
      shown = subst (λ (fs : List SourceFile). AreShown fs report rows places verdict) e2 shown;
      changes = counted ∙ (λ i. changed (e3 i) (e2 i));
      chosen = chosen;
      stays = stays;
      last = last ∙ e2;
      found = found;
      recheck = subst (λ (n : ℕ). IsRecheck before.infer before.kept before.files report found n) (sym same) recheck;
      keeps = keeps;
    }
