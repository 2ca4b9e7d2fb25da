-- Files with a certificate are accepted by the rules.
use Rattle.std.proofs.Common.{List, []}
use Rattle.std.specs.List.Sorted.{IsStrictlySortedBy}
use Rattle.jn_base.specs.declared.infer.Infer.{Infer}
use Rattle.jn_quals.specs.Qualifier.{Qualifier}
use Rattle.jn_points.specs.declared.program.Program.{Program}
use Rattle.jn_points.specs.Regular.{Regular}
use Rattle.jn_env.specs.Environment.{Env}
use Rattle.jn_transfer.specs.Closing.{IsClosed, IsNotBelowStart}
use Rattle.jn_transfer.specs.Rules.{Breaks}
use Rattle.jn_soundness.specs.Accepting.{IsAccepted}
use Rattle.jn_cert_form.specs.Form.{AreParts}
use Rattle.jn_cert_law.specs.Holds.{Holds, KeepsWritten}
use Rattle.std.specs.Prelude.{Option, ℕ}
use Rattle.jn_diag.specs.Order.{IsOrderOf, row_cmp}
use Rattle.jn_command.specs.declared.report.Report.TheVariants.{Checked}
use Rattle.jn_front.specs.declared.source.SourceFile.{SourceFile}
use Rattle.jn_report.specs.Report.{IsReport, RulesGive}
use Rattle.jn_safe_files.specs.Safe.{BreaksNone}
use Rattle.nullcheck_cert_check.specs.Verdicts.{IsCertifiedBy}

none_sorted : IsStrictlySortedBy row_cmp []
unfolding IsStrictlySortedBy
none_sorted = tt

-- no rows are in order
pub none_ordered : IsOrderOf [] []
none_ordered = record { sorted = none_sorted; same = λ row. (λ h. h, λ h. h) }

rules_give : (P : Program) → BreaksNone P → RulesGive P []
rules_give P b = record { signature = b.0; least = b.1; broken = []; breaks = b.2; order = none_ordered }

module _ (closed : (P : Program) (s : List Qualifier) (tables : List (List (Option Env))) → Regular P → AreParts P s tables → Holds P s tables → IsClosed P s) (starts : (P : Program) (s : List Qualifier) (tables : List (List (Option Env))) → Holds P s tables → IsNotBelowStart P s) (unbroken : (P : Program) (s : List Qualifier) (tables : List (List (Option Env))) → Regular P → AreParts P s tables → Holds P s tables → Breaks P s []) (none : (P : Program) (s : List Qualifier) → IsAccepted P s → KeepsWritten P s → BreaksNone P) where
  pub certified_accepted : (infer : Infer) (files : List SourceFile) (cert : List ℕ) (P : Program) → IsCertifiedBy infer files cert P → IsReport infer files (Checked [])
  certified_accepted infer files cert P c =
      let h = c.certificate.holds in
      let regular = c.of_files.typed.of_files.regular in
      let accepted : IsAccepted P h.sig = record {
        regular = regular;
        typed = c.of_files.typed.typed;
        closed = closed P h.sig h.tables regular h.form.parts h.holds;
        starts = starts P h.sig h.tables h.holds;
        unbroken = unbroken P h.sig h.tables regular h.form.parts h.holds;
      } in
      record { names = c.of_files.names; P = P; of_files = c.of_files.typed; rules = rules_give P (none P h.sig accepted h.holds.written) }
