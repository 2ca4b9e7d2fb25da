-- What a session's report finds of files.
use Rattle.std.proofs.Common.{◌≡◌, ℕ, ◌<◌, Bool, true, false, List, [], ◌∷◌, length, Option, refl, sym, ap, ◌∙◌, subst, arith}
use Rattle.jn_base.specs.declared.infer.Infer.{Infer}
use Rattle.jn_base.specs.declared.place.Row.{Row}
use Rattle.jn_command.specs.declared.report.Report.{Report}
use Rattle.jn_command.specs.declared.report.Report.TheVariants.{Refused, Checked}
use Rattle.jn_command.specs.Reports.{rows_of, verdict_of}
use Rattle.jn_diag.specs.declared.shown.RowText.{RowText}
use Rattle.jn_diag.specs.declared.shown.Verdict.{Verdict}
use Rattle.jn_diag.specs.declared.shown.Verdict.TheVariants.{Accepted, Rejected, Refused as RefusedVerdict}
use Rattle.jn_front.specs.declared.source.SourceFile.{SourceFile}
use Rattle.jn_lsp_text.specs.declared.encoding.Encoding.{Encoding}
use Rattle.jn_note_words.specs.declared.note.Notes.{Notes}
use Rattle.jn_notes.specs.Noted.{AreNotesOf}
use Rattle.jn_phase_notes.specs.Phases.{PhaseNotes}
use Rattle.jn_recheck.specs.Sessions.{HaveNotes, IsRecheck, Reports, SessionOf, or_else}
use Rattle.jn_recheck_law.specs.Reusable.{Solved}
use Rattle.jn_report.specs.Report.{IsReport}
use Rattle.jn_lsp.specs.declared.diagnostics.Told.{Told}
use Rattle.jn_lsp.specs.declared.unchecked.LastReport.{LastReport}
use Rattle.jn_lsp.specs.Reported.{AreFindings, AreNoted, AreReportNotes, AreTold, IsKeptOf, IsReported, IsTold, unchecked_at}
use Rattle.jn_lsp.specs.Telling.{diagnostics_at, told_from}

-- ---- after a report

kept_of : (infer : Infer) (files : List SourceFile) (report : Report) (old new found : Option Solved) (made : ℕ) → IsRecheck infer old files report found made → new ≡ or_else found old → IsKeptOf infer files report new
kept_of infer files (Refused rows) old new found made recheck keeps = tt
kept_of infer files (Checked rows) old new found made (is, (solved, e, solves, anew)) keeps = (solved, keeps ∙ ap (λ o. or_else o old) e, solves)

pub reported : (infer : Infer) (before after : SessionOf) (files : List SourceFile) (rows : List RowText) (places : List Row) (verdict : Verdict) (count made : ℕ) → before.infer ≡ infer → before.files ≡ files → Reports before after rows places verdict count made → IsReported infer files after.kept places verdict
reported infer before after files rows places verdict count made chosen same r = record {
  report = r.report;
  is = subst (λ fs. IsReport infer fs r.report) same (subst (λ (i : Infer). IsReport i before.files r.report) chosen r.is);
  rows_are = r.shown.1;
  verdict_is = r.shown.2;
  keeps = subst (λ fs. IsKeptOf infer fs r.report after.kept) same (subst (λ (i : Infer). IsKeptOf i before.files r.report after.kept) chosen (kept_of before.infer before.files r.report before.kept after.kept r.found made r.recheck r.keeps));
}

-- ---- notes

rejected_refused : (n m : ℕ) → Rejected n ≡ RefusedVerdict m → ⊥
rejected_refused n m e = cc

rejected_accepted : (n : ℕ) → Rejected n ≡ Accepted → ⊥
rejected_accepted n e = cc

rule_notes : (infer : Infer) (files : List SourceFile) (report : Report) (kept : Option Solved) (rows : List Row) (notes : List Notes) (n : ℕ) → rows ≡ rows_of report → Rejected n ≡ verdict_of report → IsKeptOf infer files report kept → HaveNotes kept rows notes → AreReportNotes infer files report notes
rule_notes infer files (Refused rs) kept rows notes n e v keeps have = absurd (rejected_refused n (length rs) v)
rule_notes infer files (Checked []) kept rows notes n e v keeps have = absurd (rejected_accepted n v)
rule_notes infer files (Checked (r ∷ rs)) kept rows notes n e v (solved, is, solves) have = record {
  solved = solved;
  is = solves;
  are = subst (λ xs. AreNotesOf solved.program solved.names solved.signature xs notes) e (subst (λ k. HaveNotes k rows notes) is have);
}

pub noted : (infer : Infer) (files : List SourceFile) (kept : Option Solved) (rows : List Row) (verdict : Verdict) (n : ℕ) (notes : List Notes) → IsReported infer files kept rows verdict → verdict ≡ Rejected n → HaveNotes kept rows notes → AreNoted infer files rows verdict notes
noted infer files kept rows verdict n notes r v have = record {
  report = r.report;
  found = record { is = r.is; notes_are = rule_notes infer files r.report kept rows notes n r.rows_are (sym v ∙ r.verdict_is) r.keeps have };
  rows_are = r.rows_are;
  verdict_is = r.verdict_is;
}

accepted_refused : (n : ℕ) → Accepted ≡ RefusedVerdict n → ⊥
accepted_refused n e = cc

accepted_rejected : (n : ℕ) → Accepted ≡ Rejected n → ⊥
accepted_rejected n e = cc

no_rule_notes : (infer : Infer) (files : List SourceFile) (report : Report) (notes : List Notes) → Accepted ≡ verdict_of report → notes ≡ [] → AreReportNotes infer files report notes
no_rule_notes infer files (Refused rs) notes v e = absurd (accepted_refused (length rs) v)
no_rule_notes infer files (Checked []) notes v e = e
no_rule_notes infer files (Checked (r ∷ rs)) notes v e = absurd (accepted_rejected (length (r ∷ rs)) v)

pub not_noted : (infer : Infer) (files : List SourceFile) (kept : Option Solved) (rows : List Row) (verdict : Verdict) (notes : List Notes) → IsReported infer files kept rows verdict → verdict ≡ Accepted → notes ≡ [] → AreNoted infer files rows verdict notes
not_noted infer files kept rows verdict notes r v e = record {
  report = r.report;
  found = record { is = r.is; notes_are = no_rule_notes infer files r.report notes (sym v ∙ r.verdict_is) e };
  rows_are = r.rows_are;
  verdict_is = r.verdict_is;
}

-- ---- the notes of a phase

refused_rejected : (n m : ℕ) → RefusedVerdict n ≡ Rejected m → ⊥
refused_rejected n m e = cc

refused_accepted : (n : ℕ) → RefusedVerdict n ≡ Accepted → ⊥
refused_accepted n e = cc

phase_rows : (infer : Infer) (files : List SourceFile) (report : Report) (n : ℕ) → RefusedVerdict n ≡ verdict_of report → IsReport infer files report → IsReport infer files (Refused (rows_of report))
phase_rows infer files (Refused rs) n v is = is
phase_rows infer files (Checked []) n v is = absurd (refused_accepted n v)
phase_rows infer files (Checked (r ∷ rs)) n v is = absurd (refused_rejected n (length (r ∷ rs)) v)

-- a refused report's rows are those of a phase
pub refused_by : (infer : Infer) (files : List SourceFile) (kept : Option Solved) (rows : List Row) (verdict : Verdict) (n : ℕ) → IsReported infer files kept rows verdict → verdict ≡ RefusedVerdict n → IsReport infer files (Refused rows)
refused_by infer files kept rows verdict n r v = subst (λ xs. IsReport infer files (Refused xs)) (sym r.rows_are) (phase_rows infer files r.report n (sym v ∙ r.verdict_is) r.is)

phase_notes : (infer : Infer) (files : List SourceFile) (report : Report) (rows : List Row) (notes : List Notes) (n : ℕ) → rows ≡ rows_of report → RefusedVerdict n ≡ verdict_of report → PhaseNotes files rows notes → AreReportNotes infer files report notes
phase_notes infer files (Refused rs) rows notes n e v h = subst (λ xs. PhaseNotes files xs notes) e h
phase_notes infer files (Checked []) rows notes n e v h = absurd (refused_accepted n v)
phase_notes infer files (Checked (r ∷ rs)) rows notes n e v h = absurd (refused_rejected n (length (r ∷ rs)) v)

pub phase_noted : (infer : Infer) (files : List SourceFile) (kept : Option Solved) (rows : List Row) (verdict : Verdict) (n : ℕ) (notes : List Notes) → IsReported infer files kept rows verdict → verdict ≡ RefusedVerdict n → PhaseNotes files rows notes → AreNoted infer files rows verdict notes
phase_noted infer files kept rows verdict n notes r v h = record {
  report = r.report;
  found = record { is = r.is; notes_are = phase_notes infer files r.report rows notes n r.rows_are (sym v ∙ r.verdict_is) h };
  rows_are = r.rows_are;
  verdict_is = r.verdict_is;
}

-- ---- what is told

pub told_none : (infer : Infer) (encoding : Encoding) (last : LastReport) (files : List SourceFile) (told : List Told) → length files ≡ 0 → told ≡ [] → IsTold infer encoding last false files told
told_none infer encoding last [] told e none = (none, refl)
told_none infer encoding last (file ∷ files) told e none = absurd (omega (arith, e))

pub told_some : (infer : Infer) (encoding : Encoding) (last : LastReport) (came : Bool) (files : List SourceFile) (told : List Told) → 0 < length files → AreTold infer encoding last came files told → IsTold infer encoding last came files told
told_some infer encoding last came [] told lt are = absurd (omega (arith, lt))
told_some infer encoding last came (file ∷ files) told lt are = are

abbrev pub IsRefused : Verdict → Type 0
IsRefused Accepted = ⊥
IsRefused (Rejected n) = ⊥
IsRefused (RefusedVerdict n) = Unit {0}

abbrev pub IsByRules : Verdict → Type 0
IsByRules Accepted = Unit {0}
IsByRules (Rejected n) = Unit {0}
IsByRules (RefusedVerdict n) = ⊥

-- a report that ends before the rules
pub told_refused : (infer : Infer) (encoding : Encoding) (last : LastReport) (files : List SourceFile) (rows of_rows : List Row) (verdict : Verdict) (notes : List Notes) (told : List Told) → AreNoted infer files rows verdict notes → IsRefused verdict → of_rows ≡ rows → told ≡ told_from (unchecked_at encoding last files of_rows notes) 0 files → AreTold infer encoding last false files told
told_refused infer encoding last files rows of_rows verdict notes told noted refused e is = by_report noted.report noted.found noted.rows_are (subst IsRefused noted.verdict_is refused)
  where
    by_report : (report : Report) → AreFindings infer files report notes → rows ≡ rows_of report → IsRefused (verdict_of report) → AreTold infer encoding last false files told
    by_report (Refused rs) found same v = record { report = Refused rs; notes = notes; found = found; comes = refl; are = is ∙ ap (λ xs. told_from (unchecked_at encoding last files xs notes) 0 files) (e ∙ same) }
    by_report (Checked []) found same v = absurd v
    by_report (Checked (r ∷ rs)) found same v = absurd v

-- one that comes there
pub told_checked : (infer : Infer) (encoding : Encoding) (last : LastReport) (files : List SourceFile) (rows of_rows : List Row) (verdict : Verdict) (notes : List Notes) (told : List Told) → AreNoted infer files rows verdict notes → IsByRules verdict → of_rows ≡ rows → told ≡ told_from (diagnostics_at encoding files of_rows notes) 0 files → AreTold infer encoding last true files told
told_checked infer encoding last files rows of_rows verdict notes told noted by_rules e is = by_report noted.report noted.found noted.rows_are (subst IsByRules noted.verdict_is by_rules)
  where
    by_report : (report : Report) → AreFindings infer files report notes → rows ≡ rows_of report → IsByRules (verdict_of report) → AreTold infer encoding last true files told
    by_report (Refused rs) found same v = absurd v
    by_report (Checked rs) found same v = record { report = Checked rs; notes = notes; found = found; comes = refl; are = is ∙ ap (λ xs. told_from (diagnostics_at encoding files xs notes) 0 files) (e ∙ same) }
