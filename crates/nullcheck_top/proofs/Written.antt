-- What is written answers the words.
use Rattle.std.proofs.Common.{◌≡◌, ℕ, zero, suc, ◌<◌, ◌≤◌, inl, inr, List, [], ◌∷◌, ◌++◌, length, Bool, true, false, Option, Some, None, Result, Ok as Made, Err, refl, sym, ◌∙◌, subst, arith, ap, append-nil}
use Rattle.std.specs.Prelude.{IfOk}
use Rattle.jn_base.specs.declared.infer.Infer.{Infer}
use Rattle.jn_base.specs.declared.refusal.OutOfMemory.{OutOfMemory as NoMemory}
use Rattle.jn_outside.specs.declared.given.Given.{Given}
use Rattle.jn_outside.specs.Files.{Holding}
use Rattle.jn_outside.specs.Sink.{Appends}
use Rattle.jn_front.specs.declared.source.SourceFile.{SourceFile}
use Rattle.jn_front.specs.declared.source.SourceRead.{SourceRead}
use Rattle.jn_front.specs.Files.{names_of, most_files, StartsOnly, AllHeld, AreReads}
use Rattle.jn_command.specs.declared.status.Status.{Status}
use Rattle.jn_command.specs.declared.status.Status.TheVariants.{Ok, Rejected, Refused as RefusedStatus, RunFault, Stopped, ReadFault, WriteFault, OutOfMemory, Usage}
use Rattle.jn_command.specs.declared.output.Output.{Output}
use Rattle.jn_asked.specs.Asked.{Asked, usage_line}
use Rattle.jn_command.specs.Made.{front_of, made_line, made_text}
use Rattle.jn_command.specs.declared.noted.Noted.{Noted}
use Rattle.jn_command.specs.declared.report.Report.{Report}
use Rattle.jn_command.specs.declared.report.Report.TheVariants.{Refused, Checked}
use Rattle.jn_command.specs.Reports.{status_of}
use Rattle.jn_command.specs.Status.{IsAcceptance}
use Rattle.jn_command.specs.Shown.{shown_noted}
use Rattle.jn_command.specs.Answer.{Reading, Finished}
use Rattle.nullcheck_top.specs.CommandAnswer.{AreChecked, ReadsFew, ReadsFiles, ReadsNone, ReadsNothing, HoldsFiles, Starts, names_read, AreShownNotes, IsReportOfFiles, IsOutputBy, IsOutputOfFiles, IsOutputOf, Defines, Answers, AnswersFiles, Completes, Safe}
use Rattle.jn_command.specs.Outputs.{IfMade}
use Rattle.jn_command.proofs.Ending.{Written, Ends}
use Rattle.nullcheck_top.specs.Answers.{AsksRun}

pub report_written : (r : Report) → Written (status_of r)
report_written (Refused rows) = tt
report_written (Checked []) = tt
report_written (Checked (row ∷ rows)) = tt

never_refused : RefusedStatus ≡ Ok → ⊥
never_refused e = cc

never_rejected : Rejected ≡ Ok → ⊥
never_rejected e = cc

-- files are accepted where they are checked without a row
accepted_rows : (report : Report) → status_of report ≡ Ok → report ≡ Checked []
accepted_rows (Refused rows) e = absurd (never_refused e)
accepted_rows (Checked []) e = refl
accepted_rows (Checked (row ∷ rows)) e = absurd (never_rejected e)

-- a report with the status of acceptance
accepting : (report : Report) → IsAcceptance (status_of report) → status_of report ≡ Ok
accepting (Refused rows) a = absurd a
accepting (Checked []) a = refl
accepting (Checked (row ∷ rows)) a = absurd a

-- files of these names without bytes
pub files_named : List (List ℕ) → List SourceFile
files_named [] = []
files_named (name ∷ names) = record { name = name; bytes = [] } ∷ files_named names

pub named_are : (names : List (List ℕ)) → names_of (files_named names) ≡ names
unfolding files_named
named_are [] = refl
named_are (name ∷ names) = ap (λ ns. name ∷ ns) (named_are names)

module _ (IsReport : Infer → List SourceFile → Report → Type 0) (AreNotes : Infer → List SourceFile → Report → List Noted → Type 0) (IsSafe : Infer → List SourceFile → Type 0) (RunsTo : Infer → List SourceFile → List (List ℕ) → ℕ → Status → List ℕ → Type 0) (Prints : Infer → List SourceFile → List (List ℕ) → ℕ → List ℕ → Type 0) where
  abbrev Answer : Reading → Option Asked → Option (List ℕ) → Option (List ℕ) → Status → Type 0
  Answer = Answers IsReport AreNotes IsSafe RunsTo Prints

  abbrev FilesAnswer : Asked → List SourceFile → Option (List ℕ) → Option (List ℕ) → Status → Type 0
  FilesAnswer = AnswersFiles IsReport AreNotes IsSafe RunsTo Prints

  abbrev FilesOutput : Asked → List SourceFile → Status → List ℕ → Type 0
  FilesOutput = IsOutputOfFiles IsReport AreNotes IsSafe RunsTo Prints

  abbrev OutputBy : Asked → List SourceFile → Bool → Status → List ℕ → Type 0
  OutputBy = IsOutputBy IsReport AreNotes IsSafe RunsTo Prints

  abbrev OutputOf : Reading → Asked → Status → List ℕ → Type 0
  OutputOf = IsOutputOf IsReport AreNotes IsSafe RunsTo Prints

  -- what answers the files that are checked answers what is asked for
  pub of_files : (read : Reading) (a : Asked) (files : List SourceFile) (old new : Option (List ℕ)) (result : Status) → AreChecked read a.command.classes a.command.files files → FilesAnswer a files old new result → Answer read (Some a) old new result
  of_files read a files old new Ok are w = (w.0, record { files = files; are = are; output = w.1 }, w.2)
  of_files read a files old new Rejected are w = (w.0, record { files = files; are = are; output = w.1 }, w.2)
  of_files read a files old new RefusedStatus are w = (w.0, record { files = files; are = are; output = w.1 }, w.2)
  of_files read a files old new RunFault are w = (w.0, record { files = files; are = are; output = w.1 }, w.2)
  of_files read a files old new Stopped are w = (w.0, record { files = files; are = are; output = w.1 }, w.2)
  of_files read a files old new Usage are w = (w.0, record { files = files; are = are; output = w.1 }, w.2)
  of_files read a files old new ReadFault are w = absurd w
  of_files read a files old new WriteFault are w = (w.0, w.1, record { files = files; are = are; output = w.2 }, w.3)
  of_files read a files old new OutOfMemory are (inl same) = inl same
  of_files read a files old new OutOfMemory are (inr steps) = inr (record { files = files; are = are; steps = steps })

  -- files' answer is no read fault
  pub never_read : (a : Asked) (files : List SourceFile) (old new : Option (List ℕ)) (result : Status) → FilesAnswer a files old new result → result ≡ ReadFault → ⊥
  never_read a files old new result w e = subst (λ r. FilesAnswer a files old new r) e w

  -- ---- a report

  whole : (a : Asked) (files : List SourceFile) (old new : Option (List ℕ)) (bytes : List ℕ) (status : Status) → Written status → FilesOutput a files status bytes → Appends old new bytes → FilesAnswer a files old new status
  whole a files old new bytes Ok w s t = (bytes, s, t)
  whole a files old new bytes Rejected w s t = (bytes, s, t)
  whole a files old new bytes RefusedStatus w s t = (bytes, s, t)
  whole a files old new bytes Usage w s t = (bytes, s, t)
  whole a files old new bytes RunFault w s t = absurd w
  whole a files old new bytes Stopped w s t = absurd w
  whole a files old new bytes ReadFault w s t = absurd w
  whole a files old new bytes WriteFault w s t = absurd w
  whole a files old new bytes OutOfMemory w s t = absurd w

  -- the output of files, if one was made
  abbrev pub MadeFor : Asked → List SourceFile → Result Output NoMemory → Type 0
  MadeFor a files made = IfMade made (λ status bytes. Written status × FilesOutput a files status bytes) (Unit {0})

  pub answers_files : (a : Asked) (files : List SourceFile) (old new : Option (List ℕ)) (before now : ℕ) (result : Status) (made : Result Output NoMemory) → MadeFor a files made → Ends old new before now result made → FilesAnswer a files old new result
  answers_files a files old new before now result (Made o) m (inl p) = subst (λ r. FilesAnswer a files old new r) (sym p.0) (whole a files old new o.bytes o.status m.0 m.1 p.1)
  answers_files a files old new before now result (Made o) m (inr p) = subst (λ r. FilesAnswer a files old new r) (sym p.0) (o.status, o.bytes, m.1, p.1)
  answers_files a files old new before now result (Err e) m f = subst (λ r. FilesAnswer a files old new r) (sym f.0) (inl f.1)

  module _ (a : Asked) (files : List SourceFile) (report : Report) (status : Status) (bytes : List ℕ) (is : IsReport a.command.infer files report) (noted : List Noted) (notes : AreShownNotes AreNotes a.notes a.command.infer files report noted) (ends : status ≡ status_of report) (shows : bytes ≡ front_of a.document a.command.classes ++ shown_noted a.show files report noted) (safe : report ≡ Checked [] → IsSafe a.command.infer files) where
    shown_by : (b : Bool) → (b ≡ true → report ≡ Checked [] → ⊥) → OutputBy a files b status bytes
    shown_by false apart = record { report = report; is = is; noted = noted; notes = notes; ends = ends; shows = shows; safe = λ ok. safe (accepted_rows report (sym ends ∙ ok)) }
    shown_by true apart = inl (record { report = report; is = is; noted = noted; notes = notes; ends = ends; shows = shows; safe = λ ok. safe (accepted_rows report (sym ends ∙ ok)) }, λ ok. apart refl (accepted_rows report (sym ends ∙ ok)))

    -- a report that is shown: where a run is asked for, that of files that aren't accepted
    pub report_shown : (a.command.run ≡ true → report ≡ Checked [] → ⊥) → Written status × FilesOutput a files status bytes
    report_shown apart = (subst Written (sym ends) (report_written report), shown_by a.command.run apart)

  -- these bytes are the report's of the files, after the front, with the notes that are shown
  abbrev pub ShowsNoted : Asked → List SourceFile → Report → List ℕ → List ℕ → Type 0
  ShowsNoted a files report front bytes = (noted : List Noted) × AreShownNotes AreNotes a.notes a.command.infer files report noted × (bytes ≡ front ++ shown_noted a.show files report noted)

  pub shown_made : (a : Asked) (files : List SourceFile) (reads : List SourceRead) (report : Report) (front : List ℕ) (made : Result Output NoMemory) → AreReads reads files → front ≡ front_of a.document a.command.classes → IsReport a.command.infer files report → (report ≡ Checked [] → IsSafe a.command.infer files) → (a.command.run ≡ true → report ≡ Checked [] → ⊥) → IfOk made (λ o. o.status ≡ status_of report) → IfOk made (λ o. (files : List SourceFile) → AreReads reads files → ShowsNoted a files report front o.bytes) → MadeFor a files made
  shown_made a files reads report front (Made o) are same is safe apart status bytes =
      let shows = bytes files are in
      report_shown a files report o.status o.bytes is shows.0 shows.1 status (shows.2 ∙ ap (λ xs. xs ++ shown_noted a.show files report shows.0) same) safe apart
  shown_made a files reads report front (Err e) are same is safe apart status bytes = tt

  -- the words are not those of a command
  pub usage : (read : Reading) (asked : Option Asked) (old new : Option (List ℕ)) (bytes : List ℕ) (before now : ℕ) (result : Status) → asked ≡ None → bytes ≡ usage_line → Finished old new bytes Usage before now result → Answer read asked old new result
  usage read asked old new bytes before now result e b f = subst (λ x. Answer read x old new result) (sym e) (finished f)
    where
      finished : Finished old new bytes Usage before now result → Answer read None old new result
      finished (inl p) = subst (λ r. Answer read None old new r) (sym p.0) (bytes, (refl, b), p.1)
      finished (inr p) = subst (λ r. Answer read None old new r) (sym p.0) (Usage, bytes, (refl, b), p.1)

  -- ---- what an answer says

  pub completes : (read : Reading) (asked : Option Asked) (old new : Option (List ℕ)) (result : Status) → Answer read asked old new result → (result ≡ ReadFault → ⊥) → (result ≡ WriteFault → ⊥) → Completes IsReport AreNotes IsSafe RunsTo Prints read asked old new result
  completes read None old new result w reads writes = tt
  completes read (Some a) old new Ok w reads writes = inr w
  completes read (Some a) old new Rejected w reads writes = inr w
  completes read (Some a) old new RefusedStatus w reads writes = inr w
  completes read (Some a) old new RunFault w reads writes = inr w
  completes read (Some a) old new Stopped w reads writes = inr w
  completes read (Some a) old new Usage w reads writes = inr w
  completes read (Some a) old new ReadFault w reads writes = absurd (reads refl)
  completes read (Some a) old new WriteFault w reads writes = absurd (writes refl)
  completes read (Some a) old new OutOfMemory w reads writes = inl refl

  -- where no run is asked for, nothing was written after want of memory
  pub nothing : (read : Reading) (asked : Option Asked) (old new : Option (List ℕ)) (result : Status) → Answer read asked old new result → result ≡ OutOfMemory → (AsksRun asked → ⊥) → new ≡ old
  nothing read asked old new result w e no_run = by asked (subst (λ r. Answer read asked old new r) e w) no_run
    where
      by : (asked : Option Asked) → Answer read asked old new OutOfMemory → (AsksRun asked → ⊥) → new ≡ old
      by None (inl same) no_run = same
      by None (inr part) no_run = absurd part
      by (Some a) (inl same) no_run = same
      by (Some a) (inr part) no_run = absurd (no_run part.steps.run)

  report_safe : (a : Asked) (files : List SourceFile) (status : Status) (bytes : List ℕ) → IsAcceptance status → IsReportOfFiles IsReport AreNotes IsSafe RunsTo Prints a files status bytes → IsSafe a.command.infer files
  report_safe a files status bytes accepts r = r.safe (r.ends ∙ accepting r.report (subst IsAcceptance r.ends accepts))

  output_safe : (a : Asked) (files : List SourceFile) (b : Bool) (status : Status) (bytes : List ℕ) → IsAcceptance status → OutputBy a files b status bytes → IsSafe a.command.infer files
  output_safe a files false status bytes accepts r = report_safe a files status bytes accepts r
  output_safe a files true status bytes accepts (inl r) = report_safe a files status bytes accepts r.0
  output_safe a files true status bytes accepts (inr r) = r.safe

  defined_safe : (read : Reading) (asked : Option Asked) (status : Status) (bytes : List ℕ) → IsAcceptance status → Defines IsReport AreNotes IsSafe RunsTo Prints read asked status bytes → Safe IsReport AreNotes IsSafe RunsTo Prints read asked
  defined_safe read None status bytes accepts d = absurd (subst IsAcceptance d.0 accepts)
  defined_safe read (Some a) status bytes accepts d = record { files = d.files; are = d.are; safe = output_safe a d.files a.command.run status bytes accepts d.output }

  -- an answer that accepts has the files that are checked, and they are safe
  pub safe : (read : Reading) (asked : Option Asked) (old new : Option (List ℕ)) (result : Status) → Answer read asked old new result → IsAcceptance result → Safe IsReport AreNotes IsSafe RunsTo Prints read asked
  safe read asked old new Ok w accepts = defined_safe read asked Ok w.0 accepts w.1
  safe read asked old new RunFault w accepts = defined_safe read asked RunFault w.0 accepts w.1
  safe read asked old new Stopped w accepts = defined_safe read asked Stopped w.0 accepts w.1
  safe read asked old new Rejected w accepts = absurd accepts
  safe read asked old new RefusedStatus w accepts = absurd accepts
  safe read asked old new Usage w accepts = absurd accepts
  safe read asked old new ReadFault w accepts = absurd accepts
  safe read asked old new WriteFault w accepts = absurd accepts
  safe read asked old new OutOfMemory w accepts = absurd accepts

pub status_written : (report : Report) (made : Result Output NoMemory) → IfOk made (λ o. o.status ≡ status_of report) → IfMade made (λ status bytes. Written status) (Unit {0})
status_written report (Made o) status = subst Written (sym status) (report_written report)
status_written report (Err e) status = tt

-- nothing was started
pub starts_none : (names : List (List ℕ)) (before now : List Given) → now ≡ before → StartsOnly names before now
starts_none names before now same = record { added = []; gave = same ∙ sym (append-nil before); named = refl }

-- the files of a command that makes no program
abbrev Named : Asked → List (List ℕ) → Type 0
Named a names = (a.command.classes ≡ 0) × (names ≡ a.command.files)

pub starts_named : (a : Asked) (names : List (List ℕ)) (before now : List Given) → Named a names → StartsOnly names before now → Starts (Some a) before now
starts_named a names before now (none, named) starts = subst (λ n. StartsOnly (names_read n a.command.files) before now) (sym none) (subst (λ ns. StartsOnly ns before now) named starts)

pub held_named : (held : Option Holding) (a : Asked) (names : List (List ℕ)) → Named a names → HoldsFiles held (Some a) → AllHeld held names
held_named held a names (none, named) all = subst (λ ns. AllHeld held ns) (sym named) (subst (λ n. AllHeld held (names_read n a.command.files)) none all)

pub many_named : (a : Asked) (names : List (List ℕ)) → Named a names → ReadsNothing (Some a) → most_files < length names
many_named a names (none, named) many = subst (λ (ns : List (List ℕ)). most_files < length ns) (sym named) (subst (λ n. ReadsNone n a.command.files) none many)

pub few_named : (a : Asked) (names : List (List ℕ)) → Named a names → length names ≤ most_files → ReadsFiles (Some a)
few_named a names (none, named) few = subst (λ n. ReadsFew n a.command.files) (sym none) (subst (λ (ns : List (List ℕ)). length ns ≤ most_files) named few)

pub starts_made : (a : Asked) (before : List Given) → (a.command.classes ≡ 0 → ⊥) → Starts (Some a) before before
starts_made a before some = by_cases a.command.classes some
  where
    by_cases : (n : ℕ) → (n ≡ 0 → ⊥) → StartsOnly (names_read n a.command.files) before before
    by_cases zero some = absurd (some refl)
    by_cases (suc n) some = starts_none [] before before refl

-- the line before the report of a program
pub made_front : (document : Bool) (n size : ℕ) (text front : List ℕ) → 1 ≤ n → text ≡ made_text n → size ≡ length text → front ≡ made_line document n size → front ≡ front_of document n
made_front document zero size text front some is long line = absurd (omega (arith, some))
made_front document (suc n) size text front some is long line = line ∙ ap (λ k. made_line document (suc n) k) (long ∙ ap length is)
