-- Runs of accepted files: what is written of them answers the command, and there is one.
use Rattle.std.proofs.Common.{◌≡◌, ◌++◌, ℕ, true, List, [], Option, Some, inl, inr, sym, ap, ◌∙◌, subst}
use Rattle.jn_points.specs.declared.point.Point.{Point}
use Rattle.jn_points.specs.declared.program.Program.{Program}
use Rattle.jn_points.specs.Lookup.{body_of}
use Rattle.jn_heap.specs.Values.{usual_limits}
use Rattle.jn_heap.specs.State.{Next, Goes, Ends, Stuck}
use Rattle.jn_heap.specs.Runs.{MainForm, run, start_state}
use Rattle.jn_front.specs.declared.source.SourceFile.{SourceFile}
use Rattle.jn_command.specs.declared.report.Report.TheVariants.{Checked}
use Rattle.jn_command.specs.declared.status.Status.{Status}
use Rattle.jn_command.specs.declared.status.Status.TheVariants.{Ok, Rejected, Refused, RunFault, Stopped, ReadFault, WriteFault, OutOfMemory, Usage}
use Rattle.jn_base.specs.declared.infer.Infer.{Infer}
use Rattle.jn_asked.specs.Asked.{Asked}
use Rattle.nullcheck_top.specs.CommandAnswer.{IsOutputBy, IsOutputOfFiles}
use Rattle.jn_run.specs.Line.{end_line}
use Rattle.jn_run.specs.Main.{Answers as RunAnswers, IsToldBy, Runs, RunsTo as ProgramRunsTo}
use Rattle.nullcheck_top.specs.Answers.{AnswersFiles}
use Rattle.jn_phases.specs.Phases.{TypedProgramOf}
use Rattle.jn_report.specs.Report.{IsReport}
use Rattle.jn_safe_files.specs.Safe.{IsSafe}
use Rattle.nullcheck_top.specs.Report.{AreNotes, RunsTo, Prints}
use Rattle.jn_phases.proofs.OneTyping.{OneReading, one_program}

module _ (a : Asked) (files : List SourceFile) (names : List (List ℕ)) (P : Program) (asked_to : a.command.run ≡ true) (accepted : IsReport a.command.infer files (Checked [])) (safe : IsSafe a.command.infer files) (of_files : TypedProgramOf a.command.infer files names P) where
  output : (status : Status) (bytes : List ℕ) → ProgramRunsTo files P names a.command.args a.command.steps status bytes → IsOutputOfFiles IsReport AreNotes IsSafe RunsTo Prints a files status bytes
  output status bytes r =
      subst (λ b. IsOutputBy IsReport AreNotes IsSafe RunsTo Prints a files b status bytes) (sym asked_to)
      (inr (record { accepted = accepted; safe = safe; runs = record { names = names; P = P; of_files = of_files; runs = r } }))

  -- what is written of the run answers the command
  pub run_answers : (old new : Option (List ℕ)) (result : Status) → RunAnswers files P names a.command.args a.command.steps old new result → AnswersFiles a files old new result
  run_answers old new Ok w = (w.0, output Ok w.0 w.1, w.2)
  run_answers old new Refused w = (w.0, output Refused w.0 w.1, w.2)
  run_answers old new RunFault w = (w.0, output RunFault w.0 w.1, w.2)
  run_answers old new Stopped w = (w.0, output Stopped w.0 w.1, w.2)
  run_answers old new WriteFault w = (w.0, w.1, output w.0 w.1 w.2, w.3)
  run_answers old new OutOfMemory w =
      inr (record { run = asked_to; accepted = accepted; safe = safe; steps = w.0; most = w.2; text = w.1; prints = record { names = names; P = P; of_files = of_files; prints = w.3 }; taken = w.4 })
  run_answers old new Rejected w = absurd w
  run_answers old new ReadFault w = absurd w
  run_answers old new Usage w = absurd w

-- ---- one run

same_some : (b c : ℕ) → Some b ≡ Some c → b ≡ c
same_some b c e = cc

same_point : (p q : Point) → Some p ≡ Some q → p ≡ q
same_point p q e = cc

one_body : (P : Program) (m b c : ℕ) → MainForm P m b → MainForm P m c → b ≡ c
one_body P m b c x y = same_some b c (sym x.body ∙ ap body_of (sym x.there ∙ y.there) ∙ y.body)

told_once : (files : List SourceFile) (P : Program) (next : Next) (one other : Status) (text more : List ℕ) → IsToldBy files P next one text → IsToldBy files P next other more → (one ≡ other) × (text ≡ more)
told_once files P (Goes st) one other text more x y = (x.0 ∙ sym y.0, x.1 ∙ sym y.1)
told_once files P (Ends e st) one other text more x y =
    let point = same_point x.0 y.0 (sym x.1 ∙ y.1) in
    (x.2 ∙ sym y.2, x.3 ∙ ap (λ (p : Point). st.out ++ end_line files e p.span) point ∙ sym y.3)
told_once files P Stuck one other text more x y = absurd x

module _ (files : List SourceFile) (P : Program) (names words : List (List ℕ)) (steps : ℕ) (one other : Status) (text more : List ℕ) where
  mains_once : (x : Runs files P names words steps one text) (y : Runs files P names words steps other more) → (one ≡ other) × (text ≡ more)
  mains_once x y =
      let method = x.only.1 y.method y.only.0 in
      let body = one_body P x.method y.body x.body (subst (λ m. MainForm P m y.body) method y.main) x.main in
      told_once files P (run P names (Goes (start_state P usual_limits x.body words)) steps) one other text more x.told
      (subst (λ b. IsToldBy files P (run P names (Goes (start_state P usual_limits b words)) steps) other more) body y.told)

  runs_once : ProgramRunsTo files P names words steps one text → ProgramRunsTo files P names words steps other more → (one ≡ other) × (text ≡ more)
  runs_once (inl x) (inl y) = mains_once x y
  runs_once (inl x) (inr y) = absurd (y.none x.method x.only)
  runs_once (inr x) (inl y) = absurd (x.none y.method y.only)
  runs_once (inr x) (inr y) = (x.refused ∙ sym y.refused, x.line ∙ sym y.line)

pub one_run : (infer : Infer) → OneReading → (files : List SourceFile) (words : List (List ℕ)) (steps : ℕ) (one other : Status) (text more : List ℕ) → RunsTo infer files words steps one text → RunsTo infer files words steps other more → (one ≡ other) × (text ≡ more)
one_run infer parsed files words steps one other text more x y =
    let same = one_program infer parsed files x.names y.names x.P y.P x.of_files.of_files y.of_files.of_files in
    runs_once files y.P y.names words steps one other text more
    (subst (λ P. ProgramRunsTo files P y.names words steps one text) same.1 (subst (λ ns. ProgramRunsTo files x.P ns words steps one text) same.0 x.runs))
    y.runs
