use Rattle.std.proofs.Common.{List, [], map, sym, subst}
use Rattle.std.proofs.lemmas.Result.{IfOk-weaker}
use Rattle.jn_asked.specs.Asked.{asked_with}
use Rattle.jn_run.specs.Main.{Answers as RunAnswers}
use Rattle.jn_trees.specs.declared.declaration.FileTree.{FileTree}
use Rattle.jn_places.specs.PlacedView.{placed_file}
use Rattle.nullcheck_top.specs.Found.{AreAtHand, IsAtHand}
use Rattle.jn_report.specs.Report.{IsReport}
use Rattle.jn_safe_files.specs.Safe.{IsSafe}
use Rattle.nullcheck_top.specs.Report.{AreNotes, RunsTo, Prints}
use Rattle.nullcheck_top.proofs.Running.{run_answers}
use Rattle.jn_command.proofs.Ending.{no_fault}
use Rattle.nullcheck_top.proofs.Written.{answers_files, shown_made, status_written}
use Rattle.nullcheck_top.proofs.answers.answer_checked.Goals as goal

pub returns-in-Some-clause-answer : goal.returns-in-Some-clause-answer
returns-in-Some-clause-answer g c files are =
    let accepted = c.in-Some.accepted.now in
    let names = c.args.checked.now.names in
    let finding = c.requires.found files are in
    let of_files = subst (IsAtHand c.args.command.now.infer files names c.args.checked.now.found.report) c.in-Some.ensures.1 finding.accepted in
    let old = g.K.Sink.written c.args.out.now in
    let new = g.K.Sink.written c.run_files.new.out in
    let ran = subst (λ fs. RunAnswers fs accepted.0 names c.as_slice.result.now c.args.command.now.steps old new c.run_files.result) (c.requires.whole [] of_files.0 files are) c.run_files.ensures.answer in
    let told = subst (λ words. RunAnswers files accepted.0 names words c.args.command.now.steps old new c.run_files.result) c.as_slice.ensures ran in
    run_answers (asked_with c.args.command.now (g.P.Reporter.form c.args.reporter)) files names accepted.0 c.in-Some.ensures.0 (subst (IsReport c.args.command.now.infer files) of_files.0 finding.report) (c.requires.safe of_files.0 files are) of_files.1 old new c.run_files.result told

pub returns-in-None-clause-answer : goal.returns-in-None-clause-answer
returns-in-None-clause-answer g c files are =
    let a = asked_with c.args.command.now (g.P.Reporter.form c.args.reporter) in
    let report = c.args.checked.now.found.report in
    let finding = c.requires.found files are in
    let made = shown_made IsReport AreNotes IsSafe RunsTo Prints a files c.args.reads.now report c.args.front.now c.report_output.result are c.requires.front finding.report (λ none. c.requires.safe none files are) (λ run. subst (IsAtHand c.args.command.now.infer files c.args.checked.now.names report) (c.in-None.ensures run) finding.accepted) c.report_output.ensures.status (IfOk-weaker c.report_output.result _ _ (λ o h fs rs. h c.args.command.now.infer fs rs (c.requires.found fs rs)) c.report_output.ensures.bytes) in
    answers_files IsReport AreNotes IsSafe RunsTo Prints a files (g.K.Sink.written c.args.out.now) (g.K.Sink.written c.write.new.out) (g.K.Sink.faults c.args.out.now) (g.K.Sink.faults c.write.new.out) c.write.result c.report_output.result made c.write.ensures

pub returns-in-None-clause-write : goal.returns-in-None-clause-write
returns-in-None-clause-write g c e =
    no_fault (g.K.Sink.written c.args.out.now) (g.K.Sink.written c.write.new.out) (g.K.Sink.faults c.args.out.now) (g.K.Sink.faults c.write.new.out) c.write.result c.report_output.result (status_written c.args.checked.now.found.report c.report_output.result c.report_output.ensures.status) c.write.ensures e

pub report_output-requires-clause-found : goal.report_output-requires-clause-found
report_output-requires-clause-found g c κs lives = (c.args.command.now.infer, c.requires.found)

pub report_output-requires-clause-trees : goal.report_output-requires-clause-trees
report_output-requires-clause-trees g c κs lives = subst (λ (ts : List FileTree). AreAtHand c.args.reads.now c.args.checked.now.found.report c.args.checked.now.names (map placed_file ts)) (sym c.deref.ensures.value) c.requires.trees
