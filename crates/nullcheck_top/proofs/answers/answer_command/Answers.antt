use Rattle.std.proofs.Common.{[], ◌∷◌}
use Rattle.jn_asked.specs.Asked.{asked_with}
use Rattle.jn_command.specs.Answer.{reading}
use Rattle.jn_command.specs.Made.{made_file, made_text}
use Rattle.jn_report.specs.Report.{IsReport}
use Rattle.jn_safe_files.specs.Safe.{IsSafe}
use Rattle.nullcheck_top.specs.Report.{AreNotes, RunsTo, Prints}
use Rattle.nullcheck_top.proofs.Answering.{checked_made}
use Rattle.nullcheck_top.proofs.Written.{of_files, never_read}
use Rattle.nullcheck_top.proofs.answers.answer_command.Goals as goal

pub returns-then-command-ne0-clause-answer : goal.returns-then-command-ne0-clause-answer
returns-then-command-ne0-clause-answer g c =
    let read = reading (g.F.Files.held c.args.files.now) (g.F.Files.gave c.args.files.now) (g.F.Files.gave c.args.files.now) in
    let a = asked_with c.args.command.now (g.P.Reporter.form c.args.reporter) in
    let n = c.args.command.now.classes in
    of_files IsReport AreNotes IsSafe RunsTo Prints read a (made_file (made_text n) ∷ []) (g.K.Sink.written c.args.out.now) (g.K.Sink.written c.answer_made.new.out) c.answer_made.result (checked_made read n c.args.command.now.files c.if-command-ne0.true) c.answer_made.ensures.answer

pub returns-then-command-ne0-clause-read : goal.returns-then-command-ne0-clause-read
returns-then-command-ne0-clause-read g c e =
    let a = asked_with c.args.command.now (g.P.Reporter.form c.args.reporter) in
    absurd (never_read IsReport AreNotes IsSafe RunsTo Prints a (made_file (made_text c.args.command.now.classes) ∷ []) (g.K.Sink.written c.args.out.now) (g.K.Sink.written c.answer_made.new.out) c.answer_made.result c.answer_made.ensures.answer e)

pub returns-then-command-ne0-clause-read_steady : goal.returns-then-command-ne0-clause-read_steady
returns-then-command-ne0-clause-read_steady g c steady all e =
    let a = asked_with c.args.command.now (g.P.Reporter.form c.args.reporter) in
    never_read IsReport AreNotes IsSafe RunsTo Prints a (made_file (made_text c.args.command.now.classes) ∷ []) (g.K.Sink.written c.args.out.now) (g.K.Sink.written c.answer_made.new.out) c.answer_made.result c.answer_made.ensures.answer e
