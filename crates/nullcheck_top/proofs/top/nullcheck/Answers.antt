use Rattle.std.proofs.Common.{sym, subst}
use Rattle.jn_command.specs.Answer.{reading}
use Rattle.jn_asked.proofs.Asking.{by_refused}
use Rattle.nullcheck_top.specs.Answers.{Answers}
use Rattle.jn_report.specs.Report.{IsReport}
use Rattle.jn_safe_files.specs.Safe.{IsSafe}
use Rattle.nullcheck_top.specs.Report.{AreNotes, RunsTo, Prints}
use Rattle.nullcheck_top.proofs.Written.{completes, nothing, safe, usage}
use Rattle.nullcheck_top.proofs.top.nullcheck.Goals as goal

pub returns-in-Ok-clause-answer : goal.returns-in-Ok-clause-answer
returns-in-Ok-clause-answer g c =
    subst (λ asked. Answers (reading (g.F.Files.held c.args.files.now) (g.F.Files.gave c.args.files.now) (g.F.Files.gave c.answer_command.new.files)) asked (g.K.Sink.written c.args.out.now) (g.K.Sink.written c.answer_command.new.out) c.answer_command.result) (sym c.in-Ok.ensures.asked) c.answer_command.ensures.answer

pub returns-in-Ok-clause-safe : goal.returns-in-Ok-clause-safe
returns-in-Ok-clause-safe g c accepts =
    safe IsReport AreNotes IsSafe RunsTo Prints (reading (g.F.Files.held c.args.files.now) (g.F.Files.gave c.args.files.now) (g.F.Files.gave c.answer_command.new.files)) _ (g.K.Sink.written c.args.out.now) (g.K.Sink.written c.answer_command.new.out) c.answer_command.result (returns-in-Ok-clause-answer g c) accepts

pub returns-in-Ok-clause-complete : goal.returns-in-Ok-clause-complete
returns-in-Ok-clause-complete g c quiet silent =
    completes IsReport AreNotes IsSafe RunsTo Prints (reading (g.F.Files.held c.args.files.now) (g.F.Files.gave c.args.files.now) (g.F.Files.gave c.answer_command.new.files)) _ (g.K.Sink.written c.args.out.now) (g.K.Sink.written c.answer_command.new.out) c.answer_command.result (returns-in-Ok-clause-answer g c) (λ e. quiet (c.answer_command.ensures.read e)) (λ e. silent (c.answer_command.ensures.write e))

pub returns-in-Err-Refused-clause-answer : goal.returns-in-Err-Refused-clause-answer
returns-in-Err-Refused-clause-answer g c =
    usage IsReport AreNotes IsSafe RunsTo Prints (reading (g.F.Files.held c.args.files.now) (g.F.Files.gave c.args.files.now) (g.F.Files.gave c.args.files.now)) _ (g.K.Sink.written c.args.out.now) (g.K.Sink.written c.finish.new.out) c.as_bytes.result.now _ _ c.finish.result (by_refused c.in-Err-Refused.field-0 _ c.in-Err-Refused.field-0-is c.in-Err-Refused.ensures.usage) c.as_bytes.ensures.value c.finish.ensures

pub returns-in-Ok-clause-nothing : goal.returns-in-Ok-clause-nothing
returns-in-Ok-clause-nothing g c none no_run =
    nothing IsReport AreNotes IsSafe RunsTo Prints (reading (g.F.Files.held c.args.files.now) (g.F.Files.gave c.args.files.now) (g.F.Files.gave c.answer_command.new.files)) _ (g.K.Sink.written c.args.out.now) (g.K.Sink.written c.answer_command.new.out) c.answer_command.result (returns-in-Ok-clause-answer g c) none no_run

pub returns-in-Err-Refused-clause-nothing : goal.returns-in-Err-Refused-clause-nothing
returns-in-Err-Refused-clause-nothing g c none no_run =
    nothing IsReport AreNotes IsSafe RunsTo Prints (reading (g.F.Files.held c.args.files.now) (g.F.Files.gave c.args.files.now) (g.F.Files.gave c.args.files.now)) _ (g.K.Sink.written c.args.out.now) (g.K.Sink.written c.finish.new.out) c.finish.result (returns-in-Err-Refused-clause-answer g c) none no_run
