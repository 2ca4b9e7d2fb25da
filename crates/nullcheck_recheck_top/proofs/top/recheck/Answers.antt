use Rattle.std.proofs.Common.{map, refl, subst}
use Rattle.std.specs.Prelude.{string_bytes}
use Rattle.jn_cli.specs.Recheck.{asked_of}
use Rattle.jn_command.specs.Answer.{reading}
use Rattle.nullcheck_recheck_top.specs.Answer.{Answers, Starts}
use Rattle.nullcheck_recheck_top.proofs.Wording.{lent, refused, unread, usage}
use Rattle.nullcheck_recheck_top.proofs.top.recheck.Goals as goal

pub returns-in-Err-Refused-clause-answer : goal.returns-in-Err-Refused-clause-answer
returns-in-Err-Refused-clause-answer g c =
    let gave = g.F.Files.gave c.args.files.now in
    usage (reading (g.F.Files.held c.args.files.now) gave gave) (asked_of (map string_bytes c.args.words.now)) (g.K.Sink.written c.args.out.now) (g.K.Sink.written c.finish.new.out) c.as_bytes.result.now (g.K.Sink.faults c.args.out.now) (g.K.Sink.faults c.finish.new.out) c.finish.result (refused _ _ _ c.in-Err-Refused.field-0-is c.in-Err-Refused.ensures.usage) c.as_bytes.ensures.value c.finish.ensures

pub returns-in-Err-OutOfMemory-clause-answer : goal.returns-in-Err-OutOfMemory-clause-answer
returns-in-Err-OutOfMemory-clause-answer g c =
    let gave = g.F.Files.gave c.args.files.now in
    unread (reading (g.F.Files.held c.args.files.now) gave gave) (asked_of (map string_bytes c.args.words.now)) (g.K.Sink.written c.args.out.now) refl

pub returns-in-Ok-clause-answer : goal.returns-in-Ok-clause-answer
returns-in-Ok-clause-answer g c =
    let is = lent (asked_of (map string_bytes c.args.words.now)) c.in-Ok.asked c.as_str.result.now c.in-Ok.ensures.asked c.as_str.ensures in
    subst (λ asked. Answers (reading (g.F.Files.held c.args.files.now) (g.F.Files.gave c.args.files.now) (g.F.Files.gave c.answer_named.new.files)) asked (g.K.Sink.written c.args.out.now) (g.K.Sink.written c.answer_named.new.out) c.answer_named.result) is c.answer_named.ensures.answer

pub returns-in-Ok-clause-starts : goal.returns-in-Ok-clause-starts
returns-in-Ok-clause-starts g c =
    let is = lent (asked_of (map string_bytes c.args.words.now)) c.in-Ok.asked c.as_str.result.now c.in-Ok.ensures.asked c.as_str.ensures in
    subst (λ asked. Starts (g.F.Files.held c.args.files.now) asked (g.F.Files.gave c.args.files.now) (g.F.Files.gave c.answer_named.new.files)) is c.answer_named.ensures.starts
