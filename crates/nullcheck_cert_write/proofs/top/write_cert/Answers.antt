use Rattle.std.proofs.Common.{ap, map, refl, subst}
use Rattle.std.specs.Prelude.{string_bytes}
use Rattle.jn_command.specs.Answer.{reading}
use Rattle.nullcheck_cert_check.proofs.Lent.{lent, refused}
use Rattle.nullcheck_cert_write.specs.Answer.{Answers, outcome}
use Rattle.nullcheck_cert_write.specs.Words.{write_asked}
use Rattle.nullcheck_cert_write.proofs.Telling.{unread, usage}
use Rattle.nullcheck_cert_write.proofs.top.write_cert.Goals as goal

pub returns-in-Err-Refused-clause-answer : goal.returns-in-Err-Refused-clause-answer
returns-in-Err-Refused-clause-answer g c =
    let stored = g.T.Targets.replaced c.args.target.now in
    let gave = g.F.Files.gave c.args.files.now in
    usage (reading (g.F.Files.held c.args.files.now) gave gave) (write_asked (map string_bytes c.args.words.now)) (outcome (g.K.Sink.written c.args.out.now) (g.K.Sink.written c.finish.new.out) stored stored) c.as_bytes.result.now (g.K.Sink.faults c.args.out.now) (g.K.Sink.faults c.finish.new.out) c.finish.result (refused _ _ _ c.in-Err-Refused.field-0-is c.in-Err-Refused.ensures.usage) c.as_bytes.ensures.value refl c.finish.ensures

pub returns-in-Err-OutOfMemory-clause-answer : goal.returns-in-Err-OutOfMemory-clause-answer
returns-in-Err-OutOfMemory-clause-answer g c =
    let stored = g.T.Targets.replaced c.args.target.now in
    let gave = g.F.Files.gave c.args.files.now in
    let written = g.K.Sink.written c.args.out.now in
    unread (reading (g.F.Files.held c.args.files.now) gave gave) (write_asked (map string_bytes c.args.words.now)) (outcome written written stored stored) refl refl

pub returns-in-Ok-clause-answer : goal.returns-in-Ok-clause-answer
returns-in-Ok-clause-answer g c =
    let is = lent (write_asked (map string_bytes c.args.words.now)) c.in-Ok.command.infer (string_bytes c.in-Ok.command.cert) c.as_str.result.now (map string_bytes c.in-Ok.command.files.items) (map string_bytes c.deref.result.now) c.in-Ok.ensures.asked c.as_str.ensures.value (ap (map string_bytes) c.deref.ensures.value) in
    subst (λ asked. Answers (reading (g.F.Files.held c.args.files.now) (g.F.Files.gave c.args.files.now) (g.F.Files.gave c.answer_command.new.files)) asked (outcome (g.K.Sink.written c.args.out.now) (g.K.Sink.written c.answer_command.new.out) (g.T.Targets.replaced c.args.target.now) (g.T.Targets.replaced c.answer_command.new.target)) c.answer_command.result) is c.answer_command.ensures.answer
