use Rattle.std.proofs.Common.{ap, subst, map}
use Rattle.std.specs.Prelude.{codes, string_bytes}
use Rattle.jn_cli.specs.Cert.{asked_of}
use Rattle.jn_command.specs.Answer.{reading}
use Rattle.nullcheck_cert_check.specs.Answer.{Answers}
use Rattle.nullcheck_cert_check.proofs.Answering.{certified, uncertified, usage}
use Rattle.nullcheck_cert_check.proofs.Lent.{lent, refused}
use Rattle.nullcheck_cert_check.proofs.top.check.Goals as goal

pub returns-in-Err-Refused-clause-answer : goal.returns-in-Err-Refused-clause-answer
returns-in-Err-Refused-clause-answer g c =
    usage (reading (g.F.Files.held c.args.files.now) (g.F.Files.gave c.args.files.now) (g.F.Files.gave c.args.files.now)) (asked_of (codes "check") (map string_bytes c.args.words.now)) (g.K.Sink.written c.args.out.now) (g.K.Sink.written c.finish.new.out) c.as_bytes.result.now (g.K.Sink.faults c.args.out.now) (g.K.Sink.faults c.finish.new.out) c.finish.result (refused _ _ _ c.in-Err-Refused.field-0-is c.in-Err-Refused.ensures.usage) c.as_bytes.ensures.value c.finish.ensures

pub returns-in-Ok-clause-answer : goal.returns-in-Ok-clause-answer
returns-in-Ok-clause-answer g c =
    let is = lent (asked_of (codes "check") (map string_bytes c.args.words.now)) c.in-Ok.command.infer (string_bytes c.in-Ok.command.cert) c.as_str.result.now (map string_bytes c.in-Ok.command.files.items) (map string_bytes c.deref.result.now) c.in-Ok.ensures.asked c.as_str.ensures.value (ap (map string_bytes) c.deref.ensures.value) in
    subst (λ asked. Answers (reading (g.F.Files.held c.args.files.now) (g.F.Files.gave c.args.files.now) (g.F.Files.gave c.answer_command.new.files)) asked (g.K.Sink.written c.args.out.now) (g.K.Sink.written c.answer_command.new.out) c.answer_command.result) is c.answer_command.ensures.answer

pub returns-in-Ok-clause-certified : goal.returns-in-Ok-clause-certified
returns-in-Ok-clause-certified g c ok =
    certified (reading (g.F.Files.held c.args.files.now) (g.F.Files.gave c.args.files.now) (g.F.Files.gave c.answer_command.new.files)) (asked_of (codes "check") (map string_bytes c.args.words.now)) (g.K.Sink.written c.args.out.now) (g.K.Sink.written c.answer_command.new.out) c.answer_command.result (returns-in-Ok-clause-answer g c) ok

pub returns-in-Ok-clause-uncertified : goal.returns-in-Ok-clause-uncertified
returns-in-Ok-clause-uncertified g c rejected =
    uncertified (reading (g.F.Files.held c.args.files.now) (g.F.Files.gave c.args.files.now) (g.F.Files.gave c.answer_command.new.files)) (asked_of (codes "check") (map string_bytes c.args.words.now)) (g.K.Sink.written c.args.out.now) (g.K.Sink.written c.answer_command.new.out) c.answer_command.result (returns-in-Ok-clause-answer g c) rejected
