use Rattle.std.proofs.Common.{refl, subst}
use Rattle.nullcheck_cert_write.specs.declared.made.CertMade.TheVariants.{Refused, Rejected, TooLarge}
use Rattle.nullcheck_cert_write.specs.Answer.{outcome}
use Rattle.nullcheck_cert_write.specs.Verdicts.{IsVerdict}
use Rattle.nullcheck_cert_write.proofs.Telling.{by_made, told_large, told_refused, told_rejected}
use Rattle.nullcheck_cert_write.proofs.outputs.tell.Goals as goal

pub returns-in-Refused-clause-answer : goal.returns-in-Refused-clause-answer
returns-in-Refused-clause-answer g c infer files are is =
    let K = g.K.Sink in
    let stored = g.T.Targets.replaced c.args.target.now in
    let rows = c.in-Refused.rows in
    let r = c.report_output in
    by_made infer c.args.name.now files (outcome (K.written c.args.out.now) (K.written c.write.new.out) stored stored) (Refused rows) (K.faults c.args.out.now) (K.faults c.write.new.out) c.write.result r.result (subst (IsVerdict infer files) c.in-Refused.is is) (told_refused c.args.name.now c.args.reads.now files rows r.result r.ensures.status r.ensures.bytes are) refl c.write.ensures

pub returns-in-Rejected-clause-answer : goal.returns-in-Rejected-clause-answer
returns-in-Rejected-clause-answer g c infer files are is =
    let K = g.K.Sink in
    let stored = g.T.Targets.replaced c.args.target.now in
    let rows = c.in-Rejected.rows in
    let r = c.report_output-in-Rejected in
    let verdict = subst (IsVerdict infer files) c.in-Rejected.is is in
    by_made infer c.args.name.now files (outcome (K.written c.args.out.now) (K.written c.write-in-Rejected.new.out) stored stored) (Rejected rows) (K.faults c.args.out.now) (K.faults c.write-in-Rejected.new.out) c.write-in-Rejected.result r.result verdict (told_rejected infer c.args.name.now c.args.reads.now files rows r.result verdict r.ensures.status r.ensures.bytes are) refl c.write-in-Rejected.ensures

pub returns-in-TooLarge-clause-answer : goal.returns-in-TooLarge-clause-answer
returns-in-TooLarge-clause-answer g c infer files are is =
    let K = g.K.Sink in
    let stored = g.T.Targets.replaced c.args.target.now in
    let r = c.large_output in
    by_made infer c.args.name.now files (outcome (K.written c.args.out.now) (K.written c.write-in-TooLarge.new.out) stored stored) TooLarge (K.faults c.args.out.now) (K.faults c.write-in-TooLarge.new.out) c.write-in-TooLarge.result r.result (subst (IsVerdict infer files) c.in-TooLarge.is is) (told_large c.args.name.now files r.result r.ensures.status r.ensures.bytes) refl c.write-in-TooLarge.ensures
