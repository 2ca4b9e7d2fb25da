use Rattle.nullcheck_recheck_top.proofs.Stepping.{check_taken}
use Rattle.nullcheck_recheck_top.proofs.step.check_step.Goals as goal

pub returns-in-Ok-check_output-clause-taken : goal.returns-in-Ok-check_output-clause-taken
returns-in-Ok-check_output-clause-taken g c held gave reads last =
    let k = c.in-Ok.checked in
    let o = c.in-Ok-check_output.output in
    check_taken held gave (g.K.Sink.written c.args.out.now) (g.K.Sink.written c.write_check.new.out) reads (g.K.Sink.faults c.args.out.now) (g.K.Sink.faults c.write_check.new.out) c.args.session.now c.report.new.self last k.rows.items k.places.items k.verdict k.files k.bodies o.bytes o.status c.write_check.result c.in-Ok.ensures.reports c.in-Ok-check_output.ensures.status c.in-Ok-check_output.ensures.bytes c.write_check.ensures.written
