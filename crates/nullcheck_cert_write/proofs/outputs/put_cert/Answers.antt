use Rattle.std.proofs.Common.{sym, refl, ◌∙◌}
use Rattle.jn_command.specs.declared.status.Status.TheVariants.{Ok}
use Rattle.nullcheck_cert_write.specs.declared.made.CertMade.TheVariants.{Made}
use Rattle.nullcheck_cert_write.specs.Answer.{outcome}
use Rattle.nullcheck_cert_write.proofs.Telling.{finished}
use Rattle.nullcheck_cert_write.proofs.outputs.put_cert.Goals as goal

pub returns-then-eq-clause-answer : goal.returns-then-eq-clause-answer
returns-then-eq-clause-answer g c infer files is =
    let K = g.K.Sink in
    let stored = g.T.Targets.replaced c.args.target.now in
    finished infer c.args.name.now files (outcome (K.written c.args.out.now) (K.written c.finish.new.out) stored stored) (Made c.args.cert.now) Ok c.args.cert.now (K.faults c.args.out.now) (K.faults c.finish.new.out) c.finish.result is (sym c.eq.ensures ∙ c.if-eq.true, refl, refl) refl c.finish.ensures
