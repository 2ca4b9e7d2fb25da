use Rattle.std.proofs.Common.{ap, ◌∙◌, true, false, Err}
use Rattle.jn_base.specs.declared.refusal.Fail.TheVariants.{Refused as RefusedFail}
use Rattle.nullcheck_cert_check.proofs.Readings.{cert_as, large_cert, whole_cert}
use Rattle.nullcheck_cert_check.proofs.certificate.read_cert.Goals as goal

pub returns-in-Ok-clause-ok : goal.returns-in-Ok-clause-ok
returns-in-Ok-clause-ok g c =
    whole_cert (g.F.Files.held c.args.files.now) (g.F.Files.gave c.args.files.now) (g.F.Files.gave c.read_whole.new.files) c.args.name.now c.in-Ok.bytes.items (cert_as c.of_vec.result true) (ap (λ bytes. cert_as bytes true) c.of_vec.ensures) c.in-Ok.ensures.ok.0 c.in-Ok.ensures.ok.1 c.in-Ok.ensures.gave

pub returns-in-Err-Refused-TooLarge-clause-ok : goal.returns-in-Err-Refused-TooLarge-clause-ok
returns-in-Err-Refused-TooLarge-clause-ok g c =
    let w = c.in-Err-Refused-TooLarge in
    let e = w.is ∙ ap Err (w.field-0-is ∙ ap RefusedFail w.field-0-0-is) in
    large_cert (g.F.Files.held c.args.files.now) (g.F.Files.gave c.args.files.now) (g.F.Files.gave c.read_whole.new.files) c.args.name.now (cert_as c.new.result false) (ap (λ bytes. cert_as bytes false) c.new.ensures) (c.read_whole.ensures.gave_many e)
