use Rattle.std.proofs.Common.{ap, ◌∙◌, Err}
use Rattle.jn_base.specs.declared.refusal.Fail.TheVariants.{Refused as RefusedFail}
use Rattle.jn_front.proofs.Reading.{read_whole_from, read_large_from}
use Rattle.jn_front.proofs.reads.read_one.Goals as goal

pub returns-in-Ok-clause-ok : goal.returns-in-Ok-clause-ok
returns-in-Ok-clause-ok g c = read_whole_from (g.F.Files.held c.args.files.now) (g.F.Files.gave c.args.files.now) (g.F.Files.gave c.read_whole.new.files) c.args.name.now c.in-Ok.bytes.items c.named.result c.named.ensures.read c.in-Ok.ensures.ok.0 c.in-Ok.ensures.ok.1 c.in-Ok.ensures.gave

pub returns-in-Err-Refused-TooLarge-clause-ok : goal.returns-in-Err-Refused-TooLarge-clause-ok
returns-in-Err-Refused-TooLarge-clause-ok g c =
    let w = c.in-Err-Refused-TooLarge in
    let e = w.is ∙ ap Err (w.field-0-is ∙ ap RefusedFail w.field-0-0-is) in
    read_large_from (g.F.Files.held c.args.files.now) (g.F.Files.gave c.args.files.now) (g.F.Files.gave c.read_whole.new.files) c.args.name.now _ c.named-in-Err-Refused-TooLarge.result c.new.ensures.items c.named-in-Err-Refused-TooLarge.ensures.read (c.read_whole.ensures.gave_many e)
