use Rattle.std.proofs.Common.{ap, ◌∙◌, Err}
use Rattle.jn_base.specs.declared.refusal.Fail.TheVariants.{Refused as RefusedFail}
use Rattle.nullcheck_recheck_top.proofs.Stepping.{text_spaces, text_whole}
use Rattle.nullcheck_recheck_top.proofs.step.text_of.Goals as goal

pub returns-in-Ok-clause-read : goal.returns-in-Ok-clause-read
returns-in-Ok-clause-read g c = text_whole (g.F.Files.held c.args.files.now) c.args.file.now c.in-Ok.text.items (g.F.Files.gave c.args.files.now) (g.F.Files.gave c.read_whole.new.files) c.in-Ok.ensures.ok.0 c.in-Ok.ensures.ok.1 c.in-Ok.ensures.gave

pub returns-in-Err-Refused-TooLarge-clause-read : goal.returns-in-Err-Refused-TooLarge-clause-read
returns-in-Err-Refused-TooLarge-clause-read g c =
    let w = c.in-Err-Refused-TooLarge in
    let e = w.is ∙ ap Err (w.field-0-is ∙ ap RefusedFail w.field-0-0-is) in
    text_spaces (λ text. text.items) c.large_text.result (g.F.Files.held c.args.files.now) c.args.file.now (g.F.Files.gave c.args.files.now) (g.F.Files.gave c.read_whole.new.files) (c.read_whole.ensures.gave_many e) c.large_text.ensures.are
