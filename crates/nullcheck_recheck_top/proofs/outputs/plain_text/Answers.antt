use Rattle.std.proofs.Common.{ap, arith, ◌∙◌}
use Rattle.std.proofs.lemmas.List.{take_all}
use Rattle.jn_reporters.specs.Forms.{Form}
use Rattle.nullcheck_recheck_top.specs.Carrying.{texts_of}
use Rattle.nullcheck_recheck_top.proofs.Showing.{plain_is}
use Rattle.nullcheck_recheck_top.proofs.outputs.plain_text.Goals as goal

pub returns : goal.returns
returns c =
    let f = c.loop-row-test.false in
    plain_is c.finish.new.self.rows c.finish.new.self.verdict c.args.rows.now c.args.verdict c.in_ok-from_slice.field-0.items (ap (λ (f : Form). texts_of f.rows) c.finish.ensures.form ∙ c.loop-row.invariant ∙ take_all c.loop-row.row-index c.args.rows.now (omega (arith, f))) c.in_ok-finish.ensures.ok (c.in_ok-from_slice.ensures.items ∙ c.bytes.ensures)
