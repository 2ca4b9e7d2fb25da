use Rattle.std.proofs.Common.{◌∙◌, ap, append_assoc, arith, rules}
use Rattle.jn_reporters.specs.Forms.{Form}
use Rattle.jn_command.proofs.Showing.{rows_more}
use Rattle.jn_command.proofs.show.show_noted.Goals as goal

pub loop-at-preserved : goal.loop-at-preserved
loop-at-preserved g c =
    let below = c.loop-at-test.true in
    let rows = ap (λ (f : Form). f.rows) c.in_ok-take.ensures.ok in
    record {
      place = c.in_ok-shown.ensures.is;
      within = omega (arith, below);
      taken = search (rules, rows_more, append_assoc);
      shown = ap (λ (f : Form). f.shown) c.in_ok-take.ensures.ok ∙ c.loop-at.invariant.shown;
    }
