use Rattle.std.proofs.Common.{◌++◌, ◌-◌, ◌∙◌, ap, take, drop, arith}
use Rattle.jn_base.specs.Place.{last_line}
use Rattle.jn_reporters.specs.Excerpts.{last_characters}
use Rattle.jn_reporters.proofs.Around.{back_less, line_less}
use Rattle.jn_reporters.proofs.excerpt.back.Goals as goal

pub loop-at-preserved : goal.loop-at-preserved
loop-at-preserved c =
    let text = c.args.text.now in
    let at = c.loop-at.at in
    let within = c.loop-at.invariant.within in
    let back = c.goes_back.ensures.yes c.loop-at-test.true in
    record {
      within = omega (arith, within);
      back = ap (λ n. last_characters (c.loop-at.left - n) (last_line (take (at - 1) text)) ++ drop (at - 1) text) c.begun-left.ensures ∙ back_less text _ at within c.loop-at.left back c.loop-at.invariant.back;
      line = line_less text _ at within c.loop-at.left back c.loop-at.invariant.line;
    }
