use Rattle.std.proofs.Common.{◌<◌, length, arith}
use Rattle.jn_lsp_text.proofs.Steps.{next_counted, few}
use Rattle.jn_lsp_text.proofs.sweep.counted_on.Goals as goal

pub loop-at-preserved : goal.loop-at-preserved
loop-at-preserved c =
    let h = c.loop-at.invariant in
    let lt : c.loop-at.at < length c.args.text.now = omega (arith, c.loop-at-test.true, c.requires.within) in
    let bounds = few _ _ _ _ _ c.with-counted.ensures h.lines h.units in
    record {
      is = next_counted _ _ _ _ _ lt h.is c.with-counted.ensures;
      lines = bounds.0;
      units = bounds.1;
    }
