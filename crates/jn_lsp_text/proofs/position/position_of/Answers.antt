use Rattle.jn_lsp_text.proofs.Steps.{next_counted, few}
use Rattle.jn_lsp_text.proofs.position.position_of.Goals as goal

pub loop-byte-preserved : goal.loop-byte-preserved
loop-byte-preserved c =
    let h = c.loop-byte.invariant in
    let bounds = few _ _ _ _ _ c.with-counted.ensures h.lines h.units in
    record {
      counted = next_counted _ _ _ _ _ c.loop-byte-test.true h.counted c.with-counted.ensures;
      lines = bounds.0;
      units = bounds.1;
    }
