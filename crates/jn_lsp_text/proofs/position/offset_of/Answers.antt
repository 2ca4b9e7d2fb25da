use Rattle.std.proofs.Common.{◌≡◌, ◌∙◌, ◌+◌, sym, subst}
use Rattle.jn_lsp_text.specs.Positions.{IsUpTo}
use Rattle.jn_lsp_text.specs.Counting as spec
use Rattle.jn_lsp_text.proofs.Steps.{next_counted, few, not_beyond, counted_position}
use Rattle.jn_lsp_text.proofs.Offsets.{offset_here}
use Rattle.jn_lsp_text.proofs.position.offset_of.Goals as goal

pub returns-then-is_beyond-clause-is : goal.returns-then-is_beyond-clause-is
returns-then-is_beyond-clause-is c =
    let h = c.loop-offset.invariant in
    offset_here _ _ _ _ _ _ c.loop-offset-test.true h.counted c.with-next.ensures h.reached (sym c.is_beyond.ensures ∙ c.if-is_beyond.true)

pub loop-offset-preserved : goal.loop-offset-preserved
loop-offset-preserved c =
    let h = c.loop-offset.invariant in
    let bounds = few _ _ _ _ _ c.with-next.ensures h.lines h.units in
    let next : c.with-next.result ≡ spec.counted c.args.encoding c.args.text.now (c.loop-offset.offset + 1) = next_counted _ _ _ _ _ c.loop-offset-test.true h.counted c.with-next.ensures in
    record {
      counted = next;
      lines = bounds.0;
      units = bounds.1;
      reached = subst (λ counted. IsUpTo (counted_position counted) c.args.position) next (not_beyond c.with-next.result c.args.position (sym c.is_beyond.ensures ∙ c.if-is_beyond.false));
    }
