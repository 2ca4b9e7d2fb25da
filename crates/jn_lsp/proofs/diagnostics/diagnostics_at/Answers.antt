use Rattle.std.proofs.lemmas.List.{get_or_default}
use Rattle.jn_lsp.proofs.Rows.{row_more}
use Rattle.jn_lsp.proofs.diagnostics.diagnostics_at.Goals as goal

pub loop-at-preserved : goal.loop-at-preserved
loop-at-preserved c = row_more c.args.marked.now.encoding c.args.marked.now.files c.args.rows.now c.args.notes.now c.args.file c.loop-at.at _ c.shown_at.result.now c.loop-at.diagnostics c.add_row.new.diagnostics c.loop-at-test.true (get_or_default c.args.rows.now c.loop-at.at _ _ c.loop-at-test.true) c.shown_at.ensures c.loop-at.invariant c.in_ok-add_row.ensures
