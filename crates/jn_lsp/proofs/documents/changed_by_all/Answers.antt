use Rattle.jn_lsp.proofs.Changing.{changed_more}
use Rattle.jn_lsp.proofs.documents.changed_by_all.Goals as goal

pub loop-change-preserved : goal.loop-change-preserved
loop-change-preserved c = changed_more c.args.encoding c.args.changes.now c.change-item.result c.loop-change.change-index c.args.text.now c.loop-change.made c.as_slice.result.now c.in_ok-made-2.made c.loop-change-test.true c.change-item.is c.as_slice.ensures c.loop-change.invariant c.in_ok-made-2.ensures
