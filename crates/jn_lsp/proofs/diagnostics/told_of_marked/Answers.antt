use Rattle.jn_lsp.specs.Telling.{diagnostics_at}
use Rattle.jn_lsp.proofs.Rows.{told_more}
use Rattle.jn_lsp.proofs.diagnostics.told_of_marked.Goals as goal

pub loop-at-preserved : goal.loop-at-preserved
loop-at-preserved c =
    let marked = c.args.marked.now in
    told_more c.files-files.result.now (diagnostics_at marked.encoding marked.files c.args.rows.now c.args.notes.now) c.loop-at.at c.index-files-at.result c.in_ok-diagnostics.diagnostics c.in_ok-told_of.field-0 c.loop-at.told.items c.push.new.told.items c.loop-at-test.true c.index-files-at.is c.in_ok-diagnostics.ensures c.in_ok-told_of.ensures c.loop-at.invariant c.in_ok-push.ensures
