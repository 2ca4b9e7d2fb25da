use Rattle.std.proofs.Common.{◌<◌, List, length, subst}
use Rattle.jn_front.specs.declared.source.SourceFile.{SourceFile}
use Rattle.jn_lsp.specs.Reported.{unchecked_at}
use Rattle.jn_lsp.proofs.Rows.{told_more}
use Rattle.jn_lsp.proofs.unchecked.unchecked_of_marked.Goals as goal

pub unchecked_at-requires : goal.unchecked_at-requires
unchecked_at-requires c = record { there = subst (λ (files : List SourceFile). c.loop-at.at < length files) c.files-files.ensures c.loop-at-test.true }

pub loop-at-preserved : goal.loop-at-preserved
loop-at-preserved c =
    let marked = c.args.marked.now in
    told_more c.files-files.result.now (unchecked_at marked.encoding c.args.last.now marked.files c.args.rows.now c.args.notes.now) c.loop-at.at c.index-files-at.result c.in_ok-diagnostics.diagnostics c.in_ok-told_of.field-0 c.loop-at.told.items c.push.new.told.items c.loop-at-test.true c.index-files-at.is c.in_ok-diagnostics.ensures c.in_ok-told_of.ensures c.loop-at.invariant c.in_ok-push.ensures
