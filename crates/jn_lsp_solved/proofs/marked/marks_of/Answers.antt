use Rattle.jn_lsp_solved.proofs.Fitting.{small_at}
use Rattle.jn_lsp_solved.proofs.marked.marks_of.Goals as goal

pub new-requires : goal.new-requires
new-requires c = record { small = small_at c.as_slice-file-items.result.now c.loop-file.file-index c.file-item.result c.as_slice.result.now c.as_slice-file-items.ensures.fit c.loop-file-test.true c.file-item.is c.as_slice.ensures }
