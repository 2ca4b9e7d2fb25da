use Rattle.jn_lsp.proofs.Names.{first_put, second_put}
use Rattle.jn_lsp.proofs.standing.stand_all.Goals as goal

pub loop-file-preserved : goal.loop-file-preserved
loop-file-preserved c = first_put c.args.documents.now c.args.disk.now c.loop-file.file-index c.file-item.result c.loop-file.files.items c.put.new.files.items c.loop-file-test.true c.file-item.is c.loop-file.invariant c.in_ok-put.ensures

pub loop-document-preserved : goal.loop-document-preserved
loop-document-preserved c = second_put c.args.documents.now c.args.disk.now c.loop-document.document-index c.document-item.result c.loop-document.files.items c.put-in-loop-document.new.files.items c.loop-document-test.true c.document-item.is c.loop-document.invariant c.in_ok-put-2.ensures
