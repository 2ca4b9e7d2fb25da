use Rattle.std.proofs.Common.{◌≡◌, take}
use Rattle.jn_lsp.proofs.documents.copy_documents.Given as goal

abbrev pub invariant-loop-file : goal.invariant-loop-file
invariant-loop-file l = l.copy.items ≡ take l.file-index l.documents
