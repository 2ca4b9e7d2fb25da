use Rattle.std.proofs.Common.{◌≡◌, take}
use Rattle.jn_front.specs.Files.{names_of}
use Rattle.jn_lsp.proofs.unknown.names_of.Given as goal

abbrev pub invariant-loop-document : goal.invariant-loop-document
invariant-loop-document l = l.names ≡ names_of (take l.document-index l.documents)
