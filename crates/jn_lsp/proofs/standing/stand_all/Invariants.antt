use Rattle.std.proofs.Common.{◌≡◌, ◌++◌, map, take}
use Rattle.jn_lsp.specs.Stand.{firsts, standing}
use Rattle.jn_lsp.proofs.standing.stand_all.Given as goal

abbrev pub invariant-loop-file : goal.invariant-loop-file
invariant-loop-file l = l.files.items ≡ firsts (map (standing l.documents) (take l.file-index l.disk))

abbrev pub invariant-loop-document : goal.invariant-loop-document
invariant-loop-document l = l.files.items ≡ firsts (map (standing l.documents) (l.disk ++ take l.document-index l.documents))
