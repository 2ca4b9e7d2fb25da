use Rattle.std.proofs.Common.{◌≡◌, ◌++◌, map, take}
use Rattle.jn_lsp.specs.Unknown.{doubt}
use Rattle.jn_lsp.proofs.unknown.put_doubts.Given as goal

abbrev pub invariant-loop-name : goal.invariant-loop-name
invariant-loop-name l = l.replies ≡ l.fn.replies ++ map doubt (take l.name-index l.names)
