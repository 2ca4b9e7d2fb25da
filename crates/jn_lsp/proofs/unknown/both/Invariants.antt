use Rattle.std.proofs.Common.{◌≡◌, ◌++◌, take}
use Rattle.jn_lsp.proofs.unknown.both.Given as goal

abbrev pub invariant-loop-name : goal.invariant-loop-name
invariant-loop-name l = l.all ≡ l.fn.one ++ take l.name-index l.other
