use Rattle.std.proofs.Common.{◌≡◌, take}
use Rattle.jn_lsp.specs.Unknown.{hushed}
use Rattle.jn_lsp.proofs.unknown.hushed.Given as goal

abbrev pub invariant-loop-one : goal.invariant-loop-one
invariant-loop-one l = l.made.items ≡ hushed l.unknown (take l.one-index l.told)
