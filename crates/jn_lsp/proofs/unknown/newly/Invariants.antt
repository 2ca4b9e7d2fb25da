use Rattle.std.proofs.Common.{◌≡◌, take}
use Rattle.jn_lsp.specs.Unknown.{newly}
use Rattle.jn_lsp.proofs.unknown.newly.Given as goal

abbrev pub invariant-loop-name : goal.invariant-loop-name
invariant-loop-name l = l.made ≡ newly l.unknown (take l.name-index l.names)
