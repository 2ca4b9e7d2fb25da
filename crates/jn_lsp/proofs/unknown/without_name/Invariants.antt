use Rattle.std.proofs.Common.{◌≡◌, Some, take}
use Rattle.jn_lsp.specs.Unknown.{without}
use Rattle.jn_lsp.proofs.unknown.without_name.Given as goal

abbrev pub invariant-loop-name : goal.invariant-loop-name
invariant-loop-name l = l.made ≡ without (Some l.settled) (take l.name-index l.names)
