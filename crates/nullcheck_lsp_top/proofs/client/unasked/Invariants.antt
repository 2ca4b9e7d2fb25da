use Rattle.std.proofs.Common.{◌≡◌, map, take}
use Rattle.nullcheck_lsp_top.specs.Looking.{unasked}
use Rattle.nullcheck_lsp_top.proofs.client.unasked.Given as goal

abbrev pub invariant-loop-path : goal.invariant-loop-path
invariant-loop-path l = l.homes ≡ map unasked (take l.path-index l.paths)
