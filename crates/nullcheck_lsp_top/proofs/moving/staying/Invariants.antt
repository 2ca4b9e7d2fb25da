use Rattle.std.proofs.Common.{◌≡◌, take}
use Rattle.std.specs.List.{flat_map}
use Rattle.nullcheck_lsp_top.specs.Looking.{stays}
use Rattle.nullcheck_lsp_top.proofs.moving.staying.Given as goal

abbrev pub invariant-loop-home : goal.invariant-loop-home
invariant-loop-home l = l.paths.items ≡ flat_map (stays l.removed) (take l.home-index l.homes)
