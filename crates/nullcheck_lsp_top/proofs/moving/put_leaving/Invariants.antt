use Rattle.std.proofs.Common.{◌≡◌, ◌++◌, take}
use Rattle.std.specs.List.{flat_map}
use Rattle.nullcheck_lsp_top.specs.Looking.{leaves}
use Rattle.nullcheck_lsp_top.proofs.moving.put_leaving.Given as goal

abbrev pub invariant-loop-home : goal.invariant-loop-home
invariant-loop-home l = l.homes ≡ l.fn.homes ++ flat_map (leaves l.removed) (take l.home-index l.folders)
