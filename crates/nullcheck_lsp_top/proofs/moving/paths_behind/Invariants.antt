use Rattle.std.proofs.Common.{◌≡◌, ◌++◌, take}
use Rattle.std.specs.List.{flat_map}
use Rattle.nullcheck_lsp_top.specs.Looking.{stays}
use Rattle.nullcheck_lsp_top.proofs.moving.paths_behind.Given as goal

abbrev pub invariant-loop-path : goal.invariant-loop-path
invariant-loop-path l = l.paths.items ≡ flat_map (stays l.removed) l.homes ++ take l.path-index l.added
