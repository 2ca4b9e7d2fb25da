use Rattle.std.proofs.Common.{◌≡◌, map, take}
use Rattle.nullcheck_lsp_top.specs.Placing.{named_path}
use Rattle.nullcheck_lsp_top.proofs.placing.all_paths.Given as goal

abbrev pub invariant-loop-name : goal.invariant-loop-name
invariant-loop-name l = l.paths.items ≡ map (named_path l.folder) (take l.name-index l.names)
