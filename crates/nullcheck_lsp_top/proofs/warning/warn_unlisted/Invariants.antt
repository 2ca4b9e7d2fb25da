use Rattle.std.proofs.Common.{◌≡◌, ◌++◌, map, take}
use Rattle.nullcheck_lsp_top.specs.Reading.{unlisted_words}
use Rattle.nullcheck_lsp_top.proofs.warning.warn_unlisted.Given as goal

abbrev pub invariant-loop-path : goal.invariant-loop-path
invariant-loop-path l = l.warnings ≡ l.fn.warnings ++ map unlisted_words (take l.path-index l.paths)
