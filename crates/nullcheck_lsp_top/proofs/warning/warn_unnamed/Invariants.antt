use Rattle.std.proofs.Common.{◌≡◌, ◌++◌, map, take}
use Rattle.nullcheck_lsp_top.specs.Reading.{unnamed_words}
use Rattle.nullcheck_lsp_top.proofs.warning.warn_unnamed.Given as goal

abbrev pub invariant-loop-path : goal.invariant-loop-path
invariant-loop-path l = l.warnings ≡ l.fn.warnings ++ map unnamed_words (take l.path-index l.paths)
