use Rattle.std.proofs.Common.{◌≡◌, map, take}
use Rattle.nullcheck_lsp_top.specs.Reading.{nameless_text}
use Rattle.nullcheck_lsp_top.proofs.texts.without_texts.Given as goal

abbrev pub invariant-loop-name : goal.invariant-loop-name
invariant-loop-name l = l.files ≡ map nameless_text (take l.name-index l.names)
