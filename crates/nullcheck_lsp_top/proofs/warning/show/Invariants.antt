use Rattle.std.proofs.Common.{◌≡◌, take}
use Rattle.nullcheck_lsp_top.specs.Reading.{shows}
use Rattle.nullcheck_lsp_top.proofs.warning.show.Given as goal

abbrev pub invariant-loop-warning : goal.invariant-loop-warning
invariant-loop-warning l = l.replies.items ≡ shows l.shown (take l.warning-index l.warnings)
