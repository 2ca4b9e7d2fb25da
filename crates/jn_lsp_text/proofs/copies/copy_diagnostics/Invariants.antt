use Rattle.std.proofs.Common.{◌≡◌, take}
use Rattle.jn_lsp_text.proofs.copies.copy_diagnostics.Given as goal

abbrev pub invariant-loop-diagnostic : goal.invariant-loop-diagnostic
invariant-loop-diagnostic l = l.copies ≡ take l.diagnostic-index l.diagnostics
