use Rattle.std.proofs.Common.{◌≡◌, ◌++◌, length}
use Rattle.jn_lsp_actions.specs.Mended as spec
use Rattle.jn_lsp_actions.proofs.mending.mended.Given as goal

abbrev pub invariant-loop-rest : goal.invariant-loop-rest
invariant-loop-rest l = l.made ++ spec.mended l.rest l.left l.slot ≡ spec.mended l.mending.wants.now l.mending.diagnostics.now l.slot

abbrev pub decreases-loop-rest : goal.decreases-loop-rest
decreases-loop-rest l = length l.rest
