use Rattle.std.proofs.Common.{◌≡◌, length}
use Rattle.jn_lsp_actions.specs.Mended as spec
use Rattle.jn_lsp_actions.proofs.mending.comes.Given as goal

abbrev pub invariant-loop-rest : goal.invariant-loop-rest
invariant-loop-rest l = spec.comes l.slot l.rest ≡ spec.comes l.slot l.slots

abbrev pub decreases-loop-rest : goal.decreases-loop-rest
decreases-loop-rest l = length l.rest
