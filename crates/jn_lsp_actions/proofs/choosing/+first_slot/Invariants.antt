use Rattle.std.proofs.Common.{length}
use Rattle.jn_lsp_actions.proofs.choosing.+first_slot.Given as goal

abbrev pub decreases-first_slot : goal.decreases-first_slot
decreases-first_slot l = length l.steps.now
