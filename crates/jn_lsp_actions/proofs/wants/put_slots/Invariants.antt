use Rattle.std.proofs.Common.{◌≡◌, ◌++◌, length}
use Rattle.jn_lsp_actions.specs.Own as spec
use Rattle.jn_lsp_actions.proofs.wants.put_slots.Given as goal

abbrev pub invariant-loop-rest : goal.invariant-loop-rest
invariant-loop-rest l = l.slots.items ++ spec.slots_want l.sig l.rest l.left ≡ l.fn.slots.items ++ spec.slots_want l.sig l.from l.to

abbrev pub decreases-loop-rest : goal.decreases-loop-rest
decreases-loop-rest l = length l.rest
