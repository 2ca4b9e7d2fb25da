use Rattle.std.proofs.Common.{◌≡◌, ◌++◌, length}
use Rattle.jn_trees.specs.View.{parameter_views}
use Rattle.jn_lsp_actions.specs.Slots as spec
use Rattle.jn_lsp_actions.proofs.slots.put_parameters.Given as goal

abbrev pub invariant-loop-rest : goal.invariant-loop-rest
invariant-loop-rest l = l.slots.items ++ spec.parameter_slots l.program.slots (parameter_views l.rest) l.left ≡ l.fn.slots.items ++ spec.parameter_slots l.program.slots (parameter_views l.parameters) l.has

abbrev pub decreases-loop-rest : goal.decreases-loop-rest
decreases-loop-rest l = length l.rest
