use Rattle.std.proofs.Common.{◌+◌, ◌*◌}
use Rattle.jn_tree_run.proofs.calling.+enter+fn-enter-call.Given as goal

abbrev pub decreases-enter : goal.decreases-enter
decreases-enter l = 2 * l.turns + 1

abbrev pub decreases-call : goal.decreases-call
decreases-call l = 2 * l.left + 2
