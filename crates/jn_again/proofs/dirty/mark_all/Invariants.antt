use Rattle.std.proofs.Common.{◌≡◌, length}
use Rattle.jn_again.proofs.Going.{AreTold}
use Rattle.jn_again.proofs.dirty.mark_all.Given as goal

abbrev pub invariant-loop-body : goal.invariant-loop-body
invariant-loop-body g l = (length l.dirty ≡ length l.fn.dirty) × AreTold l.changed (g.R.Reach.describe l.reach) l.bits l.dirty l.body
