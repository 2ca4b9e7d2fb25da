use Rattle.std.proofs.Common.{◌*◌, ◌-◌}
use Rattle.jn_sharing.proofs.sharing.+steal.Given as goal

abbrev pub decreases-steal_by : goal.decreases-steal_by
decreases-steal_by g l = 2 * l.more

abbrev pub decreases-ours : goal.decreases-ours
decreases-ours g l = 2 * l.more - 1
