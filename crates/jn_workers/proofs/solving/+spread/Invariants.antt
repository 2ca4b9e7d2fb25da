use Rattle.std.proofs.Common.{◌*◌, ◌-◌}
use Rattle.jn_workers.proofs.solving.+spread.Given as goal

abbrev pub decreases-spread : goal.decreases-spread
decreases-spread g l = 2 * l.more

abbrev pub decreases-ours : goal.decreases-ours
decreases-ours g l = 2 * l.more - 1
