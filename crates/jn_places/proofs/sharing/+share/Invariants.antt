use Rattle.std.proofs.Common.{◌*◌, ◌+◌}
use Rattle.jn_places.proofs.sharing.+share.Given as goal

abbrev pub decreases-place_shared : goal.decreases-place_shared
decreases-place_shared g l = 4 * l.more

abbrev pub decreases-place_both : goal.decreases-place_both
decreases-place_both g l = 4 * l.more + 3

abbrev pub decreases-side_by_side : goal.decreases-side_by_side
decreases-side_by_side g l = 4 * l.more + 2

abbrev pub decreases-side_by_side-ours : goal.decreases-side_by_side-ours
decreases-side_by_side-ours g l = 4 * l.more + 1
