use Rattle.std.proofs.Common.{◌*◌, ◌+◌, length}
use Rattle.jn_parse_decl.proofs.sharing.+share.Given as goal

abbrev pub decreases-members_from : goal.decreases-members_from
decreases-members_from g l = 2 * length l.places.now

abbrev pub decreases-ours : goal.decreases-ours
decreases-ours g l = 2 * length l.before.now + 1
