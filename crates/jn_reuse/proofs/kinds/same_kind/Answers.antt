use Rattle.jn_reuse.proofs.Placing.{placed_same}
use Rattle.jn_reuse.proofs.kinds.same_kind.Goals as goal

pub returns : goal.returns
returns c = placed_same c.args.one.now c.args.other.now c.is_seen_same.result c.is_seen_same.ensures
