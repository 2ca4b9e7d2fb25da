use Rattle.jn_reuse.proofs.Placing.{all_seen}
use Rattle.jn_reuse.proofs.operands.same_placed.Goals as goal

pub returns : goal.returns
returns c = all_seen c.args.one.now c.args.other.now _ c.equal_operands.ensures
