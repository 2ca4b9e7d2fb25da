use Rattle.jn_reuse.proofs.Placing.{registers_seen}
use Rattle.jn_reuse.proofs.operands.same_registers.Goals as goal

pub returns : goal.returns
returns c = registers_seen c.args.one.now c.args.other.now _ c.all_registers.ensures
