use Rattle.jn_quals.proofs.Bits.{settle_bits}
use Rattle.jn_quals.proofs.qual.Qual.settle.Goals as goal

pub returns : goal.returns
returns c = rw (← c.self.view_is) (settle_bits c.self.inside.bits c.self.invariant)
