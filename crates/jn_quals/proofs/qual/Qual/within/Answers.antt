use Rattle.jn_quals.proofs.Bits.{within_bits}
use Rattle.jn_quals.proofs.qual.Qual.within.Goals as goal

pub returns : goal.returns
returns c = rw (← c.self.view_is, ← c.other.view_is) (within_bits c.self.inside.bits c.self.invariant c.other.inside.bits c.other.invariant)
