use Rattle.std.proofs.lemmas.Nat.{or_lt}
use Rattle.jn_quals.proofs.Bits.{join_bits}
use Rattle.jn_quals.proofs.qual.Qual.join.Goals as goal

pub invariant_of-result : goal.invariant_of-result
invariant_of-result c = or_lt 3 c.self.inside.bits c.other.inside.bits c.self.invariant c.other.invariant

pub returns : goal.returns
returns c = rw (← c.self.view_is, ← c.other.view_is) (join_bits c.self.inside.bits c.self.invariant c.other.inside.bits c.other.invariant)
