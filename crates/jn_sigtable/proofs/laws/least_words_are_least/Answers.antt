use Rattle.std.proofs.Common.{arith}
use Rattle.jn_sigtable.proofs.LeastWords.{least_is_least}
use Rattle.jn_sigtable.proofs.laws.least_words_are_least.Goals as goal

pub returns : goal.returns
returns g c = record {
  least = least_is_least (g.C.Constraints.describe c.args.system.now) (g.met.C.Constraints.laws c.args.system.now) c.args.start.now c.requires.count (λ u. let f = c.type_inv.start u in omega arith);
}
