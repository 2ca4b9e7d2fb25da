use Rattle.std.proofs.Common.{Option, subst}
use Rattle.jn_recheck_law.specs.Reusable.{Solved}
use Rattle.jn_recheck.specs.KeptRows.{TellsKnown, TellsSame}
use Rattle.jn_recheck.proofs.least.least_sig.Goals as goal

pub least_from-requires-clause-same : goal.least_from-requires-clause-same
least_from-requires-clause-same g c κs within = (subst (λ (k : Option Solved). TellsSame k c.args.names.now c.args.base.now c.args.same) c.in-Some.is c.requires.same).0

pub least_from-requires-clause-known : goal.least_from-requires-clause-known
least_from-requires-clause-known g c κs within = subst (λ (k : Option Solved). TellsKnown k c.args.base.now c.args.known.now) c.in-Some.is c.requires.known
