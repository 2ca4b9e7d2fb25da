use Rattle.std.proofs.Common.{Option, Some, subst}
use Rattle.jn_recheck_law.specs.Reusable.{Solved}
use Rattle.jn_recheck.specs.Standing.{StandsIn}
use Rattle.jn_recheck.proofs.pairs.overriders_again.Goals as goal

pub overriders_kept-requires : goal.overriders_kept-requires
overriders_kept-requires c = (subst (λ (k : Option Solved). StandsIn k (Some c.args.base.now) c.args.unchanged.now) c.in-Some.is c.requires.unchanged).0 c.if-unchanged.true
