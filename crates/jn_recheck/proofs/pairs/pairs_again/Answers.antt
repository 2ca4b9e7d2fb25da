use Rattle.std.proofs.Common.{Option, Some, subst}
use Rattle.jn_recheck_law.specs.Reusable.{Solved}
use Rattle.jn_recheck.specs.KeptRows.{TellsEqual, TellsSame}
use Rattle.jn_recheck.specs.Standing.{StandsIn}
use Rattle.jn_recheck.proofs.pairs.pairs_again.Goals as goal

pub pairs_kept-requires-clause-heads : goal.pairs_kept-requires-clause-heads
pairs_kept-requires-clause-heads c = (subst (λ (k : Option Solved). StandsIn k (Some c.args.base.now) c.args.unchanged.now) c.in-Some.is c.requires.unchanged).0 (c.keeps_pairs.ensures.alike c.if-keeps_pairs.true)

pub pairs_kept-requires-clause-same : goal.pairs_kept-requires-clause-same
pairs_kept-requires-clause-same c = (subst (λ (k : Option Solved). TellsSame k c.args.names.now c.args.base.now c.args.compared.now.same) c.in-Some.is c.requires.tells.same).0 (c.keeps_pairs.ensures.same c.if-keeps_pairs.true)

pub pairs_kept-requires-clause-equal : goal.pairs_kept-requires-clause-equal
pairs_kept-requires-clause-equal c = subst (λ (k : Option Solved). TellsEqual k c.args.sig.now c.args.compared.now.equal) c.in-Some.is c.requires.tells.equal (c.keeps_pairs.ensures.equal c.if-keeps_pairs.true)

pub pairs_kept-requires-clause-none : goal.pairs_kept-requires-clause-none
pairs_kept-requires-clause-none c = c.keeps_pairs.ensures.none c.if-keeps_pairs.true
