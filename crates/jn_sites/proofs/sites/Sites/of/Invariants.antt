use Rattle.std.proofs.Common.{[]}
use Rattle.jn_sites.specs.Sites.{AreKept}
use Rattle.jn_sites.proofs.sites.Sites.of.Given as goal

abbrev pub invariant-loop-span : goal.invariant-loop-span
invariant-loop-span g l = AreKept _ (λ z. []) l.sites
