use Rattle.std.proofs.Common.{ℕ, Ok}
use Rattle.jn_sharing.specs.Made.{AreMade}
use Rattle.jn_sharing.proofs.sharing.steal_all.Given as goal

abbrev pub invariant-loop : goal.invariant-loop
invariant-loop g l = AreMade (λ n x. (w : ℕ) × goal.W-post g l.work n w (Ok x)) l.made.items
