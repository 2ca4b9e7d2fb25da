use Rattle.std.proofs.Common.{ℕ, subst, MatchOption}
use Rattle.jn_accept.specs.Mains.{IsOnlyMain}
use Rattle.jn_accept.proofs.accepted.Accepted.main.Goals as goal

pub returns : goal.returns
returns c = subst (λ p. MatchOption c.only_main.result ((m : ℕ) → IsOnlyMain p m → ⊥) (λ m. IsOnlyMain p m.0)) c.program.ensures.is c.only_main.ensures
