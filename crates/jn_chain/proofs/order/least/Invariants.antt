use Rattle.std.proofs.Common.{◌≡◌, take, Some}
use Rattle.std.specs.Prelude.{MatchOption}
use Rattle.jn_chain.specs.Keys.{rest_of}
use Rattle.jn_chain.specs.Search.{left_of, IsLeastAmong, IsUnwanted}
use Rattle.jn_chain.proofs.order.least.Given as goal

abbrev pub invariant-loop-cause : goal.invariant-loop-cause
invariant-loop-cause l = MatchOption l.best (IsUnwanted (take l.cause-index l.causes) (λ z. left_of (rest_of l.chains) z ≡ Some l.left)) (IsLeastAmong (take l.cause-index l.causes) (λ z. left_of (rest_of l.chains) z ≡ Some l.left))
