use Rattle.std.proofs.Common.{◌≡◌, subst, List, Option, Some}
use Rattle.std.specs.Prelude.{MatchOption}
use Rattle.std.proofs.lemmas.List.{take_all}
use Rattle.jn_reasons_law.specs.declared.item.Item.{Item}
use Rattle.jn_reasons.specs.declared.causes.Cause.{Cause}
use Rattle.jn_chain.specs.Keys.{rest_of}
use Rattle.jn_chain.specs.Search.{left_of, IsLeastAmong, IsUnwanted}
use Rattle.jn_chain.proofs.Ordering.{best_more}
use Rattle.jn_chain.proofs.order.least.Goals as goal

pub loop-cause-preserved : goal.loop-cause-preserved
loop-cause-preserved c = best_more c.args.causes.now (λ (z : Option Item). left_of (rest_of c.args.chains.now) z ≡ Some c.args.left) c.loop-cause.cause-index _ c.loop-cause-test.true c.loop-cause.best c.better-best.result c.better-best.ensures c.loop-cause.invariant

pub returns : goal.returns
returns c =
    let W : Option Item → Type 0 = λ z. left_of (rest_of c.args.chains.now) z ≡ Some c.args.left in
    subst (λ (l : List Cause). MatchOption c.loop-cause.best (IsUnwanted l W) (IsLeastAmong l W)) (take_all c.loop-cause.cause-index c.args.causes.now c.loop-cause-test.false) c.loop-cause.invariant
