use Rattle.std.proofs.Common.{◌≡◌, ◌∙◌, IfOk, ap, nat_eq, subst}
use Rattle.std.specs.Set.{distinct_count}
use Rattle.jn_limits.specs.Large.{facts_of}
use Rattle.jn_limits.proofs.Facts.{count_codes}
use Rattle.jn_limits.proofs.limits.fact_count.Goals as goal

pub returns : goal.returns
returns c = subst (λ k. IfOk c.distinct.result (λ n. n ≡ k)) (ap (distinct_count nat_eq) (c.deref.ensures.value ∙ c.in_ok-codes.ensures.0) ∙ count_codes (facts_of c.args.program.now c.args.body.now.locals c.args.body.now.points) c.in_ok-codes.ensures.1) c.distinct.ensures
