use Rattle.std.proofs.Common.{sym, ◌∙◌, arith}
use Rattle.jn_unkept.specs.Making.{point_of}
use Rattle.jn_unkept.specs.Unkept.{test_of, tests_alike}
use Rattle.jn_unkept.proofs.Below.{step_below}
use Rattle.jn_unkept.proofs.search.last_test.Goals as goal

pub loop-at-preserved : goal.loop-at-preserved
loop-at-preserved c = step_below (λ q. tests_alike c.args.body.now c.args.reading c.args.value q (test_of (point_of c.args.body.now q))) c.loop-at.at _ (omega (arith, c.loop-at-test.true)) (sym c.in_ok-tests_alike.ensures ∙ c.if-branch.false) c.loop-at.invariant
