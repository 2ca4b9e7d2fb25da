use Rattle.std.proofs.Common.{◌≡◌}
use Rattle.jn_unkept.specs.Making.{last_below, point_of}
use Rattle.jn_unkept.specs.Unkept.{last_test, test_of, tests_alike}
use Rattle.jn_unkept.proofs.search.last_test.Given as goal

abbrev pub invariant-loop-at : goal.invariant-loop-at
invariant-loop-at l = last_below (λ q. tests_alike l.body l.reading l.value q (test_of (point_of l.body q))) l.at ≡ last_test l.body l.reading l.value

abbrev pub decreases-loop-at : goal.decreases-loop-at
decreases-loop-at l = l.at
