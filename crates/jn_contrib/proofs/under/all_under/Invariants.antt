use Rattle.std.proofs.Common.{◌≡◌}
use Rattle.std.specs.Prelude.{filter}
use Rattle.jn_points.specs.Members.{below, is_pair}
use Rattle.jn_contrib.proofs.under.all_under.Given as goal

abbrev pub invariant-loop-k : goal.invariant-loop-k
invariant-loop-k l = l.list.items ≡ filter (is_pair l.program l.m) (below l.k)
