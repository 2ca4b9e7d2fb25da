use Rattle.std.proofs.Common.{◌≡◌, ◌++◌}
use Rattle.std.specs.Prelude.{flat_map}
use Rattle.jn_points.specs.Members.{below}
use Rattle.jn_transfer.specs.Rules as spec
use Rattle.jn_checks.proofs.overriding.push_overrider.Given as goal

abbrev pub invariant-loop-k : goal.invariant-loop-k
invariant-loop-k l = l.rows.items ≡ l.fn.rows.items ++ flat_map (spec.pair_rows l.program l.sig l.m.0) (below l.k)
