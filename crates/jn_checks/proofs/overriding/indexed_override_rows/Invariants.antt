use Rattle.std.proofs.Common.{◌≡◌, length}
use Rattle.std.specs.Prelude.{flat_map}
use Rattle.jn_points.specs.Members.{below}
use Rattle.jn_transfer.specs.Rules as spec
use Rattle.jn_checks.proofs.overriding.indexed_override_rows.Given as goal

abbrev pub invariant-loop-m : goal.invariant-loop-m
invariant-loop-m l = l.rows.items ≡ flat_map (λ m. flat_map (spec.pair_rows l.program l.sig m) (below (length l.program.methods))) (below l.m)
