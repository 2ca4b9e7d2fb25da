use Rattle.std.proofs.Common.{◌≡◌, ◌++◌, take}
use Rattle.std.specs.Prelude.{flat_map}
use Rattle.jn_transfer.specs.Rules as spec
use Rattle.jn_checks.proofs.overriding.push_some.Given as goal

abbrev pub invariant-loop-k : goal.invariant-loop-k
invariant-loop-k l = l.rows.items ≡ l.fn.rows.items ++ flat_map (spec.pair_rows l.program l.sig l.m) (take l.k-index l.ks)
