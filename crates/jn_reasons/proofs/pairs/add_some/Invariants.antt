use Rattle.std.proofs.Common.{◌≡◌, ◌++◌, Some, take}
use Rattle.std.specs.Prelude.{flat_map}
use Rattle.jn_points.specs.Lookup.{method_at}
use Rattle.jn_reasons_law.specs.Sources.{from_override}
use Rattle.jn_reasons.proofs.pairs.add_some.Given as goal

abbrev pub invariant-loop-k : goal.invariant-loop-k
invariant-loop-k l = l.list.items ≡ l.fn.list.items ++ flat_map (λ k. from_override l.wanted.0 (Some l.over) (method_at l.program k) l.bit) (take l.k-index l.ks)
