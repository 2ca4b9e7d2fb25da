use Rattle.std.proofs.Common.{◌≡◌, ◌++◌, Some, take}
use Rattle.std.specs.Prelude.{flat_map}
use Rattle.jn_points.specs.Lookup.{method_at}
use Rattle.jn_transfer.specs.Pairs.{override_sends}
use Rattle.jn_contrib.proofs.pairs.send_some.Given as goal

abbrev pub invariant-loop-k : goal.invariant-loop-k
invariant-loop-k l = l.list.items ≡ l.fn.list.items ++ flat_map (λ k. override_sends l.program l.sig (Some l.over) (method_at l.program k)) (take l.k-index l.ks)
