use Rattle.std.proofs.Common.{◌≡◌}
use Rattle.std.specs.Prelude.{flat_map}
use Rattle.jn_points.specs.Members.{below}
use Rattle.jn_transfer.specs.Pairs.{under}
use Rattle.jn_contrib.specs.Entries.{entry_if}
use Rattle.jn_contrib.proofs.listed.all_entries.Given as goal

abbrev pub invariant-loop-m : goal.invariant-loop-m
invariant-loop-m l = l.list.items ≡ flat_map (λ m. entry_if m (under l.program m)) (below l.m)
