use Rattle.std.proofs.Common.{◌≡◌, take}
use Rattle.jn_renumber.specs.Merged.{merged, merged_numbers}
use Rattle.jn_renumber.proofs.merging.merge.Given as goal

abbrev pub invariant-loop-at : goal.invariant-loop-at
invariant-loop-at l = (l.names ≡ merged l.initial.names (take l.at l.other)) × (l.numbers.items ≡ merged_numbers l.initial.names (take l.at l.other))
