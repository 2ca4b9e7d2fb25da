use Rattle.std.proofs.Common.{true}
use Rattle.jn_index.specs.Entries as spec
use Rattle.jn_index.proofs.entries.all_classes.Given as goal

abbrev pub invariant-loop-place : goal.invariant-loop-place
invariant-loop-place l = spec.IsListed l.place (spec.class_entries true) l.all.items
