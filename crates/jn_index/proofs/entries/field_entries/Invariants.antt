use Rattle.std.proofs.Common.{◌≡◌, ◌++◌, drop}
use Rattle.jn_index.specs.Entries as spec
use Rattle.jn_index.proofs.entries.field_entries.Given as goal

abbrev pub invariant-loop-k : goal.invariant-loop-k
invariant-loop-k l = l.entries ++ spec.field_entries l.program l.named l.class (drop l.k-index l.fields) ≡ spec.field_entries l.program l.named l.class l.fields
