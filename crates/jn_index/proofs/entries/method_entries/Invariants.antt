use Rattle.std.proofs.Common.{◌≡◌, ◌++◌, drop}
use Rattle.jn_index.specs.Entries as spec
use Rattle.jn_index.proofs.entries.method_entries.Given as goal

abbrev pub invariant-loop-k : goal.invariant-loop-k
invariant-loop-k l = l.entries ++ spec.method_entries l.program l.named l.class (drop l.k-index l.methods) ≡ spec.method_entries l.program l.named l.class l.methods
