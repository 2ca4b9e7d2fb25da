use Rattle.jn_index.specs.Busy.{is_busy}
use Rattle.jn_index.specs.Entries as spec
use Rattle.jn_index.proofs.entries.all_busy.Given as goal

abbrev pub invariant-loop-place : goal.invariant-loop-place
invariant-loop-place l = spec.IsListed l.place (λ d. spec.class_entries (is_busy l.program l.own l.named d) d) l.all.items
