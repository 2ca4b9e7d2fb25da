use Rattle.jn_member_tables.specs.Numbers.{list_at}
use Rattle.jn_index.specs.Entries as spec
use Rattle.jn_index.proofs.entries.all_fields.Given as goal

abbrev pub invariant-loop-place : goal.invariant-loop-place
invariant-loop-place l = spec.IsListed l.place (λ d. spec.field_entries l.program l.named d (list_at l.own d)) l.all.items
