use Rattle.jn_index.specs.Entries.{IsListed}
use Rattle.jn_index.specs.Index.{field_owners}
use Rattle.jn_member_tables.specs.Numbers.{places_of}
use Rattle.jn_declaration_rules.specs.Hidden as spec
use Rattle.jn_declaration_rules.proofs.hidden.all_entries.Given as goal

abbrev pub invariant-loop-place : goal.invariant-loop-place
invariant-loop-place l = IsListed l.place (λ d. spec.owner_entries l.program l.count d (places_of d 0 (field_owners l.program.fields))) l.all.items
