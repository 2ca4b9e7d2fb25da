use Rattle.std.proofs.Common.{length, sym, subst}
use Rattle.jn_index.specs.Entries.{IsListed}
use Rattle.jn_index.specs.Index.{field_owners}
use Rattle.jn_member_tables.specs.Numbers.{places_of}
use Rattle.jn_declaration_rules.specs.Hidden.{owner_entries}
use Rattle.jn_declaration_rules.proofs.FoundOwners.{small_owners}
use Rattle.jn_declaration_rules.proofs.hidden.find_owners.Goals as goal

pub find_tables-requires-clause-small : goal.find_tables-requires-clause-small
find_tables-requires-clause-small c = small_owners c.args.program.now c.name_count-count.result c.as_slice-3.result.now (subst (IsListed (length c.args.program.now.classes) (λ d. owner_entries c.args.program.now c.name_count-count.result d (places_of d 0 (field_owners c.args.program.now.fields)))) (sym c.as_slice-3.ensures.value) c.in_ok-entries.ensures)
