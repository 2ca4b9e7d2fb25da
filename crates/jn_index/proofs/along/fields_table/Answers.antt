use Rattle.std.proofs.Common.{length}
use Rattle.jn_index.proofs.Offers.{small_fields, small_as, fields_some}
use Rattle.jn_index.proofs.along.fields_table.Goals as goal

pub find_tables-requires-clause-small : goal.find_tables-requires-clause-small
find_tables-requires-clause-small c = small_as c.in_ok-entries.entries.items c.as_slice.result.now c.len.result (length c.args.program.now.fields) c.as_slice.ensures.value c.len.ensures (small_fields c.args.program.now c.args.named.now c.args.own.now c.in_ok-entries.entries.items c.in_ok-entries.ensures)

pub returns-clause-are : goal.returns-clause-are
returns-clause-are c = fields_some c.args.program.now c.args.own.now c.args.named.now c.in_ok-entries.entries.items c.as_slice.result.now c.len.result c.in_ok-table.table c.as_slice.ensures.value c.len.ensures c.requires.own c.in_ok-entries.ensures c.in_ok-table.ensures.is
