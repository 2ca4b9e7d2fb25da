use Rattle.jn_heads_law.proofs.HeadRows.{head_rows_alike}
use Rattle.jn_heads_law.proofs.Tables.{tables_alike}
use Rattle.jn_heads_law.proofs.law.alike_heads_have_alike_tables.Goals as goal

pub returns : goal.returns
returns c = record { tables = tables_alike; rows = head_rows_alike }
