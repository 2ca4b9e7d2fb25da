use Rattle.jn_tables_law.proofs.Tables.{tables_above}
use Rattle.jn_tables_law.proofs.law.least_tables_are_monotone.Goals as goal

pub returns : goal.returns
returns c = λ P s t b T U inside w lt lu. tables_above P s t b w T U inside lt lu
