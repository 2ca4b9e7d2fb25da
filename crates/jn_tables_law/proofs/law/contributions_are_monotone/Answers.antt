use Rattle.jn_tables_law.proofs.Sends.{sent_above}
use Rattle.jn_tables_law.proofs.Tables.{tables_above}
use Rattle.jn_tables_law.proofs.law.contributions_are_monotone.Goals as goal

pub returns : goal.returns
returns c = record {
  tables = λ P b T U x w m. sent_above P b T U w x m;
  signatures = λ P s t b T U x inside w lt lu m. sent_above P b T U (tables_above P s t b w T U inside lt lu) x m;
}
