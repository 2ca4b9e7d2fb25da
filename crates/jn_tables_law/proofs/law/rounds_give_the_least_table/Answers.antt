use Rattle.jn_tables_law.proofs.Climbing.{least_respects, least_least, least_unique}
use Rattle.jn_tables_law.proofs.LeastTables.{least_is}
use Rattle.jn_tables_law.proofs.law.rounds_give_the_least_table.Goals as goal

pub returns : goal.returns
returns c = record {
  exists = least_is;
  respects = λ P s b t inside is. least_respects P s b inside t is;
  least = λ P s b t u inside is l r. least_least P s b inside t u is l r;
  unique = λ P s b t u is iu. least_unique P s b t u is iu;
}
