use Rattle.jn_tables_law.proofs.Inferring.{regular_inferable}
use Rattle.jn_tables_law.proofs.law.regular_programs_can_be_inferred.Goals as goal

pub returns : goal.returns
returns c = regular_inferable
