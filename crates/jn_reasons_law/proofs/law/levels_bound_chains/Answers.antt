use Rattle.jn_reasons_law.proofs.Walking.{levels_bound}
use Rattle.jn_reasons_law.proofs.law.levels_bound_chains.Goals as goal

pub returns : goal.returns
returns c = levels_bound
