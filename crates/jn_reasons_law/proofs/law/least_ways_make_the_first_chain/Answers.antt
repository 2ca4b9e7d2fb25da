use Rattle.jn_reasons_law.proofs.Walking.{walk_is_first}
use Rattle.jn_reasons_law.proofs.law.least_ways_make_the_first_chain.Goals as goal

pub returns : goal.returns
returns c = walk_is_first
