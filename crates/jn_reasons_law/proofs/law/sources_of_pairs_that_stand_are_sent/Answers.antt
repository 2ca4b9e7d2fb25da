use Rattle.jn_reasons_law.proofs.Pairs.{pair_sources_sent}
use Rattle.jn_reasons_law.proofs.law.sources_of_pairs_that_stand_are_sent.Goals as goal

pub returns : goal.returns
returns c = pair_sources_sent
