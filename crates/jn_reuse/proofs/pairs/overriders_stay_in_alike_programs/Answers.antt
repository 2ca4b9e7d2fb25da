use Rattle.jn_reuse.proofs.PairsAlike.{overriders_same}
use Rattle.jn_reuse.proofs.pairs.overriders_stay_in_alike_programs.Goals as goal

pub returns : goal.returns
returns c = λ P Q list h are. overriders_same P Q h list are
