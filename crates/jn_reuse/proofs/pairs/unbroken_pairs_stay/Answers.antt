use Rattle.jn_reuse.proofs.PairsUnbroken.{pairs_none}
use Rattle.jn_reuse.proofs.pairs.unbroken_pairs_stay.Goals as goal

pub returns : goal.returns
returns c = λ names more P Q s heads d none. pairs_none names more P Q s heads d none
