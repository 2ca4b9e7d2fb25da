use Rattle.jn_inference_law.proofs.PairLaws.{pairs_grow, pairs_same}
use Rattle.jn_inference_law.proofs.law.pair_contributions_are_monotone.Goals as goal

pub returns : goal.returns
returns c = record { grow = λ P s t m x w h. pairs_grow P s t w x m h; same = pairs_same }
