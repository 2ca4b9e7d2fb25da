use Rattle.jn_voided.proofs.Pairing.{one_first}
use Rattle.jn_voided.proofs.law.first_pairs_are_unique.Goals as goal

pub returns : goal.returns
returns c = λ P s b t k read one other h i. one_first P s b t k read one other h i
