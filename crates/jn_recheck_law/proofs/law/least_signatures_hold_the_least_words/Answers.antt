use Rattle.jn_recheck_law.proofs.LeastWords.{words_are_least}
use Rattle.jn_recheck_law.proofs.law.least_signatures_hold_the_least_words.Goals as goal

pub returns : goal.returns
returns c = λ P s words start can is packed holds packed_start starts. words_are_least P can start packed_start starts s is words packed holds
