use Rattle.jn_annotate_law.proofs.Trimmed.{written_stays}
use Rattle.jn_annotate_law.proofs.law.least_signatures_keep_what_is_written.Goals as goal

pub returns : goal.returns
returns c = λ P s i can is l e. written_stays P s can is i l e
