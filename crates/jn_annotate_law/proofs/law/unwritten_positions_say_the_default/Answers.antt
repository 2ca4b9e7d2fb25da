use Rattle.jn_annotate_law.proofs.Meanings.{says_default}
use Rattle.jn_annotate_law.proofs.law.unwritten_positions_say_the_default.Goals as goal

pub returns : goal.returns
returns c = says_default
