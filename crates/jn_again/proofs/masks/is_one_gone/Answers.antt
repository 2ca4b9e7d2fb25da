use Rattle.std.proofs.Common.{bit_or, eqb-true}
use Rattle.jn_resume.proofs.AtRest.{or_same}
use Rattle.jn_again.proofs.Gone.{same_or}
use Rattle.jn_again.proofs.masks.is_one_gone.Goals as goal

pub returns : goal.returns
returns c = λ e. same_or c.args.output.1 c.word_at.result c.word_at-2.result _ _ c.word_at.ensures c.word_at-2.ensures (or_same (bit_or c.word_at.result c.word_at-2.result) c.args.output.1 (eqb-true (bit_or (bit_or c.word_at.result c.word_at-2.result) c.args.output.1) (bit_or c.word_at.result c.word_at-2.result) e))
