use Rattle.jn_annotate_law.proofs.Saying.{kept_answer}
use Rattle.jn_annotate_law.proofs.law.annotated_answers_keep_meaning.Goals as goal

pub returns : goal.returns
returns c = kept_answer
