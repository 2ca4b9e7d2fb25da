use Rattle.nullcheck_annotate_top.proofs.Meaning.{keeps_meaning}
use Rattle.nullcheck_annotate_top.proofs.law.annotated_files_mean_the_same.Goals as goal

pub returns : goal.returns
returns c = keeps_meaning c.annotating_keeps_meaning.ensures.rowless
