use Rattle.jn_annotate_law.proofs.Meant.{means_partly}
use Rattle.jn_annotate_law.proofs.law.partly_written_programs_mean_what_was_inferred.Goals as goal

pub returns : goal.returns
returns c = means_partly
