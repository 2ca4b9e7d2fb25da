use Rattle.jn_annotate_law.proofs.Mixed.{mixed_alike}
use Rattle.jn_annotate_law.proofs.law.mixed_files_have_alike_programs.Goals as goal

pub returns : goal.returns
returns c = mixed_alike
