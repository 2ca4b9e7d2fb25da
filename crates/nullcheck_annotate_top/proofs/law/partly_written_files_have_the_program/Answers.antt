use Rattle.nullcheck_annotate_top.proofs.Meaning.{keeps_program}
use Rattle.nullcheck_annotate_top.proofs.law.partly_written_files_have_the_program.Goals as goal

pub returns : goal.returns
returns c = keeps_program c.mixed_files_have_alike_programs.ensures
