use Rattle.jn_program_law.proofs.Marks.{inferring_regular}
use Rattle.jn_program_law.proofs.law.inferring_programs_are_regular.Goals as goal

pub returns : goal.returns
returns c = inferring_regular
