-- The parts are put together in `Program`.
use Rattle.jn_program_law.proofs.Program.{program_regular}
use Rattle.jn_program_law.proofs.law.programs_of_files_are_regular.Goals as goal

pub returns : goal.returns
returns c = λ files none fields methods. program_regular files none fields methods
