use Rattle.jn_program_law.proofs.Marks.{private_program, open_slots}
use Rattle.jn_program_law.proofs.law.more_members_are_inferred.Goals as goal

pub returns : goal.returns
returns c = record { private_ones = private_program; open_ones = open_slots }
