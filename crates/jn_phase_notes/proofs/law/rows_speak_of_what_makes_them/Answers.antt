use Rattle.std.proofs.Common.{refl}
use Rattle.jn_phase_notes.proofs.Clashing.{some_clash}
use Rattle.jn_phase_notes.proofs.law.rows_speak_of_what_makes_them.Goals as goal

pub returns-clause-overriding : goal.returns-clause-overriding
returns-clause-overriding c P m x = some_clash P m x

pub returns-clause-bodies : goal.returns-clause-bodies
returns-clause-bodies c P k x = refl

pub returns-clause-hiding : goal.returns-clause-hiding
returns-clause-hiding c P x = refl
