use Rattle.jn_phase_notes.proofs.Having.{has_note}
use Rattle.jn_phase_notes.proofs.law.rows_of_types_have_notes.Goals as goal

pub returns : goal.returns
returns c = λ names infer trees row t j base code. has_note names trees row code (c.rows_have_notes.ensures names infer trees row t j base code)
