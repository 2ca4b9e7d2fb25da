use Rattle.jn_phase_notes.proofs.Stopping.{each_once}
use Rattle.jn_phase_notes.proofs.law.texts_have_one_list_of_notes.Goals as goal

pub returns : goal.returns
returns c files rows one other x y = each_once c.rows_have_one_stop_note.ensures.one files rows one other x y
