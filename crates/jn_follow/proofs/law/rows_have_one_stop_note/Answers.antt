use Rattle.jn_follow.proofs.Noted.{note_file, one_note}
use Rattle.jn_follow.proofs.law.rows_have_one_stop_note.Goals as goal

pub returns : goal.returns
returns c = record { one = one_note c.texts_have_one_reading.ensures.one; stands = note_file }
