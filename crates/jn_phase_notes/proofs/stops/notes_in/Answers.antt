use Rattle.jn_phase_notes.proofs.Stopping.{noted_in}
use Rattle.jn_phase_notes.proofs.stops.notes_in.Goals as goal

pub returns : goal.returns
returns c = noted_in c.args.read.now.file c.as_slice.result.now c.args.span c.in_ok-note.note c.stop_notes.result c.as_slice.ensures c.in_ok-note.ensures c.stop_notes.ensures
