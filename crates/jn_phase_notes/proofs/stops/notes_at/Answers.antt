use Rattle.jn_phase_notes.proofs.Stopping.{stops_nowhere, stops_there}
use Rattle.jn_phase_notes.proofs.stops.notes_at.Goals as goal

pub returns-then-file-reads : goal.returns-then-file-reads
returns-then-file-reads c = stops_there c.args.reads.now c.args.span c.index-reads-file.result c.notes_in.result c.if-file-reads.true c.index-reads-file.is c.notes_in.ensures

pub returns-else-file-reads : goal.returns-else-file-reads
returns-else-file-reads c = stops_nowhere c.args.reads.now c.args.span c.one_note.result c.if-file-reads.false c.one_note.ensures
