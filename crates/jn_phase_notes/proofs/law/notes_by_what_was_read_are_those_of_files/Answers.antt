use Rattle.jn_phase_notes.proofs.Reading.{notes_of, notes_of_many}
use Rattle.jn_phase_notes.proofs.law.notes_by_what_was_read_are_those_of_files.Goals as goal

pub returns-clause-read : goal.returns-clause-read
returns-clause-read c = notes_of

pub returns-clause-many : goal.returns-clause-many
returns-clause-many c = notes_of_many
