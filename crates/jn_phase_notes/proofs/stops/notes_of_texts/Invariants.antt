use Rattle.std.proofs.Common.{take}
use Rattle.jn_front.specs.Files.{files_of_reads}
use Rattle.jn_phase_notes.specs.Stops.{AreStops}
use Rattle.jn_phase_notes.proofs.stops.notes_of_texts.Given as goal

abbrev pub invariant-loop-row : goal.invariant-loop-row
invariant-loop-row l = AreStops (files_of_reads l.reads) (take l.row-index l.rows) l.list.items
