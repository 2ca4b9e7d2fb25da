use Rattle.std.proofs.Common.{◌≡◌, map, take}
use Rattle.jn_front.specs.Files.{files_of_reads}
use Rattle.nullcheck_top.specs.Report.{placed_note}
use Rattle.nullcheck_top.proofs.notes.placed_notes.Given as goal

abbrev pub invariant-loop-note : goal.invariant-loop-note
invariant-loop-note l = l.placed ≡ map (placed_note (files_of_reads l.files)) (take l.note-index l.notes)
