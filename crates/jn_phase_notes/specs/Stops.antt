-- The notes of rows of files that have no trees: beside a row of a file's syntax, where its text stops being of the subset.
use Rattle.std.specs.Prelude.{◌≡◌, Bool, true, false, List, [], ◌∷◌, Option, Some, None, slice_get}
use Rattle.jn_base.specs.declared.code.Code.{Code}
use Rattle.jn_base.specs.declared.code.Code.TheVariants.{S1}
use Rattle.jn_base.specs.declared.place.Row.{Row}
use Rattle.jn_base.specs.declared.place.Span.{Span}
use Rattle.jn_follow.specs.declared.noting.StopNote.{StopNote}
use Rattle.jn_follow.specs.StopNotes.{NoteBeside}
use Rattle.jn_front.specs.declared.source.SourceFile.{SourceFile}
use Rattle.jn_note_words.specs.declared.note.Note.{Note}
use Rattle.jn_note_words.specs.declared.note.Notes.{Notes}
use Rattle.jn_notes.specs.Noted.{no_notes}

-- the row says that a file's tokens are no file of the subset
abbrev pub is_syntax : Code → Bool
is_syntax S1 = true
is_syntax _ = false

-- a note as the one note of a row, or no note
abbrev pub one_note : Option Note → Notes
one_note None = no_notes
one_note (Some note) = record { shown = note ∷ []; more = 0 }

-- the note that says where a text stops being of the subset, as the one note of a row, or no note
abbrev pub stop_notes : Option StopNote → Notes
stop_notes None = no_notes
stop_notes (Some note) = one_note (Some (record { joined = false; ends = false; words = note.words; span = note.span }))

-- of a row at this place in this file: where its text stops being of the subset, where that is another place
abbrev pub AreStopsIn : Option SourceFile → Span → Notes → Type 0
AreStopsIn None span notes = notes ≡ no_notes
AreStopsIn (Some file) span notes = (note : Option StopNote) × NoteBeside span.file file.bytes span note × (notes ≡ stop_notes note)

-- the same of a row of a file's syntax; other rows have no note
abbrev pub AreStopsBy : Bool → Option SourceFile → Span → Notes → Type 0
AreStopsBy false file span notes = notes ≡ no_notes
AreStopsBy true file span notes = AreStopsIn file span notes

-- row by row
abbrev pub AreStops : List SourceFile → List Row → List Notes → Type 0
AreStops files [] [] = Unit {0}
AreStops files [] (n ∷ notes) = ⊥
AreStops files (row ∷ rows) [] = ⊥
AreStops files (row ∷ rows) (n ∷ notes) = AreStopsBy (is_syntax row.code) (slice_get files row.span.file.0) row.span n × AreStops files rows notes
