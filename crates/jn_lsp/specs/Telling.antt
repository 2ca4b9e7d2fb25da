-- What is told of files: the rows of their report, each with its notes, at the files where they stand.
use Rattle.std.specs.Prelude.{ℕ, ◌+◌, ◌==◌, List, [], ◌∷◌, ◌++◌, drop, bytes_eq, Option, Some, None, if◌then◌else◌}
use Rattle.jn_base.specs.declared.place.Row.{Row}
use Rattle.jn_front.specs.declared.source.SourceFile.{SourceFile}
use Rattle.jn_lsp_solved.specs.Related.{diagnostic_of, home}
use Rattle.jn_lsp_text.specs.declared.encoding.Encoding.{Encoding}
use Rattle.jn_lsp_text.specs.declared.reply.Diagnostic.{Diagnostic}
use Rattle.jn_note_words.specs.declared.note.Note.{Note}
use Rattle.jn_note_words.specs.declared.note.Notes.{Notes}
use Rattle.jn_recheck.specs.Files.{place_of}
use Rattle.jn_lsp.specs.declared.diagnostics.Told.{Told}

-- ---- diagnostics

-- the notes that are shown of a list's first row; none where the list is shorter
abbrev pub first_shown : List Notes → List Note
first_shown [] = []
first_shown (first ∷ notes) = first.shown

abbrev pub notes_behind : List Notes → List Notes
notes_behind [] = []
notes_behind (first ∷ notes) = notes

-- that of a row which stands at the file of a number; none elsewhere
abbrev pub diagnostics_of_row : Encoding → List SourceFile → Row → List Note → ℕ → List Diagnostic
diagnostics_of_row encoding files row shown at = if home files row.span == at then diagnostic_of encoding files row shown ∷ [] else []

-- those of the rows that stand at the file of a number, in their order, each with the notes at its place
abbrev pub diagnostics_at : Encoding → List SourceFile → List Row → List Notes → ℕ → List Diagnostic
diagnostics_at encoding files [] notes at = []
diagnostics_at encoding files (row ∷ rows) notes at = diagnostics_of_row encoding files row (first_shown notes) at ++ diagnostics_at encoding files rows (notes_behind notes) at

-- what this gives of a place; of none nothing
abbrev pub diagnostics_of_place : (ℕ → List Diagnostic) → Option ℕ → List Diagnostic
diagnostics_of_place diagnostics None = []
diagnostics_of_place diagnostics (Some at) = diagnostics at

-- what this gives of the number of the file of a name; a name that doesn't stand has none
abbrev pub diagnostics_of : (ℕ → List Diagnostic) → List SourceFile → List ℕ → List Diagnostic
diagnostics_of diagnostics files name = diagnostics_of_place diagnostics (place_of name files)

-- the notes that are shown of the row of a number
abbrev pub shown_at : List Notes → ℕ → List Note
shown_at notes at = first_shown (drop at notes)

-- ---- what is told

-- of the files from a number on, of each what this gives of its number
abbrev pub told_from : (ℕ → List Diagnostic) → ℕ → List SourceFile → List Told
told_from diagnostics at [] = []
told_from diagnostics at (file ∷ files) = record { name = file.name; diagnostics = diagnostics at } ∷ told_from diagnostics (at + 1) files

-- what is told of a name; none where nothing is
abbrev pub told_of : List Told → List ℕ → List Diagnostic
told_of [] name = []
told_of (one ∷ told) name = if bytes_eq one.name name then one.diagnostics else told_of told name
