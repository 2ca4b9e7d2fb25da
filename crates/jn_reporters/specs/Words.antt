-- What a reporter for people says of a code: what is wrong, and what to do about it; and what it says of a note.
use Rattle.std.specs.Prelude.{ℕ, ◌++◌, List, [], ◌∷◌, codes, decimal, if◌then◌else◌}
use Rattle.jn_base.specs.Messages.{code_cure, code_message}
use Rattle.jn_base.specs.declared.code.Code.{Code}
use Rattle.jn_reporters.specs.declared.shown.ShownNote.{ShownNote}

abbrev pub told : Code → List ℕ
told code = code_message code ++ codes "; cure: " ++ code_cure code

-- TEXT FILE:LINE:COL
abbrev pub note_words : ShownNote → List ℕ
note_words note = note.text ++ codes " " ++ note.name ++ codes ":" ++ decimal note.line ++ codes ":" ++ decimal note.col

-- a note that goes on with the one before it
unfoldable pub joined_note : ShownNote → List ℕ
joined_note note = codes ", " ++ note_words note

-- those at the front that go on with the one before them
abbrev pub joined_notes : List ShownNote → List ℕ
joined_notes [] = []
joined_notes (note ∷ notes) = if note.joined then joined_note note ++ joined_notes notes else []

-- the first note, with what goes on with it, after what is told of the code; nothing where there is none
unfoldable pub first_note : List ShownNote → List ℕ
first_note [] = []
first_note (note ∷ notes) = codes "; note: " ++ note_words note ++ joined_notes notes

-- MESSAGE; cure: CURE; note: NOTE
abbrev pub told_noted : Code → List ShownNote → List ℕ
told_noted code notes = told code ++ first_note notes
