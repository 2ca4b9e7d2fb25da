-- The note of a row J7: that of the first operand at its place whose type doesn't fit.
use Rattle.std.specs.Prelude.{List, find, Option}
use Rattle.jn_base.specs.declared.place.Span.{Span}
use Rattle.jn_note_words.specs.declared.note.Note.{Note}
use Rattle.jn_notes.specs.Asked.{same_span}

-- the first that stands at the place
abbrev pub note_at : List Note → Span → Option Note
note_at notes span = find (λ (n : Note). same_span n.span span) notes
