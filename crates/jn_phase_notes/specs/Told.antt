-- Which of its causes a row J5 has: the first of what may not be of the subset that stands at its place.
use Rattle.std.specs.Prelude.{List, false, find, Option, option_map}
use Rattle.jn_base.specs.declared.place.Span.{Span}
use Rattle.jn_note_words.specs.declared.note.Note.{Note}
use Rattle.jn_notes.specs.Asked.{same_span}
use Rattle.jn_refused_notes.specs.declared.causes.Refusal.{Refusal}
use Rattle.jn_refused_notes.specs.Told.{cause_words}

-- the first that stands at the place
abbrev pub refusal_at : List Refusal → Span → Option Refusal
refusal_at rs span = find (λ (r : Refusal). same_span r.span span) rs

-- its cause in words, and the place that is told of it
abbrev pub refusal_note : Refusal → Note
refusal_note r = record { joined = false; ends = false; words = cause_words r.cause; span = r.told }

-- the note of a row at the place
abbrev pub cause_note : List Refusal → Span → Option Note
cause_note rs span = option_map refusal_note (refusal_at rs span)
