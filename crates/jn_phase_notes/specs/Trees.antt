-- The notes of rows of files that have trees: beside a row of the class table or a second local, the other declaration of which it speaks; beside a member that isn't there, those of its name; beside a form that isn't of the subset, its cause; beside a type that doesn't fit, it and the one that is wanted.
use Rattle.std.specs.Prelude.{ℕ, Bool, true, cond, List, [], ◌++◌, codes, find, Option, option_map, false}
use Rattle.jn_base.specs.declared.code.Code.{Code}
use Rattle.jn_base.specs.declared.code.Code.TheVariants.{J1, J2, J5, J7, T1, T4, T5, T6, T7}
use Rattle.jn_base.specs.declared.place.Row.{Row}
use Rattle.jn_base.specs.declared.place.Span.{Span}
use Rattle.jn_points.specs.declared.program.Program.{Program}
use Rattle.jn_trees.specs.declared.expression.Identifier.{Identifier}
use Rattle.jn_places.specs.Placed.{PlacedFile}
use Rattle.jn_heads.specs.declared.head.ClassHead.{ClassHead}
use Rattle.jn_heads.specs.Extract.{heads}
use Rattle.jn_classtable.specs.Table.{table}
use Rattle.jn_note_words.specs.declared.note.Note.{Note}
use Rattle.jn_note_words.specs.declared.note.Notes.{Notes}
use Rattle.jn_notes.specs.Asked.{same_span}
use Rattle.jn_note_words.specs.Worded.{text_at}
use Rattle.jn_refused_notes.specs.Refused.{files_refusals}
use Rattle.jn_type_notes.specs.Wording.{type_notes}
use Rattle.jn_phase_notes.specs.declared.repeated.Second.{Second}
use Rattle.jn_phase_notes.specs.declared.trees.Gathered.{Gathered}
use Rattle.jn_phase_notes.specs.Earlier.{files_seconds}
use Rattle.jn_phase_notes.specs.Mentions.{files_mentions}
use Rattle.jn_phase_notes.specs.Others.{other}
use Rattle.jn_phase_notes.specs.Possible.{member_notes}
use Rattle.jn_phase_notes.specs.Stops.{one_note}
use Rattle.jn_phase_notes.specs.Told.{cause_note}
use Rattle.jn_phase_notes.specs.Wanting.{note_at}

-- what is said before the name of the other declaration
abbrev pub words_before : Code → List ℕ
words_before T5 = codes "it doesn't agree with `"
words_before T7 = codes "it hides the field `"
words_before code = codes "`"

-- what is said after it, up to the place
abbrev pub words_behind : Code → List ℕ
words_behind T1 = codes "` is first declared at"
words_behind J1 = codes "` is first declared at"
words_behind T4 = codes "` with as many parameters is first declared at"
words_behind T6 = codes "` has no body, as declared at"
words_behind code = codes "`, as declared at"

-- the other declaration in words, and where it stands
abbrev pub other_note : List (List ℕ) → Code → Identifier → Note
other_note names code x = record { joined = false; ends = false; words = words_before code ++ text_at names x.name.0 ++ words_behind code; span = x.span }

-- the local or parameter that stands where one of its name is declared at a place
abbrev pub first_local : List Second → Span → Option Identifier
first_local ss span = option_map (λ (x : Second). x.first) (find (λ (x : Second). same_span x.span span) ss)

-- what is read off trees: the second locals, the members that are named, what may not be of the subset, and, where they are wanted, the types that don't fit
abbrev pub gathered : Bool → List (List ℕ) → List PlacedFile → Gathered
gathered typed names trees = record { seconds = files_seconds trees; mentions = files_mentions trees; refusals = files_refusals trees; types = cond typed (type_notes names trees) [] }

-- the notes of a row, by what is declared and read off: that of the other declaration, where it speaks of one, those of the members that it may mean, that of its cause, or that of the types
abbrev pub notes_by : List (List ℕ) → List ClassHead → Program → Gathered → Span → Code → Notes
notes_by names hs P g span J1 = one_note (option_map (other_note names J1) (first_local g.seconds span))
notes_by names hs P g span J2 = member_notes names P g.mentions span
notes_by names hs P g span J5 = one_note (cause_note g.refusals span)
notes_by names hs P g span J7 = one_note (note_at g.types span)
notes_by names hs P g span code = one_note (option_map (other_note names code) (other hs P span code))

-- the same of files
abbrev pub row_notes : List (List ℕ) → List PlacedFile → Row → Notes
row_notes names trees row = notes_by names (heads trees) (table (heads trees)) (gathered true names trees) row.span row.code
