-- The note of a test that isn't kept, which stands before those of a row's chain: why nothing is known of the value, and where it was tested.
use Rattle.std.specs.Prelude.{ℕ, false, codes, List, [], ◌∷◌, ◌++◌, Option, Some, None}
use Rattle.jn_points.specs.declared.program.Program.{Program}
use Rattle.jn_points.specs.Lookup.{point_at}
use Rattle.jn_reasons_law.specs.declared.item.Bit.TheVariants.{Nullable}
use Rattle.jn_reasons_law.specs.declared.item.Item.{Item}
use Rattle.jn_reasons_law.specs.declared.item.Item.TheVariants.{AtRegister}
use Rattle.jn_unkept.specs.declared.search.Reading.{Reading}
use Rattle.jn_unkept.specs.declared.search.Reading.TheVariants.{OfField, OfElement, OfResult, Stored}
use Rattle.jn_unkept.specs.declared.search.Unkept.{Unkept}
use Rattle.jn_unkept.specs.Unkept.{unkept}
use Rattle.jn_note_words.specs.declared.note.Note.{Note}
use Rattle.jn_note_words.specs.declared.note.Notes.{Notes}
use Rattle.jn_note_words.specs.Worded.{point_span}

-- why a test isn't kept of a value that is read so, up to the place of the test
abbrev pub reading_words : Reading → List ℕ
reading_words OfField = codes "what a test says of a field isn't kept where its object is in no local: it was tested at"
reading_words OfElement = codes "what a test says of an element isn't kept: it was tested at"
reading_words OfResult = codes "what a test says of a method's result isn't kept: it was tested at"
reading_words Stored = codes "what a test says isn't kept where its result is stored: it was tested at"

module _ (P : Program) where
  -- the note of a test of body b
  abbrev pub unkept_note : ℕ → Unkept → Note
  unkept_note b v = record { joined = false; ends = false; words = reading_words v.reading; span = point_span (point_at P b v.tested) }

  -- the same where there is such a test
  abbrev pub notes_by : ℕ → Option Unkept → List Note
  notes_by b None = []
  notes_by b (Some v) = unkept_note b v ∷ []

  -- of a register that may be null at a point
  abbrev pub item_notes : Item → List Note
  item_notes (AtRegister b p r Nullable) = notes_by b (unkept P b (record { point = p; reg = r }))
  item_notes x = []

  -- of what a row speaks of
  abbrev pub unkept_notes : Option Item → List Note
  unkept_notes None = []
  unkept_notes (Some x) = item_notes x

  -- the note of a test that isn't kept, and then the others
  abbrev pub preceded : Option Item → Notes → Notes
  preceded x notes = record { shown = unkept_notes x ++ notes.shown; more = notes.more }
