-- What is said beside rows J7: the type that is found, and the one that is wanted, in words that end before the place.
use Rattle.std.specs.Prelude.{ℕ, List, [], ◌∷◌, ◌++◌, codes, false, map, Option, Some, None}
use Rattle.jn_base.specs.declared.place.Row.{Row}
use Rattle.jn_base.specs.declared.place.Span.{Span}
use Rattle.jn_points.specs.declared.point.BaseType.{BaseType}
use Rattle.jn_points.specs.declared.point.BaseType.TheVariants.{Int, Bool as BoolBase, Void, Null as NullBase, Ref, Array}
use Rattle.jn_points.specs.declared.point.Elem.{Elem}
use Rattle.jn_points.specs.declared.point.Elem.TheVariants.{Int as IntElem, Bool as BoolElem, Ref as RefElem}
use Rattle.jn_points.specs.declared.program.Class.{Class}
use Rattle.jn_points.specs.declared.program.Program.{Program}
use Rattle.jn_points.specs.Lookup.{class_info}
use Rattle.jn_places.specs.Placed.{PlacedFile}
use Rattle.jn_heads.specs.Extract.{heads}
use Rattle.jn_classtable.specs.Rows.{t_rows}
use Rattle.jn_program_law.specs.FileProgram.{j_rows, program_of_files}
use Rattle.jn_note_words.specs.declared.note.Note.{Note}
use Rattle.jn_note_words.specs.Worded.{text_at}
use Rattle.jn_type_notes.specs.declared.mismatch.Mismatch.{Mismatch}
use Rattle.jn_basecheck.specs.declared.types.Want.{Want}
use Rattle.jn_basecheck.specs.declared.types.Want.TheVariants.{Within, Primitive, Same, Reference, Elements, Joinable, Printable, Valued}
use Rattle.jn_type_notes.specs.Mismatched.{program_found}

-- a class's name, empty where there is no such class
abbrev pub class_words : List (List ℕ) → Option Class → List ℕ
class_words names None = []
class_words names (Some x) = text_at names x.name.0

-- what stands after the type of an array's elements
abbrev pub back_words : BaseType → List ℕ
back_words (Array e nullable) = codes "[]"
back_words t = []

module _ (names : List (List ℕ)) (P : Program) where
  -- the type of an array's elements
  abbrev pub elem_words : Elem → List ℕ
  elem_words IntElem = codes "int"
  elem_words BoolElem = codes "boolean"
  elem_words (RefElem c) = class_words names (class_info P c.0)

  -- a type, or that of an array's elements
  abbrev pub front_words : BaseType → List ℕ
  front_words Int = codes "int"
  front_words BoolBase = codes "boolean"
  front_words Void = codes "void"
  front_words NullBase = codes "null"
  front_words (Ref c) = class_words names (class_info P c.0)
  front_words (Array e nullable) = elem_words e

  -- a type as it is written, as a word of code (JLS 8, 4.2 and 4.3)
  unfoldable pub quoted : BaseType → List ℕ
  quoted t = codes "`" ++ front_words t ++ back_words t ++ codes "`"

  -- what is wanted
  abbrev pub want_words : Want → List ℕ
  want_words (Within t) = quoted t
  want_words (Same t) = quoted t
  want_words Primitive = codes "an `int` or a `boolean`"
  want_words Reference = codes "an object or an array"
  want_words Elements = codes "an array"
  want_words Joinable = codes "a `String`, an `int`, a `boolean` or `null`"
  want_words Printable = codes "a `String`, an `int` or a `boolean`"
  want_words Valued = codes "a value"

  -- an operand whose type doesn't fit, at its place
  abbrev pub mismatch_note : Mismatch → Note
  mismatch_note m = record { joined = false; ends = false; words = quoted m.found ++ codes " is found where " ++ want_words m.want ++ codes " is wanted at"; span = m.span }

  -- all of the program
  abbrev pub program_notes : List Note
  program_notes = map mismatch_note (program_found P)

-- those of files that have a program, which no row T1 to T10 or J1 to J6 refuses
abbrev pub notes_if : List Row → List Row → List Note → List Note
notes_if [] [] notes = notes
notes_if [] (row ∷ rows) notes = []
notes_if (row ∷ rows) others notes = []

-- those of files
abbrev pub type_notes : List (List ℕ) → List PlacedFile → List Note
type_notes names trees = notes_if (t_rows (heads trees)) (j_rows trees) (program_notes names (program_of_files trees))

-- where a note stands
abbrev pub note_span : Note → Span
note_span note = note.span
