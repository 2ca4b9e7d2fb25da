-- What a row J2 may mean: the methods, constructors or fields of the name that stands there, and the class of which there are no objects (JLS 8, 8.1.1.1 and 15.12.2).
use Rattle.std.specs.Prelude.{ℕ, Bool, cond, not, ◌&&◌, ◌||◌, eqb, List, [], ◌∷◌, ◌++◌, codes, decimal, false, find, flat_map, length, map, take, ◌-◌, Option, Some, None}
use Rattle.jn_base.specs.declared.number.NameNo.{NameNo}
use Rattle.jn_base.specs.declared.place.Span.{Span}
use Rattle.jn_points.specs.declared.program.Class.{Class}
use Rattle.jn_points.specs.declared.program.Field.{Field}
use Rattle.jn_points.specs.declared.program.Method.{Method}
use Rattle.jn_points.specs.declared.program.Program.{Program}
use Rattle.jn_points.specs.Lookup.{class_info}
use Rattle.jn_points.specs.Members.{first_at}
use Rattle.jn_heads.specs.Heads.{no_span}
use Rattle.jn_note_words.specs.declared.note.Note.{Note}
use Rattle.jn_note_words.specs.declared.note.Notes.{Notes}
use Rattle.jn_notes.specs.Asked.{same_span}
use Rattle.jn_notes.specs.Noted.{most_shown, no_notes}
use Rattle.jn_note_words.specs.Worded.{text_at}
use Rattle.jn_phase_notes.specs.declared.candidates.Candidate.{Candidate}
use Rattle.jn_phase_notes.specs.declared.candidates.How.{How}
use Rattle.jn_phase_notes.specs.declared.candidates.How.TheVariants.{OtherArity, OtherMaker, StaticMethod, AbstractMethod, ObjectMethod, StaticField, ObjectField, AbstractClass, InterfaceType}
use Rattle.jn_phase_notes.specs.declared.mentioning.Kind.{Kind}
use Rattle.jn_phase_notes.specs.declared.mentioning.Kind.TheVariants.{Calls, Makes, Builds, Reads}
use Rattle.jn_phase_notes.specs.declared.mentioning.Mention.{Mention}

-- a class's name, where there is such a class
abbrev pub name_or : NameNo → Option Class → NameNo
name_or n None = n
name_or n (Some x) = x.name

-- what a method is to a call with so many arguments
abbrev pub method_how : ℕ → Method → How
method_how k m = cond (eqb (length m.params) k) (cond m.is_static StaticMethod (cond m.is_abstract AbstractMethod ObjectMethod)) OtherArity

-- a class of which `new` makes no object (JLS 8, 15.9.1)
abbrev pub bare_class : Option Class → List Candidate
bare_class None = []
bare_class (Some x) = cond (x.interface || x.is_abstract) (record { how = cond x.interface InterfaceType AbstractClass; name = x.name; owner = x.name; params = 0; span = x.span } ∷ []) []

module _ (P : Program) where
  -- a method, if it has that name
  abbrev pub called : ℕ → ℕ → Method → List Candidate
  called n k m = cond (not m.ctor && eqb m.name.0 n) (record { how = method_how k m; name = m.name; owner = name_or m.name (class_info P m.owner.0); params = length m.params; span = m.span } ∷ []) []

  -- a constructor that is written, if it is that class's and takes another number of arguments
  abbrev pub maker : ℕ → ℕ → Method → List Candidate
  maker c k m = cond (m.ctor && eqb m.owner.0 c && not (eqb (length m.params) k) && not (same_span m.span no_span)) (record { how = OtherMaker; name = m.name; owner = name_or m.name (class_info P m.owner.0); params = length m.params; span = m.span } ∷ []) []

  -- a field, if it has that name
  abbrev pub read : ℕ → Field → List Candidate
  read n f = cond (eqb f.name.0 n) (record { how = cond f.is_static StaticField ObjectField; name = f.name; owner = name_or f.name (class_info P f.owner.0); params = 0; span = f.span } ∷ []) []

  -- the number of the first class of the name
  abbrev pub class_number : ℕ → Option ℕ
  class_number n = first_at (λ (x : Class). eqb x.name.0 n) 0 P.classes

  -- by the class whose constructor is called by another one
  abbrev pub builders : ℕ → Option ℕ → List Candidate
  builders k None = []
  builders k (Some c) = flat_map (maker c k) P.methods

  -- by the class of which an object is made
  abbrev pub makers : ℕ → Option ℕ → List Candidate
  makers k None = []
  makers k (Some c) = bare_class (class_info P c) ++ flat_map (maker c k) P.methods

  -- what has the name, by what it is named as
  abbrev pub candidates : ℕ → ℕ → Kind → List Candidate
  candidates n k Calls = flat_map (called n k) P.methods
  candidates n k Makes = makers k (class_number n)
  candidates n k Builds = builders k (class_number n)
  candidates n k Reads = flat_map (read n) P.fields

-- how many arguments there are
abbrev pub arguments_words : ℕ → List ℕ
arguments_words k = cond (eqb k 0) (codes "no arguments stand here, and ") (cond (eqb k 1) (codes "1 argument stands here, and ") (decimal k ++ codes " arguments stand here, and "))

-- how many are taken
abbrev pub takes_words : ℕ → List ℕ
takes_words k = cond (eqb k 0) (codes " takes no parameters, as declared at") (cond (eqb k 1) (codes " takes 1 parameter, as declared at") (codes " takes " ++ decimal k ++ codes " parameters, as declared at"))

-- what is said before the candidate
abbrev pub lead_words : How → ℕ → List ℕ
lead_words OtherArity k = arguments_words k
lead_words OtherMaker k = arguments_words k
lead_words how k = []

-- the candidate, by its name and its class's
abbrev pub subject_words : How → List ℕ → List ℕ → List ℕ
subject_words OtherMaker name owner = codes "the constructor of `" ++ owner ++ codes "`"
subject_words AbstractClass name owner = codes "`" ++ name ++ codes "`"
subject_words InterfaceType name owner = codes "`" ++ name ++ codes "`"
subject_words how name owner = codes "`" ++ name ++ codes "` of `" ++ owner ++ codes "`"

-- what is said of it, up to the place
abbrev pub tail_words : How → ℕ → List ℕ
tail_words OtherArity k = takes_words k
tail_words OtherMaker k = takes_words k
tail_words StaticMethod k = codes " takes as many and is static, as declared at"
tail_words AbstractMethod k = codes " takes as many and is abstract, as declared at"
tail_words ObjectMethod k = codes " takes as many and is not static, as declared at"
tail_words StaticField k = codes " is static, as declared at"
tail_words ObjectField k = codes " is not static, as declared at"
tail_words AbstractClass k = codes " is abstract, as declared at"
tail_words InterfaceType k = codes " is an interface, as declared at"

-- a candidate in words, and where it is declared
abbrev pub candidate_note : List (List ℕ) → ℕ → Candidate → Note
candidate_note names k x = record { joined = false; ends = false; words = lead_words x.how k ++ subject_words x.how (text_at names x.name.0) (text_at names x.owner.0) ++ tail_words x.how x.params; span = x.span }

-- the first 8 of them
abbrev pub candidate_notes : List (List ℕ) → ℕ → List Candidate → Notes
candidate_notes names k xs = record { shown = map (candidate_note names k) (take most_shown xs); more = length xs - most_shown }

-- the notes of what is named at a place
abbrev pub mention_notes : List (List ℕ) → Program → Option Mention → Notes
mention_notes names P None = no_notes
mention_notes names P (Some m) = candidate_notes names m.arguments (candidates P m.name.0 m.arguments m.kind)

-- of a row J2 at a place, by all that is named in the files
abbrev pub member_notes : List (List ℕ) → Program → List Mention → Span → Notes
member_notes names P ms span = mention_notes names P (find (λ (m : Mention). same_span m.span span) ms)
