-- The words of annotations whose names types of the files have: where such a type stands, no import brings the annotation (JLS 8, 6.4.1).
use Rattle.std.specs.Prelude.{ℕ, Bool, not, ◌&&◌, ◌||◌, cond, eqb, List}
use Rattle.jn_base.specs.declared.number.NameNo.{NameNo}
use Rattle.jn_known.specs.Known.{non_null_name, nullable_name, initialized_name, under_name, unknown_name}
use Rattle.jn_points.specs.declared.program.Field.{Field}
use Rattle.jn_points.specs.declared.program.Method.{Method}
use Rattle.jn_points.specs.declared.program.Program.{Program}
use Rattle.jn_points.specs.Members.{some_of}
use Rattle.jn_quals.specs.Qualifier.{Qualifier}
use Rattle.jn_sigs.specs.Signature.{is_slot}
use Rattle.jn_trees.specs.Trees.{TypeDeclaration, ClassType, InterfaceType, SourceTree}
use Rattle.jn_annotate.specs.declared.taken.TakenWords.{TakenWords}

abbrev pub type_name : TypeDeclaration → NameNo
type_name (ClassType ms n parent interfaces members) = n
type_name (InterfaceType ms n parents members) = n

abbrev pub is_called : ℕ → TypeDeclaration → Bool
is_called name t = eqb (type_name t).0 name

-- a type of the file has this name
abbrev pub declares_in : ℕ → SourceTree → Bool
declares_in name f = some_of (is_called name) f.types

-- a type of the files has it
abbrev pub declares : List SourceTree → ℕ → Bool
declares trees name = some_of (declares_in name) trees

abbrev pub taken_words : List SourceTree → TakenWords
taken_words trees = record {
  non_null = declares trees non_null_name;
  nullable = declares trees nullable_name;
  initialized = declares trees initialized_name;
  under = declares trees under_name;
  unknown = declares trees unknown_name;
}

-- a word that says the qualifier is such a word: the one for null, and the one for initialization

abbrev pub is_nullity_taken : TakenWords → Qualifier → Bool
is_nullity_taken taken q = cond q.null taken.nullable taken.non_null

abbrev pub is_initialization_taken : TakenWords → Qualifier → Bool
is_initialization_taken taken q = cond q.free (cond q.committed taken.unknown taken.under) taken.initialized

abbrev pub is_of_field : ℕ → Field → Bool
is_of_field i f = is_slot i f.slot

abbrev pub is_of_receiver : ℕ → Method → Bool
is_of_receiver i m = is_slot i m.receiver

-- one that the slot gets: a receiver gets none for null, a field none for initialization
unfoldable pub is_taken : TakenWords → Program → Qualifier → ℕ → Bool
is_taken taken P q i = (is_nullity_taken taken q && not (some_of (is_of_receiver i) P.methods)) || (is_initialization_taken taken q && not (some_of (is_of_field i) P.fields))
