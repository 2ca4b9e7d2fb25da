-- The texts of files with what was inferred of them, what is left without words, and what is refused.
use Rattle.std.specs.Prelude.{◌≡◌, ℕ, ◌+◌, ◌<◌, Bool, true, false, not, cond, ◌&&◌, ltb, List, [], ◌∷◌, filter, length, take, drop, Option, Some, None, slice_get, slice_index_or}
use Rattle.jn_base.specs.declared.number.SlotNo.{SlotNo}
use Rattle.jn_quals.specs.Qualifier.{Qualifier}
use Rattle.jn_quals.specs.Order.{no_qual, within}
use Rattle.jn_points.specs.declared.program.Field.{Field}
use Rattle.jn_points.specs.declared.program.Method.{Method}
use Rattle.jn_points.specs.declared.program.SlotInfo.{SlotInfo}
use Rattle.jn_points.specs.declared.program.Program.{Program}
use Rattle.jn_points.specs.Members.{below, some_of}
use Rattle.jn_sigs.specs.Signature.{is_slot, slot_qual}
use Rattle.jn_transfer.specs.Contributions.{is_inferred}
use Rattle.jn_trees.specs.declared.token.Token.{Token}
use Rattle.jn_trees.specs.Trees.{MemberTree, FieldMember, TypeDeclaration, ClassType, InterfaceType, SourceTree}
use Rattle.jn_annotate.specs.Words.{is_unspelled}
use Rattle.jn_annotate.specs.Taken.{is_taken, taken_words}
use Rattle.jn_annotate.specs.declared.taken.TakenWords.{TakenWords}
use Rattle.jn_splice_law.specs.Inserted.{inserted}
use Rattle.jn_annotate.specs.Imports.{with_lines}
use Rattle.jn_annotate.specs.Insertions.{fields_in, type_fields, file_fields, file_methods, first_slot, in_file}

-- `imports` is whether the annotations that a file gets are imported, too
module _ (imports : Bool) (slots : List SlotInfo) (s : List Qualifier) where
  -- of files whose types declare these fields and methods, one after the other
  abbrev pub annotated_from : List (List ℕ) → List (List Token) → List SourceTree → List Field → List Method → List (List ℕ)
  annotated_from [] tss trees fs ms = []
  annotated_from (text ∷ texts) [] trees fs ms = []
  annotated_from (text ∷ texts) (ts ∷ tss) [] fs ms = []
  annotated_from (text ∷ texts) (ts ∷ tss) (f ∷ trees) fs ms = inserted text (with_lines imports text ts f (in_file slots s text ts f fs ms)) ∷ annotated_from texts tss trees (drop (file_fields f.types) fs) (drop (file_methods f.types) ms)

-- of files with this program; method 0 is Object's constructor, which no file declares
abbrev pub annotated : Bool → List SlotInfo → Program → List Qualifier → List (List ℕ) → List (List Token) → List SourceTree → List (List ℕ)
annotated imports said P s texts tokens trees = annotated_from imports said s texts tokens trees P.fields (drop 1 P.methods)

-- Refusals

-- the first number that passes
abbrev pub IsFirst : (ℕ → Bool) → ℕ → Type 0
IsFirst test i = (test i ≡ true) × ((j : ℕ) → j < i → test j ≡ false)

abbrev pub HasNone : (ℕ → Bool) → Type 0
HasNone test = (i : ℕ) → test i ≡ false

-- the slot is inferred, and its qualifier has neither C nor F
abbrev pub has_no_spelling : Program → List Qualifier → ℕ → Bool
has_no_spelling P s i = is_inferred (slice_get P.slots i) && is_unspelled (slice_index_or s i no_qual)

-- such slots, in their order: they are left without words
abbrev pub unspelled_slots : Program → List Qualifier → List ℕ
unspelled_slots P s = filter (has_no_spelling P s) (below (length P.slots))

-- the slot counts as inferred, imports are asked for, and it gets a word that is taken
abbrev pub has_taken_word : Bool → TakenWords → List SlotInfo → Program → List Qualifier → ℕ → Bool
has_taken_word imports taken said P s i = is_inferred (slice_get said i) && imports && is_taken taken P (slice_index_or s i no_qual) i

-- a type of the files has the word's name
abbrev pub has_taken_name : Bool → List SlotInfo → Program → List Qualifier → List SourceTree → ℕ → Bool
has_taken_name imports said P s trees i = has_taken_word imports (taken_words trees) said P s i

abbrev pub same_qual : Qualifier → Qualifier → Bool
same_qual a b = within a b && within b a

abbrev pub members_of : TypeDeclaration → List MemberTree
members_of (ClassType ms n parent interfaces members) = members
members_of (InterfaceType ms n parents members) = members

module _ (P : Program) (s : List Qualifier) where
  abbrev pub slot_inferred : Option SlotNo → Bool
  slot_inferred None = false
  slot_inferred (Some i) = is_inferred (slice_get P.slots i.0)

  -- the slot is that of an inferred field whose qualifier isn't q
  abbrev pub differs : Qualifier → ℕ → Field → Bool
  differs q i f = is_slot i f.slot && slot_inferred f.slot && not (same_qual (slot_qual s f.slot) q)

  -- the slot is that of a field of the member that shares its type with another one
  abbrev pub shared_in : MemberTree → List Field → ℕ → Bool
  shared_in (FieldMember ms u d ds) fs i = some_of (differs (slot_qual s (first_slot fs)) i) (take (1 + length ds) fs)
  shared_in m fs i = false

  abbrev pub shared_in_members : List MemberTree → List Field → ℕ → Bool
  shared_in_members [] fs i = false
  shared_in_members (m ∷ ms) fs i = cond (shared_in m fs i) true (shared_in_members ms (drop (fields_in m) fs) i)

  abbrev pub shared_in_types : List TypeDeclaration → List Field → ℕ → Bool
  shared_in_types [] fs i = false
  shared_in_types (t ∷ ts) fs i = cond (shared_in_members (members_of t) fs i) true (shared_in_types ts (drop (type_fields t) fs) i)

  abbrev pub shared_from : List SourceTree → List Field → ℕ → Bool
  shared_from [] fs i = false
  shared_from (f ∷ trees) fs i = cond (shared_in_types f.types fs i) true (shared_from trees (drop (file_fields f.types) fs) i)

  abbrev pub has_shared_type : List SourceTree → ℕ → Bool
  has_shared_type trees i = shared_from trees P.fields i

abbrev pub longest_text : ℕ
longest_text = 1048576

abbrev pub is_too_large : List (List ℕ) → ℕ → Bool
is_too_large texts k = ltb longest_text (length (slice_index_or texts k []))

-- the three refusals, in their order, and the texts where none is; `said` are the slots that count as inferred
module _ (said : List SlotInfo) (imports : Bool) (P : Program) (s : List Qualifier) where
  abbrev pub IsNameTaken : List SourceTree → ℕ → Type 0
  IsNameTaken trees i = IsFirst (has_taken_name imports said P s trees) i

  abbrev pub IsSharedType : List SourceTree → ℕ → Type 0
  IsSharedType trees i = HasNone (has_taken_name imports said P s trees) × IsFirst (has_shared_type P s trees) i

  abbrev pub IsTooLarge : List (List ℕ) → List (List Token) → List SourceTree → ℕ → Type 0
  IsTooLarge texts tokens trees k = HasNone (has_taken_name imports said P s trees) × HasNone (has_shared_type P s trees) × IsFirst (is_too_large (annotated imports said P s texts tokens trees)) k

  pub record AreWorded (texts : List (List ℕ)) (tokens : List (List Token)) (trees : List SourceTree) (new : List (List ℕ)) : Type 0 where
    pub named : HasNone (has_taken_name imports said P s trees)
    pub alone : HasNone (has_shared_type P s trees)
    pub are : new ≡ annotated imports said P s texts tokens trees
    pub small : HasNone (is_too_large new)

-- the texts where each inferred slot has a spelling and gets its words
pub record Annotated (imports : Bool) (P : Program) (s : List Qualifier) (texts : List (List ℕ)) (tokens : List (List Token)) (trees : List SourceTree) (new : List (List ℕ)) : Type 0 where
  pub spelled : HasNone (has_no_spelling P s)
  pub named : HasNone (has_taken_name imports P.slots P s trees)
  pub alone : HasNone (has_shared_type P s trees)
  pub are : new ≡ annotated imports P.slots P s texts tokens trees
  pub small : HasNone (is_too_large new)
