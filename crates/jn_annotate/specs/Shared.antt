-- The slots of fields that share their type with a field of another qualifier, in the order of the text.
use Rattle.std.specs.Prelude.{ℕ, ◌≡◌, ◌<◌, ◌+◌, Bool, true, false, not, cond, ◌&&◌, ◌||◌, eqb, List, [], ◌∷◌, ◌++◌, length, take, drop, Option, Some, None}
use Rattle.jn_base.specs.declared.number.SlotNo.{SlotNo}
use Rattle.jn_quals.specs.Qualifier.{Qualifier}
use Rattle.jn_points.specs.declared.program.Field.{Field}
use Rattle.jn_points.specs.declared.program.Program.{Program}
use Rattle.jn_sigs.specs.Signature.{slot_qual}
use Rattle.jn_trees.specs.Trees.{MemberTree, FieldMember, TypeDeclaration, SourceTree}
use Rattle.jn_annotate.specs.Insertions.{fields_in, type_fields, file_fields, first_slot}
use Rattle.jn_annotate.specs.Annotated.{slot_inferred, same_qual, members_of}

abbrev pub is_among : ℕ → List ℕ → Bool
is_among i [] = false
is_among i (n ∷ ns) = eqb n i || is_among i ns

-- the least of a list of numbers, where it has one
abbrev pub IsLeast : Option ℕ → List ℕ → Type 0
IsLeast None ns = ns ≡ []
IsLeast (Some n) ns = (is_among n ns ≡ true) × ((j : ℕ) → j < n → is_among j ns ≡ false)

module _ (P : Program) (s : List Qualifier) where
  -- the slot, where it is inferred and hasn't this qualifier
  abbrev pub off_slot : Qualifier → Option SlotNo → List ℕ
  off_slot q None = []
  off_slot q (Some n) = cond (slot_inferred P s (Some n) && not (same_qual (slot_qual s (Some n)) q)) (n.0 ∷ []) []

  abbrev pub off_slots : Qualifier → List Field → List ℕ
  off_slots q [] = []
  off_slots q (f ∷ fs) = off_slot q f.slot ++ off_slots q fs

  abbrev pub member_slots : MemberTree → List Field → List ℕ
  member_slots (FieldMember ms u d ds) fs = off_slots (slot_qual s (first_slot fs)) (take (1 + length ds) fs)
  member_slots m fs = []

  abbrev pub members_slots : List MemberTree → List Field → List ℕ
  members_slots [] fs = []
  members_slots (m ∷ ms) fs = member_slots m fs ++ members_slots ms (drop (fields_in m) fs)

  abbrev pub types_slots : List TypeDeclaration → List Field → List ℕ
  types_slots [] fs = []
  types_slots (t ∷ ts) fs = members_slots (members_of t) fs ++ types_slots ts (drop (type_fields t) fs)

  abbrev pub shared_slots : List SourceTree → List Field → List ℕ
  shared_slots [] fs = []
  shared_slots (f ∷ trees) fs = types_slots f.types fs ++ shared_slots trees (drop (file_fields f.types) fs)
