-- Which members' unwritten positions are inferred by a choice, and the slots by that choice.
use Rattle.std.specs.Prelude.{◌≡◌, ◌⊎◌, Bool, true, false, not, ◌&&◌, ◌||◌, List, [], ◌∷◌, flat_map, map}
use Rattle.jn_quals.specs.Order.{no_qual}
use Rattle.jn_points.specs.declared.program.SlotInfo.{SlotInfo}
use Rattle.jn_points.specs.Members.{some_of}
use Rattle.jn_trees.specs.declared.declaration.Modifier.{Modifier}
use Rattle.jn_trees.specs.declared.declaration.Modifier.TheVariants.{Public as PublicModifier, Protected as ProtectedModifier, Private as PrivateModifier}
use Rattle.jn_places.specs.Placed.{PlacedMember, PlacedFieldMember, PlacedMethod, PlacedConstructor, PlacedType, PlacedClass, PlacedInterface, PlacedFile}
use Rattle.jn_heads.specs.declared.notes.Word.TheVariants.{Private as PrivateWord}
use Rattle.jn_heads.specs.declared.head.FieldHead.{FieldHead}
use Rattle.jn_heads.specs.declared.head.MethodHead.{MethodHead}
use Rattle.jn_heads.specs.declared.head.ClassHead.{ClassHead}
use Rattle.jn_heads.specs.Heads.{all_heads}
use Rattle.jn_heads.specs.Extract.{has_word, field_heads, method_heads, with_constructor, class_head, heads}
use Rattle.jn_heads.specs.Types.{slots_of_all}
use Rattle.jn_base.specs.declared.infer.Infer.{Infer}
use Rattle.jn_base.specs.declared.infer.Infer.TheVariants.{Private, Package}

-- an access word (JLS 8, 6.6)
abbrev pub is_access : Modifier → Bool
is_access (PublicModifier s) = true
is_access (ProtectedModifier s) = true
is_access (PrivateModifier s) = true
is_access m = false

-- a member of a class without one; members of interfaces are public (9.4)
abbrev pub is_open : Bool → List Modifier → Bool
is_open interface ms = not interface && not (some_of is_access ms)

-- the member's unwritten positions are inferred
abbrev pub infers : Infer → Bool → List Modifier → Bool
infers Private interface ms = has_word PrivateWord ms
infers Package interface ms = has_word PrivateWord ms || is_open interface ms

-- the modifiers of a field declaration, a method or a constructor
abbrev pub modifiers_of : PlacedMember → List Modifier
modifiers_of (PlacedFieldMember ms u d ds s) = ms
modifiers_of (PlacedMethod ms result n receiver ps body s) = ms
modifiers_of (PlacedConstructor ms n ps body s) = ms

-- heads in which a member counts as private where it is inferred, which is all that its slots depend on
abbrev pub mark_field : Bool → FieldHead → FieldHead
mark_field inferred h = record h { is_private = inferred }

-- a method or a constructor that counts as private just where it is inferred
abbrev pub mark_method : Bool → MethodHead → MethodHead
mark_method inferred h = record h { is_private = inferred }

module _ (infer : Infer) where
  -- the fields that a member declares, private just where the choice infers the member's positions
  abbrev pub field_marks : Bool → PlacedMember → List FieldHead
  field_marks interface m = map (mark_field (infers infer interface (modifiers_of m))) (field_heads m)

  -- the method or constructor that a member declares, private just where the choice infers the member's positions
  abbrev pub method_marks : Bool → PlacedMember → List MethodHead
  method_marks interface m = map (mark_method (infers infer interface (modifiers_of m))) (method_heads interface m)

  -- a type's head whose members are private just where the choice infers their positions
  abbrev pub class_marks : PlacedType → ClassHead
  class_marks (PlacedClass ms n parent interfaces members s) = record (class_head (PlacedClass ms n parent interfaces members s)) {
    fields = flat_map (field_marks false) members;
    methods = with_constructor n (flat_map (method_marks false) members);
  }
  class_marks (PlacedInterface ms n parents members s) = record (class_head (PlacedInterface ms n parents members s)) {
    fields = flat_map (field_marks true) members;
    methods = flat_map (method_marks true) members;
  }

  -- such heads of all declared types, by file and text
  abbrev pub marks : List PlacedFile → List ClassHead
  marks files = flat_map (λ (f : PlacedFile). map class_marks f.types) files

  -- the slots of files
  abbrev pub slots_by : List PlacedFile → List SlotInfo
  slots_by files = slots_of_all (heads files) (all_heads (marks files))

-- what a class table gives: the heads of files, and their slots by the choice
pub record Tabled : Type 0 where
  pub heads : List ClassHead
  pub slots : List SlotInfo

-- the class table of files, by a choice of whose positions are inferred
abbrev pub tabled : Infer → List PlacedFile → Tabled
tabled infer files = record { heads = heads files; slots = slots_by infer files }

-- each slot is as it was, or inferred and empty
abbrev pub Opens : List SlotInfo → List SlotInfo → Type 0
Opens [] [] = Unit {0}
Opens [] (y ∷ ys) = ⊥
Opens (x ∷ xs) [] = ⊥
Opens (x ∷ xs) (y ∷ ys) = ((y ≡ x) ⊎ (y ≡ record { start = no_qual; inferred = true })) × Opens xs ys
