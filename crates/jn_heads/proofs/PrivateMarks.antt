-- Where private members are inferred, marks are the heads themselves.
use Rattle.std.proofs.Common.{◌≡◌, Bool, true, false, List, [], ◌∷◌, ◌++◌, refl, ap}
use Rattle.std.specs.Prelude.{flat_map, map}
use Rattle.jn_base.specs.declared.infer.Infer.TheVariants.{Private}
use Rattle.jn_points.specs.declared.program.SlotInfo.{SlotInfo}
use Rattle.jn_trees.specs.declared.declaration.Modifier.{Modifier}
use Rattle.jn_places.specs.Placed.{PlacedTypeUse, PlacedDeclarator, PlacedMember, PlacedFieldMember, PlacedMethod, PlacedConstructor, PlacedType, PlacedClass, PlacedInterface, PlacedFile}
use Rattle.jn_heads.specs.declared.notes.Word.TheVariants.{Private as PrivateWord}
use Rattle.jn_heads.specs.declared.head.FieldHead.{FieldHead}
use Rattle.jn_heads.specs.declared.head.MethodHead.{MethodHead}
use Rattle.jn_heads.specs.declared.head.ClassHead.{ClassHead}
use Rattle.jn_heads.specs.Heads.{all_heads}
use Rattle.jn_heads.specs.Extract.{has_word, field_head, field_heads, method_heads, with_constructor, class_head, heads}
use Rattle.jn_heads.specs.Types.{slots_of_all}
use Rattle.jn_heads.specs.Inferred.{field_marks, method_marks, class_marks, marks, slots_by}

map_fields : (ms : List Modifier) (u : PlacedTypeUse) (ds : List PlacedDeclarator) → map (λ (h : FieldHead). record h { is_private = has_word PrivateWord ms }) (map (field_head ms u) ds) ≡ map (field_head ms u) ds
map_fields ms u [] = refl
map_fields ms u (d ∷ ds) = ap (λ (r : List FieldHead). field_head ms u d ∷ r) (map_fields ms u ds)

same_fields : (interface : Bool) (m : PlacedMember) → field_marks Private interface m ≡ field_heads m
same_fields interface (PlacedFieldMember ms u d ds s) = map_fields ms u (d ∷ ds)
same_fields interface (PlacedMethod ms result n receiver ps body s) = refl
same_fields interface (PlacedConstructor ms n ps body s) = refl

same_methods : (interface : Bool) (m : PlacedMember) → method_marks Private interface m ≡ method_heads interface m
same_methods true (PlacedFieldMember ms u d ds s) = refl
same_methods false (PlacedFieldMember ms u d ds s) = refl
same_methods true (PlacedMethod ms result n receiver ps body s) = refl
same_methods false (PlacedMethod ms result n receiver ps body s) = refl
same_methods true (PlacedConstructor ms n ps body s) = refl
same_methods false (PlacedConstructor ms n ps body s) = refl

all_same : (A B : Type 0) (f g : A → List B) → ((x : A) → f x ≡ g x) → (xs : List A) → flat_map f xs ≡ flat_map g xs
all_same A B f g h [] = refl
all_same A B f g h (x ∷ xs) = let a = h x in let r = all_same A B f g h xs in (λ i. a i ++ r i)

same_class : (t : PlacedType) → class_marks Private t ≡ class_head t
same_class (PlacedClass ms n parent interfaces members s) =
    let f = all_same PlacedMember FieldHead (field_marks Private false) field_heads (same_fields false) members in
    let m = all_same PlacedMember MethodHead (method_marks Private false) (method_heads false) (same_methods false) members in
    (λ i. record (class_head (PlacedClass ms n parent interfaces members s)) { fields = f i; methods = with_constructor n (m i) })
same_class (PlacedInterface ms n parents members s) =
    let f = all_same PlacedMember FieldHead (field_marks Private true) field_heads (same_fields true) members in
    let m = all_same PlacedMember MethodHead (method_marks Private true) (method_heads true) (same_methods true) members in
    (λ i. record (class_head (PlacedInterface ms n parents members s)) { fields = f i; methods = m i })

same_types : (ts : List PlacedType) → map (class_marks Private) ts ≡ map class_head ts
same_types [] = refl
same_types (t ∷ ts) = let a = same_class t in let r = same_types ts in (λ i. a i ∷ r i)

-- where private members are inferred, the marks are the heads themselves
pub private_heads : (files : List PlacedFile) → marks Private files ≡ heads files
private_heads files = all_same PlacedFile ClassHead (λ f. map (class_marks Private) f.types) (λ f. map class_head f.types) (λ f. same_types f.types) files

-- and the slots are those of the heads
pub private_slots : (files : List PlacedFile) → slots_by Private files ≡ slots_of_all (heads files) (all_heads (heads files))
private_slots files = ap (λ (hs : List ClassHead). slots_of_all (heads files) (all_heads hs)) (private_heads files)
