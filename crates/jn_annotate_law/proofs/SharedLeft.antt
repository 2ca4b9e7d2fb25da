-- Where no field shares its type with one of another qualifier, none does in annotated files in which fewer slots are inferred.
use Rattle.std.proofs.Common.{◌≡◌, ℕ, zero, suc, ◌+◌, Bool, true, false, not, cond, ◌&&◌, ◌||◌, List, [], ◌∷◌, length, Option, refl, sym, ap, ◌∙◌}
use Rattle.std.specs.Prelude.{drop, map, take}
use Rattle.std.proofs.lemmas.Bool.{or_parts, true≢false}
use Rattle.jn_base.specs.declared.number.NameNo.{NameNo}
use Rattle.jn_base.specs.declared.number.SlotNo.{SlotNo}
use Rattle.jn_quals.specs.Qualifier.{Qualifier}
use Rattle.jn_points.specs.Members.{some_of}
use Rattle.jn_points.specs.declared.program.Field.{Field}
use Rattle.jn_points.specs.declared.program.Method.{Method}
use Rattle.jn_points.specs.declared.program.SlotInfo.{SlotInfo}
use Rattle.jn_points.specs.declared.program.Program.{Program}
use Rattle.jn_sigs.specs.Signature.{is_slot, slot_qual}
use Rattle.jn_trees.specs.Trees.{MemberTree, FieldMember, MethodMember, ConstructorMember, TypeDeclaration, ClassType, InterfaceType, SourceTree}
use Rattle.jn_places_law.specs.Bare.{bare_field}
use Rattle.jn_annotate.specs.Insertions.{fields_in, in_all, methods_in, type_fields, type_methods, file_fields, file_methods, first_slot}
use Rattle.jn_annotate.specs.Annotated.{differs, members_of, same_qual, shared_from, shared_in_members, shared_in_types, slot_inferred}
use Rattle.jn_annotate_law.specs.Trees.{AllImport, noted_files, noted_member, noted_members, noted_type, noted_types}

pub cond_parts : (a b : Bool) → cond a true b ≡ false → (a ≡ false) × (b ≡ false)
cond_parts true b h = absurd (true≢false h)
cond_parts false b h = (refl, h)

cond_none : (a b : Bool) → a ≡ false → b ≡ false → cond a true b ≡ false
cond_none a b e f = ap (λ x. cond x true b) e ∙ f

-- fields with the same slots
abbrev SameSlots : List Field → List Field → Type 0
SameSlots [] [] = Unit {0}
SameSlots [] (g ∷ gs) = ⊥
SameSlots (f ∷ fs) [] = ⊥
SameSlots (f ∷ fs) (g ∷ gs) = (g.slot ≡ f.slot) × SameSlots fs gs

pub same_slots : (fs gs : List Field) → map bare_field fs ≡ map bare_field gs → SameSlots fs gs
same_slots [] [] e = tt
same_slots [] (g ∷ gs) e = absurd (let f : ◌≡◌ {A = List Field} [] (bare_field g ∷ map bare_field gs) = e in cc)
same_slots (f ∷ fs) [] e = absurd (let g : ◌≡◌ {A = List Field} (bare_field f ∷ map bare_field fs) [] = e in cc)
same_slots (f ∷ fs) (g ∷ gs) e =
    let h : ◌≡◌ {A = List Field} (bare_field f ∷ map bare_field fs) (bare_field g ∷ map bare_field gs) = e in
    let one : bare_field f ≡ bare_field g = cc in
    let rest : map bare_field fs ≡ map bare_field gs = cc in
    (ap (λ (x : Field). x.slot) (sym one), same_slots fs gs rest)

drop_same : (n : ℕ) (fs gs : List Field) → SameSlots fs gs → SameSlots (drop n fs) (drop n gs)
drop_same zero fs gs h = h
drop_same (suc n) [] [] h = tt
drop_same (suc n) [] (g ∷ gs) h = absurd h
drop_same (suc n) (f ∷ fs) [] h = absurd h
drop_same (suc n) (f ∷ fs) (g ∷ gs) h = drop_same n fs gs h.1

first_same : (fs gs : List Field) → SameSlots fs gs → first_slot fs ≡ first_slot gs
first_same [] [] h = refl
first_same [] (g ∷ gs) h = absurd h
first_same (f ∷ fs) [] h = absurd h
first_same (f ∷ fs) (g ∷ gs) h = sym h.0

three : (a b c d : Bool) → (d ≡ true → b ≡ true) → (a && b && c) ≡ false → (a && d && c) ≡ false
three false true c true f h = h
three false true c false f h = h
three false false c true f h = h
three false false c false f h = h
three true true c true f h = h
three true true true false f h = refl
three true true false false f h = refl
three true false true d f h = go d f
  where
    go : (d : Bool) → (d ≡ true → false ≡ true) → (true && d && true) ≡ false
    go true f = absurd (true≢false (sym (f refl)))
    go false f = refl
three true false false d f h = go d
  where
    go : (d : Bool) → (true && d && false) ≡ false
    go true = refl
    go false = refl

module _ (P R : Program) (s : List Qualifier) (fewer : (x : Option SlotNo) → slot_inferred R s x ≡ true → slot_inferred P s x ≡ true) (i : ℕ) where
  differs_left : (q : Qualifier) (f g : Field) → g.slot ≡ f.slot → differs P s q i f ≡ false → differs R s q i g ≡ false
  differs_left q f g e h =
      ap (λ x. is_slot i x && slot_inferred R s x && not (same_qual (slot_qual s x) q)) e
      ∙ three (is_slot i f.slot) (slot_inferred P s f.slot) (not (same_qual (slot_qual s f.slot) q)) (slot_inferred R s f.slot) (fewer f.slot) h

  some_left : (q : Qualifier) (n : ℕ) (fs gs : List Field) → SameSlots fs gs → some_of (differs P s q i) (take n fs) ≡ false → some_of (differs R s q i) (take n gs) ≡ false
  some_left q zero fs gs h e = refl
  some_left q (suc n) [] [] h e = refl
  some_left q (suc n) [] (g ∷ gs) h e = absurd h
  some_left q (suc n) (f ∷ fs) [] h e = absurd h
  some_left q (suc n) (f ∷ fs) (g ∷ gs) h e =
      let p = or_parts (differs P s q i f) (some_of (differs P s q i) (take n fs)) e in
      ap (λ b. b || some_of (differs R s q i) (take n gs)) (differs_left q f g h.0 p.0) ∙ some_left q n fs gs h.1 p.1

  module _ (slots : List SlotInfo) where
    members_left : (cn : NameNo) (ms : List MemberTree) (fs gs : List Field) (methods : List Method) → SameSlots fs gs → shared_in_members P s ms fs i ≡ false → shared_in_members R s (noted_members slots s cn ms fs methods) gs i ≡ false
    members_left cn [] fs gs methods h e = refl
    members_left cn (FieldMember marks u d ds ∷ ms) fs gs methods h e =
        let n : ℕ = 1 + length ds in
        let p = cond_parts (some_of (differs P s (slot_qual s (first_slot fs)) i) (take n fs)) (shared_in_members P s ms (drop n fs) i) e in
        cond_none (some_of (differs R s (slot_qual s (first_slot gs)) i) (take n gs)) (shared_in_members R s (noted_members slots s cn ms (drop n fs) methods) (drop n gs) i)
        (some_left (slot_qual s (first_slot gs)) n fs gs h (ap (λ x. some_of (differs P s (slot_qual s x) i) (take n fs)) (sym (first_same fs gs h)) ∙ p.0))
        (members_left cn ms (drop n fs) (drop n gs) methods (drop_same n fs gs h) p.1)
    members_left cn (MethodMember marks u n r ps body ∷ ms) fs gs [] h e = members_left cn ms fs gs [] h e
    members_left cn (MethodMember marks u n r ps body ∷ ms) fs gs (m ∷ methods) h e = members_left cn ms fs gs methods h e
    members_left cn (ConstructorMember marks n ps ss ∷ ms) fs gs [] h e = members_left cn ms fs gs [] h e
    members_left cn (ConstructorMember marks n ps ss ∷ ms) fs gs (m ∷ methods) h e = members_left cn ms fs gs methods h e

    member_fields : (cn : NameNo) (m : MemberTree) (fs : List Field) (methods : List Method) → fields_in (noted_member slots s cn m fs methods) ≡ fields_in m
    member_fields cn (FieldMember marks u d ds) fs methods = refl
    member_fields cn (MethodMember marks u n r ps body) fs [] = refl
    member_fields cn (MethodMember marks u n r ps body) fs (m ∷ methods) = refl
    member_fields cn (ConstructorMember marks n ps ss) fs [] = refl
    member_fields cn (ConstructorMember marks n ps ss) fs (m ∷ methods) = refl

    members_fields : (cn : NameNo) (ms : List MemberTree) (fs : List Field) (methods : List Method) → in_all fields_in (noted_members slots s cn ms fs methods) ≡ in_all fields_in ms
    members_fields cn [] fs methods = refl
    members_fields cn (m ∷ ms) fs methods =
        ap (λ n. n + in_all fields_in (noted_members slots s cn ms (drop (fields_in m) fs) (drop (methods_in m) methods))) (member_fields cn m fs methods)
        ∙ ap (λ n. fields_in m + n) (members_fields cn ms (drop (fields_in m) fs) (drop (methods_in m) methods))

    type_has : (t : TypeDeclaration) (fs : List Field) (methods : List Method) → type_fields (noted_type slots s t fs methods) ≡ type_fields t
    type_has (ClassType marks n parent interfaces members) fs methods = members_fields n members fs methods
    type_has (InterfaceType marks n parents members) fs methods = members_fields n members fs methods

    types_have : (ts : List TypeDeclaration) (fs : List Field) (methods : List Method) → file_fields (noted_types slots s ts fs methods) ≡ file_fields ts
    types_have [] fs methods = refl
    types_have (t ∷ ts) fs methods =
        ap (λ n. n + file_fields (noted_types slots s ts (drop (type_fields t) fs) (drop (type_methods t) methods))) (type_has t fs methods)
        ∙ ap (λ n. type_fields t + n) (types_have ts (drop (type_fields t) fs) (drop (type_methods t) methods))

    type_left : (t : TypeDeclaration) (fs gs : List Field) (methods : List Method) → SameSlots fs gs → shared_in_members P s (members_of t) fs i ≡ false → shared_in_members R s (members_of (noted_type slots s t fs methods)) gs i ≡ false
    type_left (ClassType marks n parent interfaces members) fs gs methods h e = members_left n members fs gs methods h e
    type_left (InterfaceType marks n parents members) fs gs methods h e = members_left n members fs gs methods h e

    types_left : (ts : List TypeDeclaration) (fs gs : List Field) (methods : List Method) → SameSlots fs gs → shared_in_types P s ts fs i ≡ false → shared_in_types R s (noted_types slots s ts fs methods) gs i ≡ false
    types_left [] fs gs methods h e = refl
    types_left (t ∷ ts) fs gs methods h e =
        let n : ℕ = type_fields t in
        let p = cond_parts (shared_in_members P s (members_of t) fs i) (shared_in_types P s ts (drop n fs) i) e in
        let more : List TypeDeclaration = noted_types slots s ts (drop n fs) (drop (type_methods t) methods) in
        ap (λ k. cond (shared_in_members R s (members_of (noted_type slots s t fs methods)) gs i) true (shared_in_types R s more (drop k gs) i)) (type_has t fs methods)
        ∙ cond_none (shared_in_members R s (members_of (noted_type slots s t fs methods)) gs i) (shared_in_types R s more (drop n gs) i)
        (type_left t fs gs methods h p.0) (types_left ts (drop n fs) (drop n gs) (drop (type_methods t) methods) (drop_same n fs gs h) p.1)

    -- with imports, or without
    pub files_left : (trees news : List SourceTree) (fs gs : List Field) (methods : List Method) → AllImport (noted_files slots s trees fs methods) news → SameSlots fs gs → shared_from P s trees fs i ≡ false → shared_from R s news gs i ≡ false
    files_left [] [] fs gs methods a h e = refl
    files_left [] (g ∷ news) fs gs methods a h e = absurd a
    files_left (f ∷ trees) [] fs gs methods a h e = absurd a
    files_left (f ∷ trees) (g ∷ news) fs gs methods a h e =
        let n : ℕ = file_fields f.types in
        let p = cond_parts (shared_in_types P s f.types fs i) (shared_from P s trees (drop n fs) i) e in
        let types : g.types ≡ noted_types slots s f.types fs methods = ap (λ (x : SourceTree). x.types) a.0.1 in
        ap (λ ts. cond (shared_in_types R s ts gs i) true (shared_from R s news (drop (file_fields ts) gs) i)) types
        ∙ ap (λ k. cond (shared_in_types R s (noted_types slots s f.types fs methods) gs i) true (shared_from R s news (drop k gs) i)) (types_have f.types fs methods)
        ∙ cond_none (shared_in_types R s (noted_types slots s f.types fs methods) gs i) (shared_from R s news (drop n gs) i)
        (types_left f.types fs gs methods h p.0) (files_left trees news (drop n fs) (drop n gs) (drop (file_methods f.types) methods) a.1 (drop_same n fs gs h) p.1)
