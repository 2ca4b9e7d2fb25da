-- Files of which only the first ones were replaced: they lex and parse, and have the program of the files but for places and inferred marks.
use Rattle.std.proofs.Common.{◌≡◌, ℕ, zero, suc, ◌+◌, Bool, true, false, List, [], ◌∷◌, ◌++◌, length, refl, sym, ap, ◌∙◌, subst, arith}
use Rattle.std.specs.Prelude.{drop, map, take}
use Rattle.std.proofs.lemmas.List.{drop-take}
use Rattle.jn_known.specs.Known.{known_names}
use Rattle.jn_quals.specs.Qualifier.{Qualifier}
use Rattle.jn_points.specs.declared.program.Field.{Field}
use Rattle.jn_points.specs.declared.program.Method.{Method}
use Rattle.jn_points.specs.declared.program.Program.{Program}
use Rattle.jn_points.specs.declared.program.SlotInfo.{SlotInfo}
use Rattle.jn_trees.specs.declared.token.Token.{Token}
use Rattle.jn_trees.specs.declared.token.TokenKind.TheVariants.{LeftBrace, Class, Interface, Implements, Extends}
use Rattle.jn_trees.specs.Trees.{MemberTree, FieldMember, MethodMember, ConstructorMember, TypeDeclaration, ClassType, InterfaceType, SourceTree}
use Rattle.jn_trees.specs.Spelling.{spell_all_marks, spell_imports, spell_member, spell_names, spell_package_line, spell_parent, spell_type}
use Rattle.jn_places.specs.Placed.{PlacedFile}
use Rattle.jn_places.specs.Places.{behind, front}
use Rattle.jn_places.specs.Forget.{forget_file}
use Rattle.jn_splice_law.specs.Inserted.{Insertion, inserted}
use Rattle.jn_splice_law.specs.Woven.{piece}
use Rattle.jn_annotate.specs.Imports.{with_lines}
use Rattle.jn_annotate.specs.Insertions.{at_member, at_members, at_type, constructors_in, fields_in, file_fields, file_methods, first_slot, in_all, in_file, in_type, in_types, inferred_qual, methods_in, type_fields, type_methods, unwritten}
use Rattle.jn_annotate.specs.Words.{nullity_text}
use Rattle.jn_annotate.specs.Annotated.{annotated_from}
use Rattle.jn_annotate_law.specs.Fits.{FilesFit, MemberFits, MembersFit, TypeFits, TypesFit}
use Rattle.jn_annotate_law.specs.Meaning.{AllPlaced, TextsLexed}
use Rattle.jn_places_law.specs.Bare.{Alike}
use Rattle.jn_heads.specs.Extract.{heads}
use Rattle.jn_program_law.specs.FileProgram.{program_of_files}
use Rattle.jn_annotate_law.proofs.Extracting.{heads_plain}
use Rattle.jn_annotate_law.proofs.Files.{all_of}
use Rattle.jn_annotate_law.proofs.Fitting.{all_fit}
use Rattle.jn_annotate_law.proofs.Lined.{files_same}
use Rattle.jn_annotate_law.proofs.Sources.{alike_programs}
use Rattle.jn_heads_law.proofs.Tables.{tables_alike}

-- ---- lists of one beginning

abbrev Begin : {A : Type 0} → ℕ → List A → List A → Type 0
Begin n xs ys = take n xs ≡ take n ys

-- after what both have
later : {A : Type 0} (n m : ℕ) (xs ys : List A) → Begin (n + m) xs ys → Begin m (drop n xs) (drop n ys)
later n m xs ys h = sym (drop-take n m xs) ∙ ap (drop n) h ∙ drop-take n m ys

-- with other numbers that are the same
renumber : {A : Type 0} (n m : ℕ) (xs ys : List A) → n ≡ m → Begin n xs ys → Begin m xs ys
renumber n m xs ys e h = subst (λ k. Begin k xs ys) e h

none_left : {A : Type 0} (n : ℕ) → ◌≡◌ {A = List A} (drop n []) []
none_left zero = refl
none_left (suc n) = refl

take_drop_any : {A : Type 0} (n b : ℕ) (xs : List A) → (m : ℕ) × (drop n (take b xs) ≡ take m (drop n xs))
take_drop_any zero b xs = (b, refl)
take_drop_any (suc n) zero xs = (0, refl)
take_drop_any (suc n) (suc b) [] = (0, refl)
take_drop_any (suc n) (suc b) (x ∷ xs) = take_drop_any n b xs

taken_twice : {A : Type 0} (n : ℕ) (xs : List A) → take n (take n xs) ≡ take n xs
taken_twice zero xs = refl
taken_twice (suc n) [] = refl
taken_twice (suc n) (x ∷ xs) = ap (λ z. x ∷ z) (taken_twice n xs)

module _ (slots : List SlotInfo) (s : List Qualifier) where
  -- ---- what is put for a declaration depends on its own fields and methods alone

  slot_same : (n : ℕ) (fs gs : List Field) → Begin (suc n) fs gs → first_slot fs ≡ first_slot gs
  slot_same n [] [] h = refl
  slot_same n [] (g ∷ gs) h = absurd (let e : ◌≡◌ {A = List Field} [] (g ∷ take n gs) = h in cc)
  slot_same n (f ∷ fs) [] h = absurd (let e : ◌≡◌ {A = List Field} (f ∷ take n fs) [] = h in cc)
  slot_same n (f ∷ fs) (g ∷ gs) h = let same : f ≡ g = (let e : ◌≡◌ {A = List Field} (f ∷ take n fs) (g ∷ take n gs) = h in cc) in ap (λ (x : Field). x.slot) same

  method_same : (class : List ℕ) (ts : List Token) (m : MemberTree) (fs gs : List Field) (n : ℕ) (xs ys : List Method) → ((zs : List Method) → at_member slots s class ts m fs zs ≡ at_member slots s class ts m gs zs) → ((z : Method) (us vs : List Method) → at_member slots s class ts m fs (z ∷ us) ≡ at_member slots s class ts m fs (z ∷ vs)) → Begin (suc n) xs ys → at_member slots s class ts m fs xs ≡ at_member slots s class ts m gs ys
  method_same class ts m fs gs n [] [] whole alone h = whole []
  method_same class ts m fs gs n [] (y ∷ ys) whole alone h = absurd (let e : ◌≡◌ {A = List Method} [] (y ∷ take n ys) = h in cc)
  method_same class ts m fs gs n (x ∷ xs) [] whole alone h = absurd (let e : ◌≡◌ {A = List Method} (x ∷ take n xs) [] = h in cc)
  method_same class ts m fs gs n (x ∷ xs) (y ∷ ys) whole alone h =
      let same : x ≡ y = (let e : ◌≡◌ {A = List Method} (x ∷ take n xs) (y ∷ take n ys) = h in cc) in
      alone x xs ys ∙ whole (x ∷ ys) ∙ ap (λ z. at_member slots s class ts m gs (z ∷ ys)) same

  member_same : (class : List ℕ) (ts : List Token) (m : MemberTree) (fs gs : List Field) (xs ys : List Method) (r q : ℕ) → Begin (fields_in m + r) fs gs → Begin (methods_in m + q) xs ys → at_member slots s class ts m fs xs ≡ at_member slots s class ts m gs ys
  member_same class ts (FieldMember ms u d ds) fs gs xs ys r q f h = ap (λ x. at_type nullity_text (behind ts (spell_all_marks ms)) u (inferred_qual slots s x)) (slot_same (length ds + r) fs gs (renumber (1 + length ds + r) (suc (length ds + r)) fs gs (omega arith) f))
  member_same class ts (MethodMember ms u n p ps body) fs gs xs ys r q f h = method_same class ts (MethodMember ms u n p ps body) fs gs q xs ys (λ zs. method_any zs) (λ z us vs. refl) (renumber (1 + q) (suc q) xs ys (omega arith) h)
    where
      method_any : (zs : List Method) → at_member slots s class ts (MethodMember ms u n p ps body) fs zs ≡ at_member slots s class ts (MethodMember ms u n p ps body) gs zs
      method_any [] = refl
      method_any (z ∷ zs) = refl
  member_same class ts (ConstructorMember ms n ps ss) fs gs xs ys r q f h = method_same class ts (ConstructorMember ms n ps ss) fs gs q xs ys (λ zs. constructor_any zs) (λ z us vs. refl) (renumber (1 + q) (suc q) xs ys (omega arith) h)
    where
      constructor_any : (zs : List Method) → at_member slots s class ts (ConstructorMember ms n ps ss) fs zs ≡ at_member slots s class ts (ConstructorMember ms n ps ss) gs zs
      constructor_any [] = refl
      constructor_any (z ∷ zs) = refl

  both_same : (xs ys us vs : List Insertion) → xs ≡ us → ys ≡ vs → xs ++ ys ≡ us ++ vs
  both_same xs ys us vs e f = ap (λ z. z ++ ys) e ∙ ap (λ z. us ++ z) f

  members_same : (class : List ℕ) (ts : List Token) (ms : List MemberTree) (fs gs : List Field) (xs ys : List Method) (r q : ℕ) → Begin (in_all fields_in ms + r) fs gs → Begin (in_all methods_in ms + q) xs ys → at_members slots s class ts ms fs xs ≡ at_members slots s class ts ms gs ys
  members_same class ts [] fs gs xs ys r q f h = refl
  members_same class ts (m ∷ ms) fs gs xs ys r q f h =
      let f1 = renumber (fields_in m + in_all fields_in ms + r) (fields_in m + (in_all fields_in ms + r)) fs gs (omega arith) f in
      let h1 = renumber (methods_in m + in_all methods_in ms + q) (methods_in m + (in_all methods_in ms + q)) xs ys (omega arith) h in
      let next = behind ts (spell_member m) in
      both_same (at_member slots s class ts m fs xs) (at_members slots s class next ms (drop (fields_in m) fs) (drop (methods_in m) xs)) (at_member slots s class ts m gs ys) (at_members slots s class next ms (drop (fields_in m) gs) (drop (methods_in m) ys))
      (member_same class ts m fs gs xs ys (in_all fields_in ms + r) (in_all methods_in ms + q) f1 h1)
      (members_same class next ms (drop (fields_in m) fs) (drop (fields_in m) gs) (drop (methods_in m) xs) (drop (methods_in m) ys) r q (later (fields_in m) (in_all fields_in ms + r) fs gs f1) (later (methods_in m) (in_all methods_in ms + q) xs ys h1))

  module _ (text : List ℕ) where
    type_same : (ts : List Token) (t : TypeDeclaration) (fs gs : List Field) (xs ys : List Method) (r q : ℕ) → Begin (type_fields t + r) fs gs → Begin (type_methods t + q) xs ys → in_type slots s text ts t fs xs ≡ in_type slots s text ts t gs ys
    type_same ts (ClassType ms n parent interfaces members) fs gs xs ys r q f h =
        let name = behind ts (spell_all_marks ms ++ Class ∷ []) in
        let extra = unwritten (in_all constructors_in members) in
        members_same (piece text (front name)) (behind (drop 1 name) (spell_parent parent ++ (spell_names Implements interfaces ++ LeftBrace ∷ []))) members fs gs xs ys r (extra + q) f (renumber (in_all methods_in members + extra + q) (in_all methods_in members + (extra + q)) xs ys (omega arith) h)
    type_same ts (InterfaceType ms n parents members) fs gs xs ys r q f h =
        let name = behind ts (spell_all_marks ms ++ Interface ∷ []) in
        members_same (piece text (front name)) (behind (drop 1 name) (spell_names Extends parents ++ LeftBrace ∷ [])) members fs gs xs ys r q f h

    types_same : (ts : List Token) (types : List TypeDeclaration) (fs gs : List Field) (xs ys : List Method) (r q : ℕ) → Begin (file_fields types + r) fs gs → Begin (file_methods types + q) xs ys → in_types slots s text ts types fs xs ≡ in_types slots s text ts types gs ys
    types_same ts [] fs gs xs ys r q f h = refl
    types_same ts (t ∷ types) fs gs xs ys r q f h =
        let f1 = renumber (type_fields t + file_fields types + r) (type_fields t + (file_fields types + r)) fs gs (omega arith) f in
        let h1 = renumber (type_methods t + file_methods types + q) (type_methods t + (file_methods types + q)) xs ys (omega arith) h in
        let next = behind ts (spell_type t) in
        both_same (in_type slots s text ts t fs xs) (in_types slots s text next types (drop (type_fields t) fs) (drop (type_methods t) xs)) (in_type slots s text ts t gs ys) (in_types slots s text next types (drop (type_fields t) gs) (drop (type_methods t) ys))
        (type_same ts t fs gs xs ys (file_fields types + r) (file_methods types + q) f1 h1)
        (types_same next types (drop (type_fields t) fs) (drop (type_fields t) gs) (drop (type_methods t) xs) (drop (type_methods t) ys) r q (later (type_fields t) (file_fields types + r) fs gs f1) (later (type_methods t) (file_methods types + q) xs ys h1))

    -- ---- where there are no fields and methods, nothing is put

    member_bare : (class : List ℕ) (ts : List Token) (m : MemberTree) → at_member slots s class ts m [] [] ≡ []
    member_bare class ts (FieldMember ms u d ds) = refl
    member_bare class ts (MethodMember ms u n p ps body) = refl
    member_bare class ts (ConstructorMember ms n ps ss) = refl

    members_bare : (class : List ℕ) (ts : List Token) (ms : List MemberTree) → at_members slots s class ts ms [] [] ≡ []
    members_bare class ts [] = refl
    members_bare class ts (m ∷ ms) =
        let next = behind ts (spell_member m) in
        both_same (at_member slots s class ts m [] []) (at_members slots s class next ms (drop (fields_in m) []) (drop (methods_in m) [])) [] [] (member_bare class ts m)
        (ap (λ (fs : List Field). at_members slots s class next ms fs (drop (methods_in m) [])) (none_left (fields_in m)) ∙ ap (λ (xs : List Method). at_members slots s class next ms [] xs) (none_left (methods_in m)) ∙ members_bare class next ms)

    type_bare : (ts : List Token) (t : TypeDeclaration) → in_type slots s text ts t [] [] ≡ []
    type_bare ts (ClassType ms n parent interfaces members) =
        let name = behind ts (spell_all_marks ms ++ Class ∷ []) in
        members_bare (piece text (front name)) (behind (drop 1 name) (spell_parent parent ++ (spell_names Implements interfaces ++ LeftBrace ∷ []))) members
    type_bare ts (InterfaceType ms n parents members) =
        let name = behind ts (spell_all_marks ms ++ Interface ∷ []) in
        members_bare (piece text (front name)) (behind (drop 1 name) (spell_names Extends parents ++ LeftBrace ∷ [])) members

    types_bare : (ts : List Token) (types : List TypeDeclaration) → in_types slots s text ts types [] [] ≡ []
    types_bare ts [] = refl
    types_bare ts (t ∷ types) =
        let next = behind ts (spell_type t) in
        both_same (in_type slots s text ts t [] []) (in_types slots s text next types (drop (type_fields t) []) (drop (type_methods t) [])) [] [] (type_bare ts t)
        (ap (λ (fs : List Field). in_types slots s text next types fs (drop (type_methods t) [])) (none_left (type_fields t)) ∙ ap (λ (xs : List Method). in_types slots s text next types [] xs) (none_left (type_methods t)) ∙ types_bare next types)

  -- ---- methods of the first files fit their trees

  member_fits : (m : MemberTree) (b : ℕ) (xs : List Method) → MemberFits slots s m xs → MemberFits slots s m (take b xs)
  member_fits (FieldMember ms u d ds) b xs h = tt
  member_fits (ConstructorMember ms n ps ss) b xs h = tt
  member_fits (MethodMember ms u n p ps body) zero xs h = tt
  member_fits (MethodMember ms u n p ps body) (suc b) [] h = tt
  member_fits (MethodMember ms u n p ps body) (suc b) (x ∷ xs) h = h

  members_fit : (b : ℕ) (ms : List MemberTree) (xs : List Method) → MembersFit slots s ms xs → MembersFit slots s ms (take b xs)
  members_fit b [] xs h = tt
  members_fit b (m ∷ ms) xs h = let cut = take_drop_any (methods_in m) b xs in (member_fits m b xs h.0, subst (MembersFit slots s ms) (sym cut.1) (members_fit cut.0 ms (drop (methods_in m) xs) h.1))

  type_fits : (b : ℕ) (t : TypeDeclaration) (xs : List Method) → TypeFits slots s t xs → TypeFits slots s t (take b xs)
  type_fits b (ClassType ms n parent interfaces members) xs h = members_fit b members xs h
  type_fits b (InterfaceType ms n parents members) xs h = members_fit b members xs h

  types_fit : (b : ℕ) (types : List TypeDeclaration) (xs : List Method) → TypesFit slots s types xs → TypesFit slots s types (take b xs)
  types_fit b [] xs h = tt
  types_fit b (t ∷ types) xs h = let cut = take_drop_any (type_methods t) b xs in (type_fits b t xs h.0, subst (TypesFit slots s types) (sym cut.1) (types_fit cut.0 types (drop (type_methods t) xs) h.1))

  pub files_fit : (b : ℕ) (trees : List SourceTree) (xs : List Method) → FilesFit slots s trees xs → FilesFit slots s trees (take b xs)
  files_fit b [] xs h = tt
  files_fit b (f ∷ trees) xs h = let cut = take_drop_any (file_methods f.types) b xs in (types_fit b f.types xs h.0, subst (FilesFit slots s trees) (sym cut.1) (files_fit cut.0 trees (drop (file_methods f.types) xs) h.1))

-- the fields and methods of the first files
abbrev pub first_fields : ℕ → List SourceTree → ℕ
first_fields zero trees = 0
first_fields (suc k) [] = 0
first_fields (suc k) (f ∷ trees) = file_fields f.types + first_fields k trees

abbrev pub first_methods : ℕ → List SourceTree → ℕ
first_methods zero trees = 0
first_methods (suc k) [] = 0
first_methods (suc k) (f ∷ trees) = file_methods f.types + first_methods k trees

module _ (imports : Bool) (slots : List SlotInfo) (s : List Qualifier) where
  no_lines : (more : Bool) (text : List ℕ) (ts : List Token) (f : SourceTree) → with_lines more text ts f [] ≡ []
  unfolding with_lines
  no_lines true text ts f = refl
  no_lines false text ts f = refl

  file_bare : (text : List ℕ) (ts : List Token) (f : SourceTree) → inserted text (with_lines imports text ts f (in_file slots s text ts f [] [])) ≡ text
  file_bare text ts f =
      ap (λ x. inserted text (with_lines imports text ts f x)) (types_bare slots s text (behind ts (spell_package_line f.package_line ++ spell_imports f.imports)) f.types)
      ∙ ap (inserted text) (no_lines imports text ts f)

  texts_bare : (k : ℕ) (known : List (List ℕ)) (texts : List (List ℕ)) (tokens : List (List Token)) (trees : List PlacedFile) (names : List (List ℕ)) → TextsLexed k known texts tokens names → AllPlaced tokens trees → annotated_from imports slots s texts tokens (map forget_file trees) [] [] ≡ texts
  texts_bare k known [] tokens trees names l p = refl
  texts_bare k known (text ∷ texts) [] trees names l p = absurd l
  texts_bare k known (text ∷ texts) (ts ∷ tokens) [] names l p = absurd p
  texts_bare k known (text ∷ texts) (ts ∷ tokens) (tree ∷ trees) names l p =
      let f : SourceTree = forget_file tree in
      let rest : List SourceTree = map forget_file trees in
      ap (λ x. x ∷ annotated_from imports slots s texts tokens rest (drop (file_fields f.types) []) (drop (file_methods f.types) [])) (file_bare text ts f)
      ∙ ap (λ (fs : List Field). text ∷ annotated_from imports slots s texts tokens rest fs (drop (file_methods f.types) [])) (none_left (file_fields f.types))
      ∙ ap (λ (xs : List Method). text ∷ annotated_from imports slots s texts tokens rest [] xs) (none_left (file_methods f.types))
      ∙ ap (λ xs. text ∷ xs) (texts_bare (k + 1) l.0 texts tokens trees names l.2 p.1)

  -- with the fields and methods of the first files these are annotated, and the others are as they were
  pub first_annotated : (n k : ℕ) (known : List (List ℕ)) (texts : List (List ℕ)) (tokens : List (List Token)) (trees : List PlacedFile) (names : List (List ℕ)) (fs : List Field) (ms : List Method) → TextsLexed k known texts tokens names → AllPlaced tokens trees
      → annotated_from imports slots s texts tokens (map forget_file trees) (take (first_fields n (map forget_file trees)) fs) (take (first_methods n (map forget_file trees)) ms) ≡ take n (annotated_from imports slots s texts tokens (map forget_file trees) fs ms) ++ drop n texts
  first_annotated zero k known texts tokens trees names fs ms l p = texts_bare k known texts tokens trees names l p
  first_annotated (suc n) k known [] tokens trees names fs ms l p = refl
  first_annotated (suc n) k known (text ∷ texts) [] trees names fs ms l p = absurd l
  first_annotated (suc n) k known (text ∷ texts) (ts ∷ tokens) [] names fs ms l p = absurd p
  first_annotated (suc n) k known (text ∷ texts) (ts ∷ tokens) (tree ∷ trees) names fs ms l p =
      let f : SourceTree = forget_file tree in
      let rest : List SourceTree = map forget_file trees in
      let a = file_fields f.types in
      let b = file_methods f.types in
      let x = first_fields n rest in
      let y = first_methods n rest in
      let one = types_same slots s text (behind ts (spell_package_line f.package_line ++ spell_imports f.imports)) f.types (take (a + x) fs) fs (take (b + y) ms) ms x y (taken_twice (a + x) fs) (taken_twice (b + y) ms) in
      ap (λ z. inserted text (with_lines imports text ts f z) ∷ annotated_from imports slots s texts tokens rest (drop a (take (a + x) fs)) (drop b (take (b + y) ms))) one
      ∙ ap (λ z. inserted text (with_lines imports text ts f (in_file slots s text ts f fs ms)) ∷ annotated_from imports slots s texts tokens rest z (drop b (take (b + y) ms))) (drop-take a x fs)
      ∙ ap (λ z. inserted text (with_lines imports text ts f (in_file slots s text ts f fs ms)) ∷ annotated_from imports slots s texts tokens rest (take x (drop a fs)) z) (drop-take b y ms)
      ∙ ap (λ z. inserted text (with_lines imports text ts f (in_file slots s text ts f fs ms)) ∷ z) (first_annotated n (k + 1) l.0 texts tokens trees names (drop a fs) (drop b ms) l.2 p.1)

module _ (imports : Bool) (slots : List SlotInfo) (s : List Qualifier) (texts names : List (List ℕ)) (tokens : List (List Token)) (trees : List PlacedFile) (count : ℕ) (lexed : TextsLexed 0 known_names texts tokens names) (placed : AllPlaced tokens trees) where
  abbrev P : Program
  P = program_of_files trees

  abbrev bare : List SourceTree
  bare = map forget_file trees

  pub mixed_alike : (others : List (List Token)) × (places : List PlacedFile) × TextsLexed 0 known_names (take count (annotated_from imports slots s texts tokens bare P.fields (drop 1 P.methods)) ++ drop count texts) others names × AllPlaced others places × Alike P (program_of_files places)
  mixed_alike =
      let fs : List Field = take (first_fields count bare) P.fields in
      let ms : List Method = take (first_methods count bare) (drop 1 P.methods) in
      let fit = files_fit slots s (first_methods count bare) bare (drop 1 P.methods) (all_fit tokens trees slots s placed) in
      let r = all_of imports slots s texts tokens trees names fs ms lexed placed fit in
      let same = first_annotated imports slots s count 0 known_names texts tokens trees names P.fields (drop 1 P.methods) lexed placed in
      let table_is = tables_alike (heads trees) (heads r.plain) (heads_plain slots s tokens r.plains trees r.plain fs ms placed r.plain_placed r.plain_are) in
      let program_is = alike_programs slots s tokens r.plains trees r.plain fs ms placed r.plain_placed r.plain_are table_is in
      (r.others, r.places, subst (λ x. TextsLexed 0 known_names x r.others names) same r.lexed, r.placed, subst (λ (Q : Program). Alike P Q) (sym (files_same r.plain r.places r.lined)) program_is)
