-- The fields of one declaration are inferred together, since they have one list of modifiers and one type.
use Rattle.std.proofs.Common.{◌≡◌, ℕ, suc, ◌+◌, Bool, true, false, cond, List, [], ◌∷◌, ◌++◌, length, Option, Some, None, refl, sym, ap, ◌∙◌, subst, arith, append_assoc}
use Rattle.std.specs.Prelude.{drop, take, map, slice_get}
use Rattle.std.proofs.lemmas.List.{append-nil, take_at, drop_at}
use Rattle.jn_base.specs.declared.number.SlotNo.{SlotNo}
use Rattle.jn_base.specs.declared.infer.Infer.{Infer}
use Rattle.jn_heads.specs.Inferred.{class_marks, infers, marks, slots_by}
use Rattle.jn_annotate_law.proofs.Marked.{a_head, fields_at, marks_at, some_heads}
use Rattle.jn_annotate_law.proofs.Tabled.{table_by}
use Rattle.jn_points.specs.declared.program.Field.{Field}
use Rattle.jn_points.specs.declared.program.SlotInfo.{SlotInfo}
use Rattle.jn_trees.specs.declared.token.Token.{Token}
use Rattle.jn_trees.specs.declared.token.TokenKind.TheVariants.{Class, Interface, LeftBrace, Implements, Extends}
use Rattle.jn_trees.specs.declared.declaration.Modifier.{Modifier}
use Rattle.jn_trees.specs.Trees.{DeclaratorTree, MemberTree, FieldMember, MethodMember, ConstructorMember, TypeDeclaration, ClassType, InterfaceType, SourceTree}
use Rattle.jn_trees.specs.Spelling.{spell_all_marks, spell_parent, spell_names, spell_type_use, spell_declarator, spell_member, spell_type, spell_package_line, spell_imports}
use Rattle.jn_places.specs.Placed.{PlacedTypeUse, PlacedDeclarator, PlacedFile}
use Rattle.jn_places.specs.Places.{behind, place_marks, place_type_use, place_declarator, place_next_declarator, spell_next_declarator, place_more_declarators, place_type}
use Rattle.jn_places.specs.Forget.{forget_file}
use Rattle.jn_heads.specs.declared.head.TypeHead.{TypeHead}
use Rattle.jn_heads.specs.declared.head.FieldHead.{FieldHead}
use Rattle.jn_heads.specs.declared.head.ClassHead.{ClassHead}
use Rattle.jn_heads.specs.Types.{slot_of, field_qual, is_position, field_slots, fields_slots, methods_slots, class_slots, slots_of_all}
use Rattle.jn_classtable.specs.Table.{slot_at, field_of, fields_of, fields_from}
use Rattle.jn_heads.specs.Extract.{modifier_notes, type_head, heads}
use Rattle.jn_annotate.specs.Insertions.{fields_in, type_fields, file_fields, first_slot}
use Rattle.jn_annotate.specs.Annotated.{members_of}
use Rattle.jn_annotate_law.specs.Meaning.{AllPlaced}
use Rattle.jn_places_law.proofs.Sent.{Each}
use Rattle.jn_annotate_law.proofs.Positions.{StandsIn, in_all, in_left, in_right, in_one}
use Rattle.jn_annotate_law.proofs.Fields.{fields_slots_append, fields_of_append, fields_of_long, marked_declarators_long}
use Rattle.jn_annotate_law.proofs.Classes.{marked_fields_long}
use Rattle.jn_annotate_law.proofs.Written.{fields_from_append, marked_from_long, slots_all_append}

module _ (slots : List SlotInfo) where
  abbrev pub info_at : Option SlotNo → Option SlotInfo
  info_at None = None
  info_at (Some i) = slice_get slots i.0

  abbrev pub Has : Option SlotInfo → Field → Type 0
  Has o f = info_at f.slot ≡ o

  -- these fields have one slot's information, and so has the first
  pub record OneInfo (first : Option SlotNo) (fs : List Field) : Type 0 where
    pub info : Option SlotInfo
    pub first_is : info_at first ≡ info
    pub each : Each (Has info) fs

  abbrev pub MemberShares : MemberTree → List Field → Type 0
  MemberShares (FieldMember ms u d ds) fs = OneInfo (first_slot fs) (take (1 + length ds) fs)
  MemberShares m fs = Unit {0}

  abbrev pub MembersShare : List MemberTree → List Field → Type 0
  MembersShare [] fs = Unit {0}
  MembersShare (m ∷ ms) fs = MemberShares m fs × MembersShare ms (drop (fields_in m) fs)

  abbrev pub TypesShare : List TypeDeclaration → List Field → Type 0
  TypesShare [] fs = Unit {0}
  TypesShare (t ∷ ts) fs = MembersShare (members_of t) fs × TypesShare ts (drop (type_fields t) fs)

  abbrev pub FilesShare : List SourceTree → List Field → Type 0
  FilesShare [] fs = Unit {0}
  FilesShare (f ∷ trees) fs = TypesShare f.types fs × FilesShare trees (drop (file_fields f.types) fs)

module _ (slots : List SlotInfo) (hs : List ClassHead) (infer : Infer) where
  position_info : (b : Bool) (k : ℕ) (x : SlotInfo) → StandsIn slots k (cond b (x ∷ []) []) → info_at slots (slot_at b k) ≡ cond b (Some x) None
  position_info true k x h = in_one slots k x h
  position_info false k x h = refl

  module _ (A : List Modifier) (U : PlacedTypeUse) (w : Bool) where
    -- what all fields of the declaration have
    abbrev info_of : Option SlotInfo
    info_of = let K : TypeHead = type_head (modifier_notes A) U in cond (is_position hs K) (Some (slot_of w K.notes (field_qual K.notes))) None

    field_has : (c k : ℕ) (d : PlacedDeclarator) → StandsIn slots k (field_slots hs (a_head w A U d)) → Has slots info_of (field_of hs c k (a_head w A U d))
    field_has c k d h = let K : TypeHead = type_head (modifier_notes A) U in position_info (is_position hs K) k (slot_of w K.notes (field_qual K.notes)) h

    fields_have : (ds : List DeclaratorTree) (c k : ℕ) (ts : List Token) → StandsIn slots k (fields_slots hs (some_heads w A U (place_more_declarators ts ds))) → Each (Has slots info_of) (fields_of hs c k (some_heads w A U (place_more_declarators ts ds)))
    fields_have [] c k ts h = tt
    fields_have (d ∷ ds) c k ts h =
        let D : PlacedDeclarator = place_next_declarator ts d in
        let one : List SlotInfo = field_slots hs (a_head w A U D) in
        let later : List Token = behind ts (spell_next_declarator d) in
        let more : List SlotInfo = fields_slots hs (some_heads w A U (place_more_declarators later ds)) in
        (field_has c k D (in_left slots k one more h), fields_have ds c (k + length one) later (in_right slots k one more h))

  members_share : (interface : Bool) (ms : List MemberTree) (c k : ℕ) (rest : List Field) (ts : List Token) → StandsIn slots k (fields_slots hs (fields_at infer interface ts ms)) → MembersShare slots ms (fields_of hs c k (fields_at infer interface ts ms) ++ rest)
  members_share interface [] c k rest ts h = tt
  members_share interface (MethodMember marks u n r ps body ∷ ms) c k rest ts h = (tt, members_share interface ms c k rest (behind ts (spell_member (MethodMember marks u n r ps body))) h)
  members_share interface (ConstructorMember marks n ps ss ∷ ms) c k rest ts h = (tt, members_share interface ms c k rest (behind ts (spell_member (ConstructorMember marks n ps ss))) h)
  members_share interface (FieldMember marks u d ds ∷ ms) c k rest ts h =
      let m : MemberTree = FieldMember marks u d ds in
      let A : List Modifier = place_marks ts marks in
      let w : Bool = infers infer interface A in
      let t1 : List Token = behind ts (spell_all_marks marks) in
      let U : PlacedTypeUse = place_type_use t1 u in
      let t2 : List Token = behind t1 (spell_type_use u) in
      let t3 : List Token = behind t2 (spell_declarator d) in
      let D : PlacedDeclarator = place_declarator t2 d in
      let H : List FieldHead = some_heads w A U (D ∷ place_more_declarators t3 ds) in
      let later : List Token = behind ts (spell_member m) in
      let T : List FieldHead = fields_at infer interface later ms in
      let k' : ℕ = k + length (fields_slots hs H) in
      let X : List Field = fields_of hs c k' T ++ rest in
      let all : List Field = fields_of hs c k (H ++ T) ++ rest in
      let cut : all ≡ fields_of hs c k H ++ X = ap (λ x. x ++ rest) (fields_of_append hs c k H T) ∙ append_assoc (fields_of hs c k H) (fields_of hs c k' T) rest in
      let long : length (fields_of hs c k H) ≡ 1 + length ds = (let a = fields_of_long hs c k H in let b = marked_declarators_long w A U t3 ds in omega (arith, a, b)) in
      let taken : take (1 + length ds) all ≡ fields_of hs c k H = ap (take (1 + length ds)) cut ∙ take_at (fields_of hs c k H) X (1 + length ds) long in
      let dropped : drop (1 + length ds) all ≡ X = ap (drop (1 + length ds)) cut ∙ drop_at (fields_of hs c k H) X (1 + length ds) long in
      let h' = subst (StandsIn slots k) (fields_slots_append hs H T) h in
      let here = in_left slots k (fields_slots hs H) (fields_slots hs T) h' in
      let head : List SlotInfo = field_slots hs (a_head w A U D) in
      let more : List SlotInfo = fields_slots hs (some_heads w A U (place_more_declarators t3 ds)) in
      let one = field_has A U w c k D (in_left slots k head more here) in
      let each : Each (Has slots (info_of A U w)) (fields_of hs c k H) = (one, fields_have A U w ds c (k + length head) t3 (in_right slots k head more here)) in (
        record { info = info_of A U w; first_is = one; each = subst (Each (Has slots (info_of A U w))) (sym taken) each },
        subst (MembersShare slots ms) (sym dropped) (members_share interface ms c k' rest later (in_right slots k (fields_slots hs H) (fields_slots hs T) h')),
      )

  type_shares : (t : TypeDeclaration) (c k : ℕ) (rest : List Field) (ts : List Token) → let h : ClassHead = class_marks infer (place_type ts t) in StandsIn slots k (class_slots hs h) → MembersShare slots (members_of t) (fields_of hs c k h.fields ++ rest)
  type_shares (ClassType marks n parent interfaces members) c k rest ts h =
      let at : List Token = behind ts (spell_all_marks marks ++ Class ∷ []) in
      let inside : List Token = behind (behind (drop 1 at) (spell_parent parent)) (spell_names Implements interfaces ++ LeftBrace ∷ []) in
      let x : ClassHead = class_marks infer (place_type ts (ClassType marks n parent interfaces members)) in
      members_share false members c k rest inside (in_left slots k (fields_slots hs x.fields) (methods_slots hs x.methods) h)
  type_shares (InterfaceType marks n parents members) c k rest ts h =
      let inside : List Token = behind (drop 1 (behind ts (spell_all_marks marks ++ Interface ∷ []))) (spell_names Extends parents ++ LeftBrace ∷ []) in
      let x : ClassHead = class_marks infer (place_type ts (InterfaceType marks n parents members)) in
      members_share true members c k rest inside (in_left slots k (fields_slots hs x.fields) (methods_slots hs x.methods) h)

  types_share : (types : List TypeDeclaration) (c k : ℕ) (fs rest : List Field) (ts : List Token) → fs ≡ fields_from hs c k (marks_at infer ts types) ++ rest → StandsIn slots k (slots_of_all hs (marks_at infer ts types)) → TypesShare slots types fs
  types_share [] c k fs rest ts e h = tt
  types_share (t ∷ types) c k fs rest ts e h =
      let x : ClassHead = class_marks infer (place_type ts t) in
      let later : List Token = behind ts (spell_type t) in
      let xs : List ClassHead = marks_at infer later types in
      let k' : ℕ = k + length (class_slots hs x) in
      let A : List Field = fields_of hs c k x.fields in
      let F : List Field = fields_from hs (suc c) k' xs in
      let cut : fs ≡ A ++ (F ++ rest) = e ∙ append_assoc A F rest in
      let dropped : drop (type_fields t) fs ≡ F ++ rest = ap (drop (type_fields t)) cut ∙ drop_at A (F ++ rest) (type_fields t) (marked_fields_long infer hs c k t ts) in (
        subst (MembersShare slots (members_of t)) (sym cut) (type_shares t c k (F ++ rest) ts (in_left slots k (class_slots hs x) (slots_of_all hs xs) h)),
        types_share types (suc c) k' (drop (type_fields t) fs) rest later dropped (in_right slots k (class_slots hs x) (slots_of_all hs xs) h),
      )

  files_share : (tokens : List (List Token)) (trees : List PlacedFile) (c k : ℕ) (fs rest : List Field) → AllPlaced tokens trees → fs ≡ fields_from hs c k (marks infer trees) ++ rest → StandsIn slots k (slots_of_all hs (marks infer trees)) → FilesShare slots (map forget_file trees) fs
  files_share [] [] c k fs rest p e h = tt
  files_share [] (tree ∷ trees) c k fs rest p e h = absurd p
  files_share (ts ∷ tokens) [] c k fs rest p e h = absurd p
  files_share (ts ∷ tokens) (tree ∷ trees) c k fs rest p e h =
      let bare : SourceTree = forget_file tree in
      let at : List Token = behind (behind ts (spell_package_line bare.package_line)) (spell_imports bare.imports) in
      let xs : List ClassHead = marks_at infer at bare.types in
      let ys : List ClassHead = marks infer trees in
      let head_is : marks infer (tree ∷ trees) ≡ xs ++ ys = ap (λ (x : PlacedFile). map (class_marks infer) x.types ++ ys) p.0.1 in
      let c' : ℕ = c + length xs in
      let k' : ℕ = k + length (slots_of_all hs xs) in
      let A : List Field = fields_from hs c k xs in
      let F : List Field = fields_from hs c' k' ys in
      let cut : fs ≡ A ++ (F ++ rest) = e ∙ ap (λ x. fields_from hs c k x ++ rest) head_is ∙ ap (λ x. x ++ rest) (fields_from_append hs c k xs ys) ∙ append_assoc A F rest in
      let dropped : drop (file_fields bare.types) fs ≡ F ++ rest = ap (drop (file_fields bare.types)) cut ∙ drop_at A (F ++ rest) (file_fields bare.types) (marked_from_long infer hs c k bare.types at) in
      let whole : StandsIn slots k (slots_of_all hs xs ++ slots_of_all hs ys) = subst (StandsIn slots k) (ap (slots_of_all hs) head_is ∙ slots_all_append hs xs ys) h in (
        types_share bare.types c k fs (F ++ rest) at cut (in_left slots k (slots_of_all hs xs) (slots_of_all hs ys) whole),
        files_share tokens trees c' k' (drop (file_fields bare.types) fs) rest p.1 dropped (in_right slots k (slots_of_all hs xs) (slots_of_all hs ys) whole),
      )

pub all_share : (infer : Infer) (tokens : List (List Token)) (trees : List PlacedFile) → AllPlaced tokens trees → FilesShare (slots_by infer trees) (map forget_file trees) (table_by infer trees).fields
all_share infer tokens trees p =
    let hs : List ClassHead = heads trees in
    let xs : List ClassHead = marks infer trees in
    let slots : List SlotInfo = slots_of_all hs xs in
    let fs : List Field = fields_from hs 2 0 xs in
    files_share slots hs infer tokens trees 2 0 fs [] p (sym (append-nil fs)) (in_all slots)
