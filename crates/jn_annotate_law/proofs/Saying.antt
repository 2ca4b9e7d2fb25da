-- The least signature says of fields and receivers what words can say, where each inferred slot has a spelling and no type is shared by fields that differ.
use Rattle.std.proofs.Common.{◌≡◌, ◌^◌, ℕ, zero, suc, ◌+◌, ◌<◌, Bool, true, false, not, cond, ◌&&◌, ◌||◌, List, [], ◌∷◌, length, Option, Some, None, refl, sym, ap, ◌∙◌, subst, arith}
use Rattle.std.specs.Prelude.{drop, take, map, eqb, slice_get, slice_index_or}
use Rattle.std.proofs.lemmas.Bool.{false≢true, true≢false, eq-eqb, or_parts}
use Rattle.jn_base.specs.declared.number.SlotNo.{SlotNo}
use Rattle.jn_known.specs.Known.{known_names}
use Rattle.jn_quals.specs.Qualifier.{Qualifier}
use Rattle.jn_quals.specs.Order.{no_qual, within}
use Rattle.jn_quals.proofs.Order.{within_antisym}
use Rattle.jn_points.specs.Members.{some_of}
use Rattle.jn_points.specs.declared.program.Field.{Field}
use Rattle.jn_points.specs.declared.program.Method.{Method}
use Rattle.jn_points.specs.declared.program.SlotInfo.{SlotInfo}
use Rattle.jn_points.specs.declared.program.Program.{Program}
use Rattle.jn_sigs.specs.Signature.{is_slot, slot_qual}
use Rattle.jn_transfer.specs.Contributions.{is_inferred}
use Rattle.jn_trees.specs.declared.token.Token.{Token}
use Rattle.jn_trees.specs.Trees.{MemberTree, FieldMember, MethodMember, ConstructorMember, TypeDeclaration, ClassType, InterfaceType, SourceTree}
use Rattle.jn_places.specs.Placed.{PlacedFile}
use Rattle.jn_trees.specs.declared.declaration.FileTree.{FileTree}
use Rattle.jn_trees.specs.View.{file_view}
use Rattle.jn_places.specs.Forget.{forget_file}
use Rattle.jn_places.specs.PlacedView.{placed_file}
use Rattle.jn_places.proofs.ViewForgotten.{file_seen}
use Rattle.jn_heads.specs.Extract.{heads}
use Rattle.jn_program_law.specs.FileProgram.{inferring, rows_of_files}
use Rattle.jn_program_law.proofs.Marks.{inferring_regular}
use Rattle.jn_program_law.proofs.Program.{program_regular}
use Rattle.jn_tables_law.proofs.Inferring.{regular_inferable}
use Rattle.jn_base.specs.declared.infer.Infer.{Infer}
use Rattle.jn_heads.specs.Heads.{all_heads}
use Rattle.jn_heads.specs.declared.head.ClassHead.{ClassHead}
use Rattle.jn_heads.specs.Inferred.{marks}
use Rattle.jn_annotate_law.proofs.Tabled.{fields_play_too, methods_play_too, says_same, shared_same, table_by}
use Rattle.jn_tables_law.specs.Inferable.{IsInferable}
use Rattle.jn_inference_law.specs.Solution.{IsLeastSignature}
use Rattle.jn_annotate.specs.Insertions.{type_fields, type_methods, file_fields, file_methods, first_slot, qual_where, inferred_qual}
use Rattle.jn_annotate.specs.Chosen.{chosen_slots, chosen_from}
use Rattle.jn_annotate.specs.Annotated.{AreWorded, has_shared_type, HasNone, same_qual, slot_inferred, differs, members_of, shared_in_members, shared_in_types, shared_from}
use Rattle.jn_annotate_law.specs.Meaning.{TextsLexed, AllPlaced}
use Rattle.jn_annotate_law.specs.Kept.{Kept, KeptRowless}
use Rattle.jn_annotate_law.specs.Trees.{noted_files}
use Rattle.jn_annotate_law.specs.Says.{FieldsSay, MembersSay, TypeSays, TypesSay, FilesSay}
use Rattle.jn_places_law.proofs.Sent.{Each}
use Rattle.jn_annotate_law.proofs.Roles.{each_drop, each_take, Plays, FieldPlays, MethodPlays, roles_of_all, table_fields_play, table_methods_play, Agree, all_agree}
use Rattle.jn_annotate_law.proofs.Sending.{field_not_free, receiver_not_null}
use Rattle.jn_annotate_law.proofs.Sharing.{info_at, Has, MembersShare, TypesShare, FilesShare, all_share}
use Rattle.jn_annotate_law.proofs.Choosing.{chosen_qual, chosen_spelled, kept as kept_words, narrows}
use Rattle.jn_annotate_law.proofs.PartlyWritten.{long}
use Rattle.jn_annotate_law.proofs.Positions.{counts}
use Rattle.jn_annotate_law.proofs.SharedLeft.{cond_parts}
use Rattle.jn_annotate_law.proofs.Whole.{Whole, kept_all, receivers_start}

has_committed : (c f : Bool) → not (c || f) ≡ false → f ≡ false → c ≡ true
has_committed true f e g = refl
has_committed false true e g = absurd (true≢false g)
has_committed false false e g = absurd (true≢false e)

third : (a b c : Bool) → (a && b && c) ≡ false → a ≡ true → b ≡ true → c ≡ false
third true true c h e f = h
third true false c h e f = absurd (false≢true f)
third false b c h e f = absurd (false≢true e)

both_true : (a b : Bool) → not (a && b) ≡ false → (a ≡ true) × (b ≡ true)
both_true true true h = (refl, refl)
both_true true false h = absurd (true≢false h)
both_true false b h = absurd (true≢false h)

inferred_inside : (i : ℕ) (slots : List SlotInfo) → is_inferred (slice_get slots i) ≡ true → i < length slots
inferred_inside i [] e = absurd (false≢true e)
inferred_inside zero (x ∷ slots) e = omega arith
inferred_inside (suc i) (x ∷ slots) e = let h = inferred_inside i slots e in omega (arith, h)

-- what is inferred of a slot with this information
abbrev via : Option SlotInfo → Qualifier → Option Qualifier
via None q = None
via (Some info) q = cond info.inferred (Some q) None

module _ (terse : Bool) (P : Program) (s : List Qualifier) where
  -- the slots that count as inferred
  abbrev said : List SlotInfo
  said = chosen_from terse s 0 P.slots

  inferred_via : (x : Option SlotNo) → inferred_qual P.slots s x ≡ via (info_at P.slots x) (slot_qual s x)
  inferred_via None = refl
  inferred_via (Some i) = go (slice_get P.slots i.0)
    where
      go : (o : Option SlotInfo) → qual_where P.slots s o i.0 ≡ via o (slice_index_or s i.0 no_qual)
      go None = refl
      go (Some info) = refl

  -- where no inferred slot of the fields differs from q, they have q
  same_via : (x : Option SlotNo) (o : Option SlotInfo) (q : Qualifier) → info_at P.slots x ≡ o → ((i : ℕ) → (is_slot i x && slot_inferred P s x && not (same_qual (slot_qual s x) q)) ≡ false) → via o (slot_qual s x) ≡ via o q
  same_via None o q e d = subst (λ o. via o (slot_qual s None) ≡ via o q) e refl
  same_via (Some i) None q e d = refl
  same_via (Some i) (Some info) q e d = go info.inferred (ap is_inferred e)
    where
      go : (b : Bool) → is_inferred (slice_get P.slots i.0) ≡ b → cond b (Some (slot_qual s (Some i))) None ≡ cond b (Some q) None
      go true f =
          let h = both_true (within (slot_qual s (Some i)) q) (within q (slot_qual s (Some i))) (third (eqb i.0 i.0) (is_inferred (slice_get P.slots i.0)) (not (same_qual (slot_qual s (Some i)) q)) (d i.0) (eq-eqb i.0 i.0 refl) f) in
          ap (λ x. Some x) (within_antisym (slot_qual s (Some i)) q h.0 h.1)
      go false f = refl

  module _ (roles : List ℕ) (fields_play : Each (FieldPlays roles) P.fields) (methods_play : Each (MethodPlays roles) P.methods) (agree : Agree roles P.slots) (can : IsInferable P) (is : IsLeastSignature P s) where
    inside : (i : ℕ) → is_inferred (slice_get P.slots i) ≡ true → i < length s
    inside i e = let a = inferred_inside i P.slots e in let b = long P s is in omega (arith, a, b)

    field_says : (x : Option SlotNo) → Plays roles 0 x → (q : Qualifier) → inferred_qual said s x ≡ Some q → (q.committed ≡ true) × (q.free ≡ false)
    field_says None h q e = absurd (let f : ◌≡◌ {A = Option Qualifier} None (Some q) = e in cc)
    field_says (Some i) h q e =
        let v = counts said s i.0 q e in
        let opened = narrows terse s P.slots i.0 v.0 in
        let free : q.free ≡ false = subst (λ (x : Qualifier). x.free ≡ false) v.1 (field_not_free P roles fields_play methods_play (receivers_start P roles agree) can s is i.0 opened (inside i.0 opened) h) in
        (has_committed q.committed q.free (chosen_spelled terse s P.slots (Some i) q e) free, free)

    receiver_says : (x : Option SlotNo) → Plays roles 1 x → (q : Qualifier) → inferred_qual said s x ≡ Some q → q.null ≡ false
    receiver_says None h q e = absurd (let f : ◌≡◌ {A = Option Qualifier} None (Some q) = e in cc)
    receiver_says (Some i) h q e =
        let v = counts said s i.0 q e in
        let opened = narrows terse s P.slots i.0 v.0 in
        subst (λ (x : Qualifier). x.null ≡ false) v.1 (receiver_not_null P roles fields_play methods_play (receivers_start P roles agree) can s is i.0 opened (inside i.0 opened) h)

    fields_say : (first : Option SlotNo) (o : Option SlotInfo) (fs : List Field) → info_at P.slots first ≡ o → Each (Has P.slots o) fs → Each (FieldPlays roles) fs → ((i : ℕ) → some_of (differs P s (slot_qual s first) i) fs ≡ false) → FieldsSay said s first fs
    fields_say first o [] e h p d = tt
    fields_say first o (f ∷ fs) e h p d = (
      chosen_qual terse s P.slots f.slot ∙ ap (kept_words terse s P.slots) (inferred_via f.slot ∙ ap (λ x. via x (slot_qual s f.slot)) h.0
          ∙ same_via f.slot o (slot_qual s first) h.0 (λ i. (or_parts (differs P s (slot_qual s first) i f) (some_of (differs P s (slot_qual s first) i) fs) (d i)).0)
          ∙ ap (λ x. via x (slot_qual s first)) (sym e) ∙ sym (inferred_via first)) ∙ sym (chosen_qual terse s P.slots first),
      field_says f.slot p.0,
      fields_say first o fs e h.1 p.1 (λ i. (or_parts (differs P s (slot_qual s first) i f) (some_of (differs P s (slot_qual s first) i) fs) (d i)).1),
    )

    members_say : (ms : List MemberTree) (fs : List Field) (methods : List Method) → MembersShare P.slots ms fs → Each (FieldPlays roles) fs → Each (MethodPlays roles) methods → ((i : ℕ) → shared_in_members P s ms fs i ≡ false) → MembersSay said s ms fs methods
    members_say [] fs methods h p r d = tt
    members_say (FieldMember marks u e ds ∷ ms) fs methods h p r d =
        let n : ℕ = 1 + length ds in
        let parts = λ (i : ℕ). cond_parts (some_of (differs P s (slot_qual s (first_slot fs)) i) (take n fs)) (shared_in_members P s ms (drop n fs) i) (d i) in (
          fields_say (first_slot fs) h.0.info (take n fs) h.0.first_is h.0.each (each_take (FieldPlays roles) fs n p) (λ i. (parts i).0),
          members_say ms (drop n fs) methods h.1 (each_drop (FieldPlays roles) fs n p) r (λ i. (parts i).1),
        )
    members_say (MethodMember marks u n t ps body ∷ ms) fs [] h p r d = (tt, members_say ms fs [] h.1 p r d)
    members_say (MethodMember marks u n t ps body ∷ ms) fs (m ∷ methods) h p r d = (receiver_says m.receiver r.0.0, members_say ms fs methods h.1 p r.1 d)
    members_say (ConstructorMember marks n ps ss ∷ ms) fs [] h p r d = (tt, members_say ms fs [] h.1 p r d)
    members_say (ConstructorMember marks n ps ss ∷ ms) fs (m ∷ methods) h p r d = (tt, members_say ms fs methods h.1 p r.1 d)

    type_says : (t : TypeDeclaration) (fs : List Field) (methods : List Method) → MembersShare P.slots (members_of t) fs → Each (FieldPlays roles) fs → Each (MethodPlays roles) methods → ((i : ℕ) → shared_in_members P s (members_of t) fs i ≡ false) → TypeSays said s t fs methods
    type_says (ClassType marks n parent interfaces members) = members_say members
    type_says (InterfaceType marks n parents members) = members_say members

    types_say : (types : List TypeDeclaration) (fs : List Field) (methods : List Method) → TypesShare P.slots types fs → Each (FieldPlays roles) fs → Each (MethodPlays roles) methods → ((i : ℕ) → shared_in_types P s types fs i ≡ false) → TypesSay said s types fs methods
    types_say [] fs methods h p r d = tt
    types_say (t ∷ types) fs methods h p r d =
        let parts = λ (i : ℕ). cond_parts (shared_in_members P s (members_of t) fs i) (shared_in_types P s types (drop (type_fields t) fs) i) (d i) in (
          type_says t fs methods h.0 p r (λ i. (parts i).0),
          types_say types (drop (type_fields t) fs) (drop (type_methods t) methods) h.1 (each_drop (FieldPlays roles) fs (type_fields t) p) (each_drop (MethodPlays roles) methods (type_methods t) r) (λ i. (parts i).1),
        )

    pub files_say : (trees : List SourceTree) (fs : List Field) (methods : List Method) → FilesShare P.slots trees fs → Each (FieldPlays roles) fs → Each (MethodPlays roles) methods → ((i : ℕ) → shared_from P s trees fs i ≡ false) → FilesSay said s trees fs methods
    files_say [] fs methods h p r d = tt
    files_say (f ∷ trees) fs methods h p r d =
        let parts = λ (i : ℕ). cond_parts (shared_in_types P s f.types fs i) (shared_from P s trees (drop (file_fields f.types) fs) i) (d i) in (
          types_say f.types fs methods h.0 p r (λ i. (parts i).0),
          files_say trees (drop (file_fields f.types) fs) (drop (file_methods f.types) methods) h.1 (each_drop (FieldPlays roles) fs (file_fields f.types) p) (each_drop (MethodPlays roles) methods (file_methods f.types) r) (λ i. (parts i).1),
        )

-- of the fields and methods of its class table, and of those in which members count as private that are inferred
pub all_say : (terse : Bool) (infer : Infer) (tokens : List (List Token)) (trees : List PlacedFile) (s : List Qualifier) → let P = inferring infer trees in let bare = map forget_file trees in AllPlaced tokens trees → IsInferable P → IsLeastSignature P s → HasNone (has_shared_type P s bare) → FilesSay (chosen_slots terse P s) s bare P.fields (drop 1 P.methods)
all_say terse infer tokens trees s placed can is alone =
    let P : Program = inferring infer trees in
    let Q : Program = table_by infer trees in
    let hs : List ClassHead = heads trees in
    let xs : List ClassHead = all_heads (marks infer trees) in
    let roles : List ℕ = roles_of_all hs xs in
    let fields : Each (FieldPlays roles) Q.fields = table_fields_play hs xs in
    let methods : Each (MethodPlays roles) Q.methods = table_methods_play hs xs in
    (says_same (chosen_slots terse P s) s infer trees (map forget_file trees)).0
    (files_say terse P s roles (fields_play_too roles infer trees fields) (methods_play_too roles infer trees methods) (all_agree hs xs) can is (map forget_file trees) Q.fields (drop 1 Q.methods)
    (all_share infer tokens trees placed) fields (each_drop (MethodPlays roles) Q.methods 1 methods) (λ i. sym (shared_same P s infer trees (map forget_file trees) i) ∙ alone i))

-- the theorem, of programs that can be inferred
kept_whole : (terse imports : Bool) (infer : Infer) (texts names new : List (List ℕ)) (tokens : List (List Token)) (trees : List PlacedFile) (s : List Qualifier) → let P = inferring infer trees in let bare = map forget_file trees in TextsLexed 0 known_names texts tokens names → AllPlaced tokens trees → IsInferable P → IsLeastSignature P s → AreWorded (chosen_slots terse P s) imports P s texts tokens bare new → Whole terse imports infer names trees s (noted_files (chosen_slots terse P s) s bare P.fields (drop 1 P.methods)) new
kept_whole terse imports infer texts names new tokens trees s lexed placed can is annotated' =
    kept_all terse imports infer texts names new tokens trees s lexed placed can is (all_say terse infer tokens trees s placed can is annotated'.alone) annotated'

pub kept : (terse imports : Bool) (infer : Infer) (texts names new : List (List ℕ)) (tokens : List (List Token)) (trees : List PlacedFile) (s : List Qualifier) → let P = inferring infer trees in let bare = map forget_file trees in TextsLexed 0 known_names texts tokens names → AllPlaced tokens trees → IsInferable P → IsLeastSignature P s → AreWorded (chosen_slots terse P s) imports P s texts tokens bare new → Kept terse imports infer names trees s (noted_files (chosen_slots terse P s) s bare P.fields (drop 1 P.methods)) new
kept terse imports infer texts names new tokens trees s lexed placed can is annotated' = (kept_whole terse imports infer texts names new tokens trees s lexed placed can is annotated').kept

-- and of files without rows
pub kept_rowless : (terse imports : Bool) (infer : Infer) (texts names new : List (List ℕ)) (tokens : List (List Token)) (trees : List PlacedFile) (s : List Qualifier) → let P = inferring infer trees in let bare = map forget_file trees in TextsLexed 0 known_names texts tokens names → AllPlaced tokens trees → rows_of_files trees ≡ [] → length P.fields < 2 ^ 32 → length P.methods < 2 ^ 32 → IsLeastSignature P s → AreWorded (chosen_slots terse P s) imports P s texts tokens bare new → KeptRowless terse imports infer names trees s (noted_files (chosen_slots terse P s) s bare P.fields (drop 1 P.methods)) new
kept_rowless terse imports infer texts names new tokens trees s lexed placed rowless few_fields few_methods is annotated' =
    let P : Program = inferring infer trees in
    let can : IsInferable P = regular_inferable P (inferring_regular infer trees (program_regular trees rowless few_fields few_methods)) in
    let all = kept_whole terse imports infer texts names new tokens trees s lexed placed can is annotated' in
    record { kept = all.kept; rowless = all.rows rowless }

-- ---- trees in memory

views_are : (files : List FileTree) → map forget_file (map placed_file files) ≡ map file_view files
views_are [] = refl
views_are (f ∷ files) = ap (λ x. x ∷ map forget_file (map placed_file files)) (file_seen f) ∙ ap (λ r. file_view f ∷ r) (views_are files)

-- as `annotate` is given them
pub kept_answer : (terse imports : Bool) (infer : Infer) (texts names new : List (List ℕ)) (tokens : List (List Token)) (files : List FileTree) (s : List Qualifier) → let trees = map placed_file files in let P = inferring infer trees in let views = map file_view files in TextsLexed 0 known_names texts tokens names → AllPlaced tokens trees → rows_of_files trees ≡ [] → length P.fields < 2 ^ 32 → length P.methods < 2 ^ 32 → IsLeastSignature P s → AreWorded (chosen_slots terse P s) imports P s texts tokens views new → KeptRowless terse imports infer names trees s (noted_files (chosen_slots terse P s) s views P.fields (drop 1 P.methods)) new
kept_answer terse imports infer texts names new tokens files s lexed placed rowless few_fields few_methods is annotated' =
    let trees : List PlacedFile = map placed_file files in
    let P : Program = inferring infer trees in
    subst (λ views. KeptRowless terse imports infer names trees s (noted_files (chosen_slots terse P s) s views P.fields (drop 1 P.methods)) new) (views_are files)
    (kept_rowless terse imports infer texts names new tokens trees s lexed placed rowless few_fields few_methods is (subst (λ views. AreWorded (chosen_slots terse P s) imports P s texts tokens views new) (sym (views_are files)) annotated'))
