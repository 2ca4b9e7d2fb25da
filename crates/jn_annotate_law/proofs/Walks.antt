-- All slots of annotated members are written as they were inferred.
use Rattle.std.proofs.Common.{◌≡◌, ℕ, ◌+◌, Bool, true, false, not, cond, ◌||◌, List, [], ◌∷◌, ◌++◌, length, Option, Some, None, refl, sym, ap, ◌∙◌, subst}
use Rattle.std.specs.Prelude.{drop, map}
use Rattle.std.proofs.lemmas.Bool.{false≢true}
use Rattle.std.proofs.lemmas.List.{append-nil}
use Rattle.jn_base.specs.declared.number.NameNo.{NameNo}
use Rattle.jn_base.specs.declared.number.SlotNo.{SlotNo}
use Rattle.jn_base.specs.declared.infer.Infer.{Infer}
use Rattle.jn_heads.specs.Inferred.{infers, method_marks}
use Rattle.jn_annotate_law.proofs.Marked.{infers_alone, infers_result, methods_at}
use Rattle.jn_quals.specs.Qualifier.{Qualifier}
use Rattle.jn_points.specs.declared.program.Field.{Field}
use Rattle.jn_points.specs.declared.program.Method.{Method}
use Rattle.jn_points.specs.declared.program.SlotInfo.{SlotInfo}
use Rattle.jn_trees.specs.declared.context.Owner.{Owner}
use Rattle.jn_trees.specs.declared.token.Token.{Token}
use Rattle.jn_trees.specs.declared.token.TokenKind.TheVariants.{Id, LeftParen}
use Rattle.jn_trees.specs.Trees.{TypeUseTree, Mark, ReceiverTree, MemberTree, FieldMember, MethodMember, ConstructorMember}
use Rattle.jn_trees.specs.WellFormed.{GoodMembers}
use Rattle.jn_trees.specs.Spelling.{spell_all_marks, spell_result, spell_member}
use Rattle.jn_places.specs.Places.{behind, place_marks, place_type_use, place_annotations, place_parameters, place_receiver, spell_receiver, place_result, place_member}
use Rattle.jn_heads.specs.declared.head.Notes.{Notes}
use Rattle.jn_heads.specs.declared.notes.Word.TheVariants.{Static as StaticWord}
use Rattle.jn_heads.specs.declared.head.TypeHead.{TypeHead}
use Rattle.jn_heads.specs.declared.head.MethodHead.{MethodHead}
use Rattle.jn_heads.specs.declared.head.ClassHead.{ClassHead}
use Rattle.jn_heads.specs.Heads.{unplaced, unwritten_constructor}
use Rattle.jn_heads.specs.Types.{receiver_qual, slot_of, is_position, receiver_slots, has_receiver, result_slots, params_slots, method_slots, methods_slots}
use Rattle.jn_classtable.specs.Table.{slot_at, param_slots, result_slot, method_of, methods_of, count}
use Rattle.jn_heads.specs.Extract.{has_word, notes_of, modifier_notes, type_head, param_head, result_head, receiver_notes}
use Rattle.jn_annotate.specs.Words.{is_unspelled, initialization_name}
use Rattle.jn_annotate.specs.Insertions.{fields_in, inferred_qual}
use Rattle.jn_annotate_law.specs.Trees.{names_of, leading, noted_use, noted_marks, noted_receiver, noted_result, noted_result_marks, both_at, noted_parameters, noted_members}
use Rattle.jn_heads_law.specs.Plain.{plain_head}
use Rattle.jn_annotate_law.specs.Worded.{worded_from}
use Rattle.jn_annotate_law.specs.Says.{AllSpelled, MembersSay}
use Rattle.jn_annotate_law.proofs.Meanings.{receiver_slot, annotations_more}
use Rattle.jn_annotate_law.proofs.Extracting.{marked_same, result_words}
use Rattle.jn_annotate_law.proofs.Positions.{Noted, noted_annotations, noted_type, noted_modifiers, Stands, stands_left, stands_right, slot_new, slots_append, value_new, params_new}

noted_receivers : (cn : NameNo) (r : Option ReceiverTree) (q : Option Qualifier) (ts us : List Token) → Noted (receiver_notes (place_receiver ts r)) (receiver_notes (place_receiver us (noted_receiver cn r q))) (names_of (λ x. initialization_name x ∷ []) q)
noted_receivers cn None None ts us = record { has = λ n. false; old_is = refl; new_is = refl }
noted_receivers cn None (Some q) ts us = record { has = λ n. false; old_is = refl; new_is = annotations_more us [] (initialization_name q ∷ []) }
noted_receivers cn (Some r) None ts us = subst (λ x. Noted (notes_of (place_annotations ts r.annotations)) (notes_of (place_annotations us x)) []) (append-nil r.annotations) (noted_annotations ts us r.annotations [])
noted_receivers cn (Some r) (Some q) ts us = noted_annotations ts us r.annotations (initialization_name q ∷ [])

module _ (slots : List SlotInfo) (s : List Qualifier) (hs gs : List ClassHead) (same : map plain_head hs ≡ map plain_head gs) (sp : AllSpelled slots s) where
  abbrev Fits : Qualifier → Type 0
  Fits q = (q.null ≡ false) × (is_unspelled q ≡ false)

  -- a receiver
  receiver_new : (k : ℕ) (p p' secret secret' : Bool) (A B : Notes) → p' ≡ p → secret' ≡ secret → Noted A B (names_of (λ x. initialization_name x ∷ []) (inferred_qual slots s (slot_at p k))) → ((q : Qualifier) → inferred_qual slots s (slot_at p k) ≡ Some q → q.null ≡ false) → Stands slots s k (cond p (slot_of secret A (receiver_qual A) ∷ []) []) → cond p' (slot_of secret' B (receiver_qual B) ∷ []) [] ≡ worded_from slots s k (cond p (slot_of secret A (receiver_qual A) ∷ []) [])
  receiver_new k p p' secret secret' A B e f n says h =
      slot_new slots s (λ x. initialization_name x ∷ []) receiver_qual Fits (λ has q b w fits. receiver_slot has q b w fits.0 fits.1) p p' k secret secret' A B e f n (λ q e. (says q e, sp (slot_at p k) q e)) h

  -- a result
  result_new : (k : ℕ) (u : Option TypeUseTree) (ms : List Mark) (ts us old_at new_at : List Token) (secret secret' : Bool) → secret' ≡ secret → let x : Option SlotNo = result_slot hs k (result_head (place_marks old_at ms) (place_result ts u)) in let names : List NameNo = both_at slots s x in Stands slots s k (result_slots hs secret (result_head (place_marks old_at ms) (place_result ts u))) → result_slots gs secret' (result_head (place_marks new_at (noted_result_marks names u ms)) (place_result us (noted_result names u))) ≡ worded_from slots s k (result_slots hs secret (result_head (place_marks old_at ms) (place_result ts u)))
  result_new k None ms ts us old_at new_at secret secret' e h = refl
  result_new k (Some u) ms ts us old_at new_at secret secret' e h =
      let old : TypeHead = type_head (modifier_notes (place_marks old_at ms)) (place_type_use ts u) in
      let names : List NameNo = both_at slots s (slot_at (is_position hs old) k) in
      let fresh : TypeHead = type_head (modifier_notes (place_marks new_at (noted_marks names u ms))) (place_type_use us (noted_use names u)) in
      value_new slots s hs gs same sp k secret secret' old fresh e (marked_same u names ms ts us old_at new_at)
      (noted_type u.base u.array names ts us (modifier_notes (place_marks old_at ms)) (modifier_notes (place_marks new_at (noted_marks names u ms))) (noted_modifiers old_at new_at ms (leading names u.array))) h

  -- ---- methods

  static_is : (a b : Bool) → a ≡ b → not (a || false) ≡ not (b || false)
  static_is a b e = ap (λ x. not (x || false)) e

  abbrev head_of : List MethodHead → MethodHead
  head_of [] = unwritten_constructor (unplaced (record { 0 = 0 }))
  head_of (x ∷ xs) = x

  pub methods_walk : (infer : Infer) (o : Owner) (interface : Bool) → o.interface ≡ interface → (cn : NameNo) (ms : List MemberTree) (fs : List Field) (c k b : ℕ) (rest : List Method) (ts us : List Token) → GoodMembers o ms → MembersSay slots s ms fs (methods_of hs c k b (methods_at infer interface ts ms) ++ rest) → Stands slots s k (methods_slots hs (methods_at infer interface ts ms)) → methods_slots gs (methods_at infer interface us (noted_members slots s cn ms fs (methods_of hs c k b (methods_at infer interface ts ms) ++ rest))) ≡ worded_from slots s k (methods_slots hs (methods_at infer interface ts ms))
  methods_walk infer o interface io cn [] fs c k b rest ts us g say h = refl
  methods_walk infer o true io cn (FieldMember marks u d ds ∷ ms) fs c k b rest ts us g say h =
      methods_walk infer o true io cn ms (drop (fields_in (FieldMember marks u d ds)) fs) c k b rest (behind ts (spell_member (FieldMember marks u d ds))) _ g.1 say.1 h
  methods_walk infer o false io cn (FieldMember marks u d ds ∷ ms) fs c k b rest ts us g say h =
      methods_walk infer o false io cn ms (drop (fields_in (FieldMember marks u d ds)) fs) c k b rest (behind ts (spell_member (FieldMember marks u d ds))) _ g.1 say.1 h
  methods_walk infer o true io cn (ConstructorMember marks n ps ss ∷ ms) fs c k b rest ts us g say h = absurd (false≢true (sym g.0.0.1 ∙ io))
  methods_walk infer o false io cn (ConstructorMember marks n ps ss ∷ ms) fs c k b rest ts us g say h =
      let m : MemberTree = ConstructorMember marks n ps ss in
      let old : MethodHead = head_of (method_marks infer false (place_member ts m)) in
      let later : List Token = behind ts (spell_member m) in
      let pt : List Token = behind (behind ts (spell_all_marks marks)) (Id n ∷ LeftParen ∷ []) in
      let pu : List Token = behind (behind us (spell_all_marks marks)) (Id n ∷ LeftParen ∷ []) in
      let w : Bool = infers infer false (place_marks ts marks) in
      let w' : Bool = infers infer false (place_marks us marks) in
      let e : w' ≡ w = sym (infers_alone infer false ts us marks) in
      let params : List SlotInfo = params_slots hs w (map param_head (place_parameters pt ps)) in
      let tail : List SlotInfo = methods_slots hs (methods_at infer false later ms) in
      let new : MemberTree = ConstructorMember marks n (noted_parameters slots s ps (param_slots hs w (k + 0) (map param_head (place_parameters pt ps)))) ss in
      let here = stands_right slots s k [] (params ++ []) (stands_left slots s k (params ++ []) tail h) in
      let one = slots_append slots s (k + 0) params [] _ [] (params_new slots s hs gs same sp ps w w' (k + 0) pt pu e (stands_left slots s (k + 0) params [] here)) refl in
      let all = slots_append slots s k [] (params ++ []) [] _ refl one in
      slots_append slots s k (method_slots hs old) tail _ _ all
      (methods_walk infer o false io cn ms fs c (k + length (method_slots hs old)) (b + 1) rest later (behind us (spell_member new)) g.1 say.1 (stands_right slots s k (method_slots hs old) tail h))
  methods_walk infer o interface io cn (MethodMember marks u n r ps body ∷ ms) fs c k b rest ts us g say h =
      let m : MemberTree = MethodMember marks u n r ps body in
      let old : MethodHead = head_of (method_marks infer interface (place_member ts m)) in
      let later : List Token = behind ts (spell_member m) in
      let info : Method = method_of hs c k b old in
      let names : List NameNo = both_at slots s info.result_slot in
      let q : Option Qualifier = inferred_qual slots s info.receiver in
      let marks' : List Mark = noted_result_marks names u marks in
      let u' : Option TypeUseTree = noted_result names u in
      let new : MemberTree = MethodMember marks' u' n (noted_receiver cn r q) (noted_parameters slots s ps info.param_slots) body in
      let at_result : List Token = behind ts (spell_all_marks marks) in
      let at_result' : List Token = behind us (spell_all_marks marks') in
      let rt : List Token = behind (behind at_result (spell_result u)) (Id n ∷ LeftParen ∷ []) in
      let ru : List Token = behind (behind at_result' (spell_result u')) (Id n ∷ LeftParen ∷ []) in
      let pt : List Token = behind rt (spell_receiver r) in
      let pu : List Token = behind ru (spell_receiver (noted_receiver cn r q)) in
      let w : Bool = infers infer interface (place_marks ts marks) in
      let w' : Bool = infers infer interface (place_marks us marks') in
      let e : w' ≡ w = sym (infers_result infer interface u names marks ts us) in
      let f : has_word StaticWord (place_marks us marks') ≡ has_word StaticWord (place_marks ts marks) = sym (result_words slots s StaticWord u names marks ts us) in
      let R : List SlotInfo = receiver_slots old in
      let params : List SlotInfo = params_slots hs w (map param_head (place_parameters pt ps)) in
      let results : List SlotInfo = result_slots hs w (result_head (place_marks ts marks) (place_result at_result u)) in
      let tail : List SlotInfo = methods_slots hs (methods_at infer interface later ms) in
      let whole = stands_left slots s k (R ++ (params ++ results)) tail h in
      let behind_r = stands_right slots s k R (params ++ results) whole in
      let t : ℕ = k + length R in
      let one = receiver_new k (has_receiver old) (not (has_word StaticWord (place_marks us marks') || false)) w w' (receiver_notes (place_receiver rt r)) (receiver_notes (place_receiver ru (noted_receiver cn r q))) (static_is (has_word StaticWord (place_marks us marks')) (has_word StaticWord (place_marks ts marks)) f) e (noted_receivers cn r q rt ru) say.0 (stands_left slots s k R (params ++ results) whole) in
      let two = params_new slots s hs gs same sp ps w w' t pt pu e (stands_left slots s t params results behind_r) in
      let three = result_new (t + length params) u marks at_result at_result' ts us w w' e (stands_right slots s t params results behind_r) in
      let all = slots_append slots s k R (params ++ results) _ _ one (slots_append slots s t params results _ _ two three) in
      slots_append slots s k (method_slots hs old) tail _ _ all
      (methods_walk infer o interface io cn ms fs c (k + length (method_slots hs old)) (b + count old.has_body) rest later (behind us (spell_member new)) g.1 say.1 (stands_right slots s k (method_slots hs old) tail h))
