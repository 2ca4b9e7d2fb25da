-- A source that stands is sent: where slot k is inferred, the lists of sources name no more than what is sent.
use Rattle.std.proofs.Common.{◌≡◌, ℕ, Bool, true, false, cond, ◌||◌, ◌⊎◌, inl, inr, ⊎_elim, List, [], ◌∷◌, ◌++◌, Option, Some, None, refl, sym, ap, ◌∙◌, subst}
use Rattle.std.specs.Prelude.{eqb, slice_get}
use Rattle.std.proofs.lemmas.Bool.{eqb-true}
use Rattle.jn_base.specs.declared.number.SlotNo.{SlotNo}
use Rattle.jn_quals.specs.Qualifier.{Qualifier}
use Rattle.jn_quals.specs.Order.{null_only, settle, without_null}
use Rattle.jn_points.specs.declared.point.Operand.{Operand}
use Rattle.jn_points.specs.declared.point.PointKind.{PointKind}
use Rattle.jn_points.specs.declared.point.PointKind.TheVariants.{Const, Move, Unary, Binary, Concat, SameRef, FieldRead, FieldWrite, StaticRead, StaticWrite, ElemRead, ElemWrite, ArrayLen, NewArray, ArrayOf, New, CtorCall, Call, StrOp, Print, Cast, TestInst, TestNull, Branch, Goto, Return}
use Rattle.jn_points.specs.declared.program.Program.{Program}
use Rattle.jn_points.specs.Lookup.{slots_of, field_info, method_at, method_in}
use Rattle.jn_env.specs.Environment.{Env}
use Rattle.jn_env.specs.Order.{qual_at}
use Rattle.jn_env.specs.Keys.{is_on, own_keys}
use Rattle.jn_transfer.specs.Contributions.{arg_sends, field_slot_of, is_inferred, kind_sends, receiver_sends, receiver_slot_of, result_slot_of, return_sends, sends, unset_sends}
use Rattle.jn_reasons_law.specs.declared.item.Bit.{Bit}
use Rattle.jn_reasons_law.specs.declared.item.Bit.TheVariants.{Nullable, Committed, Free}
use Rattle.jn_reasons_law.specs.declared.item.Item.{Item}
use Rattle.jn_reasons_law.specs.Items.{on}
use Rattle.jn_reasons_law.specs.Chains.{StandsBefore, SendsBit}
use Rattle.jn_reasons_law.specs.Sources.{IsOneOf, the_text, from_register, if_slot, from_settled, from_arguments, from_operand, from_receiver, from_unset, for_null, sent_from}
use Rattle.jn_reasons_law.proofs.Sendings.{sent_left, sent_right}

one_cases : (z : Option Item) (xs ys : List (Option Item)) → IsOneOf z (xs ++ ys) → IsOneOf z xs ⊎ IsOneOf z ys
one_cases z [] ys h = inr h
one_cases z (x ∷ xs) ys (inl e) = inl (inl e)
one_cases z (x ∷ xs) ys (inr h) = ⊎_elim (λ a. inl (inr a)) (λ c. inr c) (one_cases z xs ys h)

module _ (P : Program) (k : ℕ) (inferred : is_inferred (slice_get P.slots k) ≡ true) (z : Option Item) where
  left : (bit : Bit) (xs ys : List (ℕ × Qualifier)) → SendsBit k bit xs → SendsBit k bit (xs ++ ys)
  left bit xs ys h = record { qual = h.qual; there = sent_left (k, h.qual) xs ys h.there; has = h.has }

  right : (bit : Bit) (xs ys : List (ℕ × Qualifier)) → SendsBit k bit ys → SendsBit k bit (xs ++ ys)
  right bit xs ys h = record { qual = h.qual; there = sent_right (k, h.qual) xs ys h.there; has = h.has }

  pub both : (bit : Bit) (us vs : List (Option Item)) (xs ys : List (ℕ × Qualifier)) → (IsOneOf z us → SendsBit k bit xs) → (IsOneOf z vs → SendsBit k bit ys) → IsOneOf z (us ++ vs) → SendsBit k bit (xs ++ ys)
  both bit us vs xs ys f g m = ⊎_elim (λ a. left bit xs ys (f a)) (λ a. right bit xs ys (g a)) (one_cases z us vs m)

  at_slot : (n : ℕ) (c : Bool) (d : Bool) (bit : Bit) (q : Qualifier) (zs : List (Option Item)) → eqb n k ≡ c → is_inferred (slice_get P.slots n) ≡ d → (IsOneOf z zs → on bit q ≡ true) → IsOneOf z (cond c zs []) → SendsBit k bit (cond d ((n, q) ∷ []) [])
  at_slot n true true bit q zs e i f m = record { qual = q; there = inl (λ j. (sym (eqb-true n k e) j, q)); has = f m }
  at_slot n true false bit q zs e i f m = absurd (clash (sym i ∙ ap (λ j. is_inferred (slice_get P.slots j)) (eqb-true n k e) ∙ inferred))
    where
      clash : false ≡ true → ⊥
      clash h = cc
  at_slot n false d bit q zs e i f m = absurd m

  pub slot_sent : (o : Option SlotNo) (bit : Bit) (q : Qualifier) (zs : List (Option Item)) → (IsOneOf z zs → on bit q ≡ true) → IsOneOf z (if_slot k o zs) → SendsBit k bit (sends P o q)
  slot_sent None bit q zs f m = absurd m
  slot_sent (Some n) bit q zs f m = at_slot n.0 (eqb n.0 k) (is_inferred (slice_get P.slots n.0)) bit q zs refl refl f m

  module _ (b p : ℕ) (E : Env) (st : StandsBefore E z) where
    register_on : (r : ℕ) (c : Bit) → IsOneOf z (from_register b p r c) → on c (qual_at E r) ≡ true
    register_on r c (inl e) = subst (StandsBefore E) e st
    register_on r c (inr m) = absurd m

    or_first : (a c : Bool) → a ≡ true → (a || c) ≡ true
    or_first true c h = refl
    or_first false c h = absurd cc

    or_second : (a c : Bool) → c ≡ true → (a || c) ≡ true
    or_second true c h = refl
    or_second false c h = h

    settled_on : (r : ℕ) (bit : Bit) → IsOneOf z (from_settled b p r bit) → on bit (settle (qual_at E r)) ≡ true
    settled_on r Nullable m = register_on r Nullable m
    settled_on r Committed m = ⊎_elim
        (λ a. or_first (qual_at E r).committed (qual_at E r).free (register_on r Committed a))
        (λ a. or_second (qual_at E r).committed (qual_at E r).free (register_on r Free a))
        (one_cases z (from_register b p r Committed) (from_register b p r Free) m)
    settled_on r Free m = absurd m

    arguments_sent : (bit : Bit) (xs : List (Option SlotNo)) (args : List Operand) → IsOneOf z (from_arguments b p k xs args bit) → SendsBit k bit (arg_sends P E xs args)
    arguments_sent bit [] args m = absurd m
    arguments_sent bit (x ∷ xs) [] m = absurd m
    arguments_sent bit (x ∷ xs) (a ∷ args) m =
        both bit (if_slot k x (from_register b p a.reg.0 bit)) (from_arguments b p k xs args bit) (sends P x (qual_at E a.reg.0)) (arg_sends P E xs args)
        (slot_sent x bit (qual_at E a.reg.0) (from_register b p a.reg.0 bit) (register_on a.reg.0 bit))
        (arguments_sent bit xs args)
        m

    receiver_sent : (bit : Bit) (o : Option SlotNo) (a : Option Operand) → IsOneOf z (from_receiver b p k o a bit) → SendsBit k bit (receiver_sends P E o a)
    receiver_sent Nullable o a m = absurd m
    receiver_sent Committed o None m = absurd m
    receiver_sent Committed o (Some a) m = slot_sent o Committed (without_null (qual_at E a.reg.0)) (from_register b p a.reg.0 Committed) (register_on a.reg.0 Committed) m
    receiver_sent Free o None m = absurd m
    receiver_sent Free o (Some a) m = slot_sent o Free (without_null (qual_at E a.reg.0)) (from_register b p a.reg.0 Free) (register_on a.reg.0 Free) m

    value_sent : (bit : Bit) (o : Option SlotNo) (a : Option Operand) → IsOneOf z (from_operand b p k o a bit) → SendsBit k bit (return_sends P E o a)
    value_sent bit o None m = absurd m
    value_sent bit o (Some a) m = slot_sent o bit (qual_at E a.reg.0) (from_register b p a.reg.0 bit) (register_on a.reg.0 bit) m

    unless_sent : (c : Bool) (o : Option SlotNo) → IsOneOf z (cond c [] (if_slot k o the_text)) → SendsBit k Nullable (cond c [] (sends P o null_only))
    unless_sent true o m = absurd m
    unless_sent false o m = slot_sent o Nullable null_only the_text (λ i. refl) m

    unset_sent : (fs keys : List ℕ) → IsOneOf z (from_unset b p P E k fs keys) → SendsBit k Nullable (unset_sends P fs keys E.assigned)
    unset_sent [] keys m = absurd m
    unset_sent (f ∷ fs) keys m =
        both Nullable (cond (is_on (λ key. eqb key f) keys E.assigned) [] (if_slot k (field_slot_of (field_info P f)) the_text)) (from_unset b p P E k fs keys)
        (cond (is_on (λ key. eqb key f) keys E.assigned) [] (sends P (field_slot_of (field_info P f)) null_only)) (unset_sends P fs keys E.assigned)
        (unless_sent (is_on (λ key. eqb key f) keys E.assigned) (field_slot_of (field_info P f)))
        (unset_sent fs keys)
        m

    null_sent : (bit : Bit) (fs keys : List ℕ) → IsOneOf z (for_null bit (from_unset b p P E k fs keys)) → SendsBit k bit (unset_sends P fs keys E.assigned)
    null_sent Nullable fs keys m = unset_sent fs keys m
    null_sent Committed fs keys m = absurd m
    null_sent Free fs keys m = absurd m

    pub source_sent : (kind : PointKind) (bit : Bit) → IsOneOf z (sent_from b p P E k kind bit) → SendsBit k bit (kind_sends P b E kind)
    source_sent (Const dst v) bit m = absurd m
    source_sent (Move dst from bound) bit m = absurd m
    source_sent (Unary dst neg of) bit m = absurd m
    source_sent (Binary dst op l r) bit m = absurd m
    source_sent (Concat dst l r) bit m = absurd m
    source_sent (SameRef dst eq l r) bit m = absurd m
    source_sent (FieldRead dst o f) bit m = absurd m
    source_sent (FieldWrite o f v) bit m = slot_sent (field_slot_of (field_info P f.0)) bit (settle (qual_at E v.reg.0)) (from_settled b p v.reg.0 bit) (settled_on v.reg.0 bit) m
    source_sent (StaticRead dst f) bit m = absurd m
    source_sent (StaticWrite f v) bit m = absurd m
    source_sent (ElemRead dst a i) bit m = absurd m
    source_sent (ElemWrite a i v) bit m = absurd m
    source_sent (ArrayLen dst a) bit m = absurd m
    source_sent (NewArray dst base n) bit m = absurd m
    source_sent (ArrayOf dst base xs) bit m = absurd m
    source_sent (New dst c args) bit m = arguments_sent bit (slots_of (method_at P c.0)) args m
    source_sent (CtorCall c args own) bit m = arguments_sent bit (slots_of (method_at P c.0)) args m
    source_sent (Call dst c o direct args) bit m =
        both bit (from_arguments b p k (slots_of (method_at P c.0)) args bit) (from_receiver b p k (receiver_slot_of (method_at P c.0)) o bit) (arg_sends P E (slots_of (method_at P c.0)) args) (receiver_sends P E (receiver_slot_of (method_at P c.0)) o)
        (arguments_sent bit (slots_of (method_at P c.0)) args)
        (receiver_sent bit (receiver_slot_of (method_at P c.0)) o)
        m
    source_sent (StrOp dst op of other) bit m = absurd m
    source_sent (Print of) bit m = absurd m
    source_sent (Cast dst of c) bit m = absurd m
    source_sent (TestInst of c og at_yes at_no) bit m = absurd m
    source_sent (TestNull of og at_null at_value) bit m = absurd m
    source_sent (Branch of at_yes at_no) bit m = absurd m
    source_sent (Goto to) bit m = absurd m
    source_sent (Return v) bit m =
        both bit (from_operand b p k (result_slot_of (method_in P b)) v bit) (for_null bit (from_unset b p P E k (own_keys P b) (own_keys P b))) (return_sends P E (result_slot_of (method_in P b)) v) (unset_sends P (own_keys P b) (own_keys P b) E.assigned)
        (value_sent bit (result_slot_of (method_in P b)) v)
        (null_sent bit (own_keys P b) (own_keys P b))
        m

pub sources_sent : (P : Program) (b p : ℕ) (E : Env) (kind : PointKind) (k : ℕ) (bit : Bit) (z : Option Item) → is_inferred (slice_get P.slots k) ≡ true → StandsBefore E z → IsOneOf z (sent_from b p P E k kind bit) → SendsBit k bit (kind_sends P b E kind)
sources_sent P b p E kind k bit z inferred st m = source_sent P k inferred z b p E st kind bit m
