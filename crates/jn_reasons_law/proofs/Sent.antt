-- What a point sends to a slot has a source.
use Rattle.std.proofs.Common.{◌≡◌, ℕ, Bool, true, false, cond, inl, inr, ⊎_elim, List, [], ◌∷◌, ◌++◌, Option, Some, None, refl, sym, ap, ◌∙◌, subst}
use Rattle.std.specs.Prelude.{eqb, slice_get}
use Rattle.std.proofs.lemmas.Bool.{eq-eqb}
use Rattle.jn_base.specs.declared.number.SlotNo.{SlotNo}
use Rattle.jn_quals.specs.Qualifier.{Qualifier}
use Rattle.jn_quals.specs.Order.{null_only, settle, without_null}
use Rattle.jn_points.specs.declared.point.Operand.{Operand}
use Rattle.jn_points.specs.declared.point.PointKind.{PointKind}
use Rattle.jn_points.specs.declared.point.PointKind.TheVariants.{Const, Move, Unary, Binary, Concat, SameRef, FieldRead, FieldWrite, StaticRead, StaticWrite, ElemRead, ElemWrite, ArrayLen, NewArray, ArrayOf, New, CtorCall, Call, StrOp, Print, Cast, TestInst, TestNull, Branch, Goto, Return}
use Rattle.jn_points.specs.declared.program.Program.{Program}
use Rattle.jn_points.specs.Lookup.{slots_of, field_info, method_at, method_in}
use Rattle.jn_env.specs.Environment.{Env}
use Rattle.jn_env.specs.Order.{Table, qual_at, EnvWithin}
use Rattle.jn_env.specs.Keys.{is_on, own_keys}
use Rattle.jn_env.proofs.BitOrder.{is_on_above}
use Rattle.jn_transfer.specs.Contributions.{IsSent, arg_sends, field_slot_of, is_inferred, kind_sends, receiver_sends, receiver_slot_of, result_slot_of, return_sends, sends, unset_sends}
use Rattle.jn_reasons_law.specs.declared.item.Bit.{Bit}
use Rattle.jn_reasons_law.specs.declared.item.Bit.TheVariants.{Nullable, Committed, Free}
use Rattle.jn_reasons_law.specs.declared.item.Item.{Item}
use Rattle.jn_reasons_law.specs.declared.item.Item.TheVariants.{AtRegister}
use Rattle.jn_reasons_law.specs.Items.{on}
use Rattle.jn_reasons_law.specs.Sources.{the_text, from_register, if_slot, from_settled, from_arguments, from_operand, from_receiver, from_unset, for_null, sent_from}
use Rattle.jn_reasons_law.specs.Chains.{HasChain}
use Rattle.jn_reasons_law.proofs.Bits.{never, or_either}
use Rattle.jn_reasons_law.proofs.Choosing.{Chosen, the_text_chosen, item_chosen, chosen_left, chosen_right}
use Rattle.jn_reasons_law.proofs.Sendings.{sent_cases}

module _ (P : Program) (s : List Qualifier) (tables : List Table) where
  -- what is sent to slot k through a slot
  chosen_if : (c : Bool) (n k : ℕ) (q0 q : Qualifier) (bit : Bit) (zs : List (Option Item)) → (on bit q0 ≡ true → Chosen P s tables zs) → IsSent (k, q) (cond c ((n, q0) ∷ []) []) → on bit q ≡ true → Chosen P s tables (cond (eqb n k) zs [])
  chosen_if true n k q0 q bit zs f (inl i) h =
      let same : n ≡ k = sym (ap (λ (x : ℕ × Qualifier). x.0) i) in
      let qual : q ≡ q0 = ap (λ (x : ℕ × Qualifier). x.1) i in
      subst (λ c. Chosen P s tables (cond c zs [])) (sym (eq-eqb n k same)) (f (subst (λ z. on bit z ≡ true) qual h))
  chosen_if true n k q0 q bit zs f (inr m) h = absurd m
  chosen_if false n k q0 q bit zs f m h = absurd m

  pub send_chosen : (slot : Option SlotNo) (k : ℕ) (q0 q : Qualifier) (bit : Bit) (zs : List (Option Item)) → (on bit q0 ≡ true → Chosen P s tables zs) → IsSent (k, q) (sends P slot q0) → on bit q ≡ true → Chosen P s tables (if_slot k slot zs)
  send_chosen None k q0 q bit zs f m h = absurd m
  send_chosen (Some n) k q0 q bit zs f m h = chosen_if (is_inferred (slice_get P.slots n.0)) n.0 k q0 q bit zs f m h

  pub both_chosen : (x : ℕ × Qualifier) (xs ys : List (ℕ × Qualifier)) (us vs : List (Option Item)) → (IsSent x xs → Chosen P s tables us) → (IsSent x ys → Chosen P s tables vs) → IsSent x (xs ++ ys) → Chosen P s tables (us ++ vs)
  both_chosen x xs ys us vs f g m = ⊎_elim (λ a. chosen_left P s tables us vs (f a)) (λ a. chosen_right P s tables us vs (g a)) (sent_cases x xs ys m)

  module _ (b p : ℕ) (e E : Env) (w : EnvWithin e E) (regs : (r : ℕ) (bit : Bit) → on bit (qual_at e r) ≡ true → HasChain P s tables (AtRegister b p r bit)) (k : ℕ) (q : Qualifier) (bit : Bit) (h : on bit q ≡ true) where
    of_register : (r : ℕ) (c : Bit) → on c (qual_at e r) ≡ true → Chosen P s tables (from_register b p r c)
    of_register r c g = item_chosen P s tables (AtRegister b p r c) (regs r c g)

    settled_chosen : (r : ℕ) (c : Bit) → on c (settle (qual_at e r)) ≡ true → Chosen P s tables (from_settled b p r c)
    settled_chosen r Nullable g = of_register r Nullable g
    settled_chosen r Committed g = ⊎_elim
        (λ a. chosen_left P s tables (from_register b p r Committed) (from_register b p r Free) (of_register r Committed a))
        (λ a. chosen_right P s tables (from_register b p r Committed) (from_register b p r Free) (of_register r Free a))
        (or_either (qual_at e r).committed (qual_at e r).free g)
    settled_chosen r Free g = absurd (never g)

    arguments_chosen : (xs : List (Option SlotNo)) (args : List Operand) → IsSent (k, q) (arg_sends P e xs args) → Chosen P s tables (from_arguments b p k xs args bit)
    arguments_chosen [] args m = absurd m
    arguments_chosen (x ∷ xs) [] m = absurd m
    arguments_chosen (x ∷ xs) (a ∷ args) m =
        both_chosen (k, q) (sends P x (qual_at e a.reg.0)) (arg_sends P e xs args) (if_slot k x (from_register b p a.reg.0 bit)) (from_arguments b p k xs args bit)
        (λ i. send_chosen x k (qual_at e a.reg.0) q bit (from_register b p a.reg.0 bit) (of_register a.reg.0 bit) i h)
        (λ i. arguments_chosen xs args i)
        m

    receiver_by : (slot : Option SlotNo) (a : Operand) (c : Bit) → on c q ≡ true → IsSent (k, q) (sends P slot (without_null (qual_at e a.reg.0))) → Chosen P s tables (from_receiver b p k slot (Some a) c)
    receiver_by slot a Nullable g m = send_none slot m
      where
        off : (c : Bool) (n : ℕ) → IsSent (k, q) (cond c ((n, without_null (qual_at e a.reg.0)) ∷ []) []) → Chosen P s tables []
        off true n (inl i) = absurd (never (ap (λ (x : ℕ × Qualifier). x.1.null) (sym i) ∙ g))
        off true n (inr i) = absurd i
        off false n i = absurd i

        send_none : (o : Option SlotNo) → IsSent (k, q) (sends P o (without_null (qual_at e a.reg.0))) → Chosen P s tables []
        send_none None i = absurd i
        send_none (Some n) i = off (is_inferred (slice_get P.slots n.0)) n.0 i
    receiver_by slot a Committed g m = send_chosen slot k (without_null (qual_at e a.reg.0)) q Committed (from_register b p a.reg.0 Committed) (of_register a.reg.0 Committed) m g
    receiver_by slot a Free g m = send_chosen slot k (without_null (qual_at e a.reg.0)) q Free (from_register b p a.reg.0 Free) (of_register a.reg.0 Free) m g

    receivers_chosen : (slot : Option SlotNo) (o : Option Operand) → IsSent (k, q) (receiver_sends P e slot o) → Chosen P s tables (from_receiver b p k slot o bit)
    receivers_chosen slot None m = absurd m
    receivers_chosen slot (Some a) m = receiver_by slot a bit h m

    returns_chosen : (slot : Option SlotNo) (o : Option Operand) → IsSent (k, q) (return_sends P e slot o) → Chosen P s tables (from_operand b p k slot o bit)
    returns_chosen slot None m = absurd m
    returns_chosen slot (Some a) m = send_chosen slot k (qual_at e a.reg.0) q bit (from_register b p a.reg.0 bit) (of_register a.reg.0 bit) m h

    unless_on : (c d : Bool) (slot : Option SlotNo) → (d ≡ true → c ≡ true) → IsSent (k, q) (cond c [] (sends P slot null_only)) → Chosen P s tables (cond d [] (if_slot k slot the_text))
    unless_on true d slot f m = absurd m
    unless_on false true slot f m = absurd (never (f refl))
    unless_on false false slot f m = send_chosen slot k null_only q bit the_text (λ g. the_text_chosen P s tables) m h

    unset_chosen : (fs keys : List ℕ) → IsSent (k, q) (unset_sends P fs keys e.assigned) → Chosen P s tables (from_unset b p P E k fs keys)
    unset_chosen [] keys m = absurd m
    unset_chosen (f ∷ fs) keys m =
        both_chosen (k, q) (cond (is_on (λ key. eqb key f) keys e.assigned) [] (sends P (field_slot_of (field_info P f)) null_only)) (unset_sends P fs keys e.assigned)
        (cond (is_on (λ key. eqb key f) keys E.assigned) [] (if_slot k (field_slot_of (field_info P f)) the_text)) (from_unset b p P E k fs keys)
        (λ i. unless_on (is_on (λ key. eqb key f) keys e.assigned) (is_on (λ key. eqb key f) keys E.assigned) (field_slot_of (field_info P f)) (is_on_above (λ key. eqb key f) keys e.assigned E.assigned w.assigned) i)
        (λ i. unset_chosen fs keys i)
        m

    -- what is sent to fields that aren't assigned is null alone
    one_null : (c d : Bool) (n : ℕ) → IsSent (k, q) (cond c [] (cond d ((n, null_only) ∷ []) [])) → q ≡ null_only
    one_null true d n m = absurd m
    one_null false true n (inl i) = ap (λ (x : ℕ × Qualifier). x.1) i
    one_null false true n (inr m) = absurd m
    one_null false false n m = absurd m

    unset_null : (fs keys : List ℕ) → IsSent (k, q) (unset_sends P fs keys e.assigned) → q ≡ null_only
    unset_null [] keys m = absurd m
    unset_null (f ∷ fs) keys m = ⊎_elim
        (λ i. first (is_on (λ key. eqb key f) keys e.assigned) (field_slot_of (field_info P f)) i)
        (λ i. unset_null fs keys i)
        (sent_cases (k, q) (cond (is_on (λ key. eqb key f) keys e.assigned) [] (sends P (field_slot_of (field_info P f)) null_only)) (unset_sends P fs keys e.assigned) m)
      where
        first : (c : Bool) (o : Option SlotNo) → IsSent (k, q) (cond c [] (sends P o null_only)) → q ≡ null_only
        first true None i = absurd i
        first false None i = absurd i
        first c (Some n) i = one_null c (is_inferred (slice_get P.slots n.0)) n.0 i

    null_chosen : (c : Bit) → on c q ≡ true → (fs keys : List ℕ) → IsSent (k, q) (unset_sends P fs keys e.assigned) → Chosen P s tables (for_null c (from_unset b p P E k fs keys))
    null_chosen Nullable g fs keys m = unset_chosen fs keys m
    null_chosen Committed g fs keys m = absurd (never (sym (ap (λ (x : Qualifier). x.committed) (unset_null fs keys m)) ∙ g))
    null_chosen Free g fs keys m = absurd (never (sym (ap (λ (x : Qualifier). x.free) (unset_null fs keys m)) ∙ g))

    pub sent_chosen : (kind : PointKind) → IsSent (k, q) (kind_sends P b e kind) → Chosen P s tables (sent_from b p P E k kind bit)
    sent_chosen (Const dst v) m = absurd m
    sent_chosen (Move dst from bound) m = absurd m
    sent_chosen (Unary dst neg of) m = absurd m
    sent_chosen (Binary dst op left right) m = absurd m
    sent_chosen (Concat dst left right) m = absurd m
    sent_chosen (SameRef dst eq left right) m = absurd m
    sent_chosen (FieldRead dst o f) m = absurd m
    sent_chosen (FieldWrite o f v) m = send_chosen (field_slot_of (field_info P f.0)) k (settle (qual_at e v.reg.0)) q bit (from_settled b p v.reg.0 bit) (settled_chosen v.reg.0 bit) m h
    sent_chosen (StaticRead dst f) m = absurd m
    sent_chosen (StaticWrite f v) m = absurd m
    sent_chosen (ElemRead dst a i) m = absurd m
    sent_chosen (ElemWrite a i v) m = absurd m
    sent_chosen (ArrayLen dst a) m = absurd m
    sent_chosen (NewArray dst base n) m = absurd m
    sent_chosen (ArrayOf dst base xs) m = absurd m
    sent_chosen (New dst c args) m = arguments_chosen (slots_of (method_at P c.0)) args m
    sent_chosen (CtorCall c args own) m = arguments_chosen (slots_of (method_at P c.0)) args m
    sent_chosen (Call dst c o direct args) m =
        both_chosen (k, q) (arg_sends P e (slots_of (method_at P c.0)) args) (receiver_sends P e (receiver_slot_of (method_at P c.0)) o) (from_arguments b p k (slots_of (method_at P c.0)) args bit) (from_receiver b p k (receiver_slot_of (method_at P c.0)) o bit)
        (arguments_chosen (slots_of (method_at P c.0)) args)
        (receivers_chosen (receiver_slot_of (method_at P c.0)) o)
        m
    sent_chosen (StrOp dst op of other) m = absurd m
    sent_chosen (Print of) m = absurd m
    sent_chosen (Cast dst of c) m = absurd m
    sent_chosen (TestInst of c og at_yes at_no) m = absurd m
    sent_chosen (TestNull of og at_null at_value) m = absurd m
    sent_chosen (Branch of at_yes at_no) m = absurd m
    sent_chosen (Goto to) m = absurd m
    sent_chosen (Return v) m =
        both_chosen (k, q) (return_sends P e (result_slot_of (method_in P b)) v) (unset_sends P (own_keys P b) (own_keys P b) e.assigned) (from_operand b p k (result_slot_of (method_in P b)) v bit) (for_null bit (from_unset b p P E k (own_keys P b) (own_keys P b)))
        (returns_chosen (result_slot_of (method_in P b)) v)
        (null_chosen bit h (own_keys P b) (own_keys P b))
        m
