-- What is sent grows with the table.
use Rattle.std.proofs.Common.{◌≡◌, ℕ, Bool, true, false, cond, ◌⊎◌, inl, inr, ⊎_elim, List, [], ◌∷◌, ◌++◌, Option, Some, None, refl, sym, subst}
use Rattle.std.specs.Prelude.{IsTrue, eqb, slice_get}
use Rattle.jn_base.specs.declared.number.SlotNo.{SlotNo}
use Rattle.jn_quals.specs.Qualifier.{Qualifier}
use Rattle.jn_quals.specs.Order.{within, null_only, settle, without_null}
use Rattle.jn_quals.proofs.Order.{within_refl, settle_within, without_null_within}
use Rattle.jn_points.specs.declared.point.Operand.{Operand}
use Rattle.jn_points.specs.declared.point.PointKind.{PointKind}
use Rattle.jn_points.specs.declared.point.PointKind.TheVariants.{Const, Move, Unary, Binary, Concat, SameRef, FieldRead, FieldWrite, StaticRead, StaticWrite, ElemRead, ElemWrite, ArrayLen, NewArray, ArrayOf, New, CtorCall, Call, StrOp, Print, Cast, TestInst, TestNull, Branch, Goto, Return}
use Rattle.jn_points.specs.declared.program.Program.{Program}
use Rattle.jn_points.specs.Lookup.{field_info, method_at, method_in, slots_of}
use Rattle.jn_env.specs.Environment.{Env}
use Rattle.jn_env.specs.Keys.{is_on, own_keys}
use Rattle.jn_env.specs.Order.{env_in, qual_at, BitsAbove, EnvWithin, SlotWithin, Table, TableWithin}
use Rattle.jn_env.proofs.BitOrder.{is_on_above}
use Rattle.jn_env.proofs.Order.{env_qual, table_at}
use Rattle.jn_transfer.specs.Contributions.{IsSent, arg_sends, field_slot_of, is_inferred, kind_sends, receiver_sends, receiver_slot_of, result_slot_of, return_sends, sends, unset_sends}
use Rattle.jn_contrib.specs.Sends.{body_sends}
use Rattle.jn_contrib.specs.SentBy.{IsSentBy}
use Rattle.jn_contrib.proofs.Sent.{of_a_point, of_the_body, sent_cases, sent_left, sent_right}
use Rattle.jn_tables_law.specs.CoveredSend.{CoveredSend}

pub covered_left : (x : ℕ × Qualifier) (xs ys : List (ℕ × Qualifier)) → CoveredSend x xs → CoveredSend x (xs ++ ys)
covered_left x xs ys c = record { qual = c.qual; there = sent_left (x.0, c.qual) xs ys c.there; above = c.above }

pub covered_right : (x : ℕ × Qualifier) (xs ys : List (ℕ × Qualifier)) → CoveredSend x ys → CoveredSend x (xs ++ ys)
covered_right x xs ys c = record { qual = c.qual; there = sent_right (x.0, c.qual) xs ys c.there; above = c.above }

pub both_covered : (x : ℕ × Qualifier) (xs ys us vs : List (ℕ × Qualifier)) → (IsSent x xs → CoveredSend x us) → (IsSent x ys → CoveredSend x vs) → IsSent x (xs ++ ys) → CoveredSend x (us ++ vs)
both_covered x xs ys us vs f g m = ⊎_elim (λ h. covered_left x us vs (f h)) (λ h. covered_right x us vs (g h)) (sent_cases x xs ys m)

pub if_inferred : (c : Bool) (n : ℕ) (p q : Qualifier) (x : ℕ × Qualifier) → IsTrue (within p q) → IsSent x (cond c ((n, p) ∷ []) []) → CoveredSend x (cond c ((n, q) ∷ []) [])
if_inferred true n p q x w (inl e) = subst (λ y. CoveredSend y ((n, q) ∷ [])) (sym e) (record { qual = q; there = inl refl; above = w })
if_inferred true n p q x w (inr m) = absurd m
if_inferred false n p q x w m = absurd m

module _ (P : Program) where
  sends_above : (slot : Option SlotNo) (p q : Qualifier) (x : ℕ × Qualifier) → IsTrue (within p q) → IsSent x (sends P slot p) → CoveredSend x (sends P slot q)
  sends_above None p q x w m = absurd m
  sends_above (Some n) p q x w m = if_inferred (is_inferred (slice_get P.slots n.0)) n.0 p q x w m

  -- null is sent to fields that stay unassigned
  unless_assigned : (c d : Bool) (slot : Option SlotNo) (x : ℕ × Qualifier) → (d ≡ true → c ≡ true) → IsSent x (cond c [] (sends P slot null_only)) → CoveredSend x (cond d [] (sends P slot null_only))
  unless_assigned true d slot x h m = absurd m
  unless_assigned false true slot x h m = absurd (let k = h refl in cc)
  unless_assigned false false slot x h m = sends_above slot null_only null_only x (within_refl null_only) m

  unset_above : (fs keys : List ℕ) (as' bs : List Bool) (x : ℕ × Qualifier) → BitsAbove as' bs → IsSent x (unset_sends P fs keys as') → CoveredSend x (unset_sends P fs keys bs)
  unset_above [] keys as' bs x w m = absurd m
  unset_above (f ∷ fs) keys as' bs x w m =
      both_covered x (cond (is_on (λ k. eqb k f) keys as') [] (sends P (field_slot_of (field_info P f)) null_only)) (unset_sends P fs keys as') (cond (is_on (λ k. eqb k f) keys bs) [] (sends P (field_slot_of (field_info P f)) null_only)) (unset_sends P fs keys bs)
      (λ h. unless_assigned (is_on (λ k. eqb k f) keys as') (is_on (λ k. eqb k f) keys bs) (field_slot_of (field_info P f)) x (is_on_above (λ k. eqb k f) keys as' bs w) h)
      (λ h. unset_above fs keys as' bs x w h)
      m

  module _ (e f : Env) (w : EnvWithin e f) (x : ℕ × Qualifier) where
    args_above : (slots : List (Option SlotNo)) (args : List Operand) → IsSent x (arg_sends P e slots args) → CoveredSend x (arg_sends P f slots args)
    args_above [] args m = absurd m
    args_above (s ∷ slots) [] m = absurd m
    args_above (s ∷ slots) (a ∷ args) m =
        both_covered x (sends P s (qual_at e a.reg.0)) (arg_sends P e slots args) (sends P s (qual_at f a.reg.0)) (arg_sends P f slots args)
        (λ h. sends_above s (qual_at e a.reg.0) (qual_at f a.reg.0) x (env_qual e f a.reg.0 w) h)
        (λ h. args_above slots args h)
        m

    receivers_above : (slot : Option SlotNo) (r : Option Operand) → IsSent x (receiver_sends P e slot r) → CoveredSend x (receiver_sends P f slot r)
    receivers_above slot None m = absurd m
    receivers_above slot (Some r) m = sends_above slot (without_null (qual_at e r.reg.0)) (without_null (qual_at f r.reg.0)) x (without_null_within (qual_at e r.reg.0) (qual_at f r.reg.0) (env_qual e f r.reg.0 w)) m

    returns_above : (slot : Option SlotNo) (v : Option Operand) → IsSent x (return_sends P e slot v) → CoveredSend x (return_sends P f slot v)
    returns_above slot None m = absurd m
    returns_above slot (Some v) m = sends_above slot (qual_at e v.reg.0) (qual_at f v.reg.0) x (env_qual e f v.reg.0 w) m

    kinds_above : (b : ℕ) (k : PointKind) → IsSent x (kind_sends P b e k) → CoveredSend x (kind_sends P b f k)
    kinds_above b (Const dst v) m = absurd m
    kinds_above b (Move dst from bound) m = absurd m
    kinds_above b (Unary dst neg of) m = absurd m
    kinds_above b (Binary dst op l r) m = absurd m
    kinds_above b (Concat dst l r) m = absurd m
    kinds_above b (SameRef dst eq l r) m = absurd m
    kinds_above b (FieldRead dst r g) m = absurd m
    kinds_above b (FieldWrite r g v) m = sends_above (field_slot_of (field_info P g.0)) (settle (qual_at e v.reg.0)) (settle (qual_at f v.reg.0)) x (settle_within (qual_at e v.reg.0) (qual_at f v.reg.0) (env_qual e f v.reg.0 w)) m
    kinds_above b (StaticRead dst g) m = absurd m
    kinds_above b (StaticWrite g v) m = absurd m
    kinds_above b (ElemRead dst r i) m = absurd m
    kinds_above b (ElemWrite r i v) m = absurd m
    kinds_above b (ArrayLen dst r) m = absurd m
    kinds_above b (NewArray dst base n) m = absurd m
    kinds_above b (ArrayOf dst base xs) m = absurd m
    kinds_above b (New dst ctor args) m = args_above (slots_of (method_at P ctor.0)) args m
    kinds_above b (CtorCall ctor args own) m = args_above (slots_of (method_at P ctor.0)) args m
    kinds_above b (Call dst k r direct args) m =
        both_covered x (arg_sends P e (slots_of (method_at P k.0)) args) (receiver_sends P e (receiver_slot_of (method_at P k.0)) r) (arg_sends P f (slots_of (method_at P k.0)) args) (receiver_sends P f (receiver_slot_of (method_at P k.0)) r)
        (λ h. args_above (slots_of (method_at P k.0)) args h)
        (λ h. receivers_above (receiver_slot_of (method_at P k.0)) r h)
        m
    kinds_above b (StrOp dst op of other) m = absurd m
    kinds_above b (Print of) m = absurd m
    kinds_above b (Cast dst of c) m = absurd m
    kinds_above b (TestInst of c og at_yes at_no) m = absurd m
    kinds_above b (TestNull of og at_null at_value) m = absurd m
    kinds_above b (Branch of at_yes at_no) m = absurd m
    kinds_above b (Goto to) m = absurd m
    kinds_above b (Return v) m =
        both_covered x (return_sends P e (result_slot_of (method_in P b)) v) (unset_sends P (own_keys P b) (own_keys P b) e.assigned) (return_sends P f (result_slot_of (method_in P b)) v) (unset_sends P (own_keys P b) (own_keys P b) f.assigned)
        (λ h. returns_above (result_slot_of (method_in P b)) v h)
        (λ h. unset_above (own_keys P b) (own_keys P b) e.assigned f.assigned x w.assigned h)
        m

  module _ (b : ℕ) (T U : Table) (w : TableWithin T U) (x : ℕ × Qualifier) where
    pub sent_above : IsSent x (body_sends P b T) → CoveredSend x (body_sends P b U)
    sent_above m =
        let h = of_a_point P b T x m in
        by h (env_in U h.place) refl (subst (λ o. SlotWithin o (env_in U h.place)) h.reached (table_at T U h.place w))
      where
        by : (h : IsSentBy P b T x) (o : Option Env) → env_in U h.place ≡ o → SlotWithin (Some h.env) o → CoveredSend x (body_sends P b U)
        by h None is v = absurd v
        by h (Some f) is v =
            let c = kinds_above h.env f v x b h.point.kind h.sent in
            record { qual = c.qual; there = of_the_body P b U (x.0, c.qual) (record { place = h.place; point = h.point; env = f; there = h.there; reached = is; sent = c.there }); above = c.above }
