-- A body that sends to a slot is in its list.
use Rattle.std.proofs.Common.{◌≡◌, ◌⊎◌, inl, inr, ⊎_elim, ℕ, zero, suc, ◌+◌, ◌<◌, ◌≤◌, Bool, true, false, cond, ◌&&◌, ◌||◌, List, [], ◌∷◌, ◌++◌, length, take, Option, Some, None, refl, sym, ap, ◌∙◌, subst, arith, append_assoc, append-nil}
use Rattle.std.specs.Prelude.{eqb, slice_get, slice_index_or}
use Rattle.std.proofs.lemmas.Bool.{cases_lt, eqb-true, eq-eqb, false≢true, true≢false}
use Rattle.std.proofs.lemmas.List.{take_more}
use Rattle.jn_base.specs.declared.number.SlotNo.{SlotNo}
use Rattle.jn_quals.specs.Qualifier.{Qualifier}
use Rattle.jn_quals.specs.Order.{null_only, settle, without_null}
use Rattle.jn_points.specs.declared.point.Operand.{Operand}
use Rattle.jn_points.specs.declared.point.Point.{Point}
use Rattle.jn_points.specs.declared.point.PointKind.{PointKind}
use Rattle.jn_points.specs.declared.point.PointKind.TheVariants.{Const, Move, Unary, Binary, Concat, SameRef, FieldRead, FieldWrite, StaticRead, StaticWrite, ElemRead, ElemWrite, ArrayLen, NewArray, ArrayOf, New, CtorCall, Call, StrOp, Print, Cast, TestInst, TestNull, Branch, Goto, Return}
use Rattle.jn_points.specs.declared.program.SlotInfo.{SlotInfo}
use Rattle.jn_points.specs.declared.program.Program.{Program}
use Rattle.jn_points.specs.Lookup.{body_at, field_info, method_at, method_in, point_at, points_of, slots_of}
use Rattle.jn_env.specs.Environment.{Env}
use Rattle.jn_env.specs.Keys.{is_on, own_keys}
use Rattle.jn_env.specs.Order.{Table, env_in, qual_at}
use Rattle.jn_transfer.specs.Contributions.{arg_sends, field_slot_of, is_inferred, kind_sends, receiver_sends, receiver_slot_of, result_slot_of, return_sends, sends, unset_sends}
use Rattle.jn_contrib.specs.declared.listed.Overrider.{Overrider}
use Rattle.jn_contrib.specs.Entries.{AreOverriders}
use Rattle.jn_reasons_law.specs.declared.item.Bit.{Bit}
use Rattle.jn_reasons_law.specs.declared.item.Item.TheVariants.{AtSlot}
use Rattle.jn_reasons_law.specs.Items.{on}
use Rattle.jn_reasons.specs.declared.causes.Cause.{Cause}
use Rattle.jn_reasons_law.specs.declared.item.Place.TheVariants.{OfPoint}
use Rattle.jn_reasons_law.specs.Sources.{sent_from}
use Rattle.jn_reasons.specs.Listed.{IsListed, firsts, is_sent, placed, sent_at, sent_by, body_causes, pair_causes, started, causes}
use Rattle.jn_transfer.specs.Pairs.{overriders}
use Rattle.jn_origins.specs.Targets.{IsOf, slot_list, slots_list, fields_list, targets, all_targets, Added, AreSendersBelow, AreSenders, over, AreSame}
use Rattle.jn_origins.proofs.Steps.{all_tasks, no_such}

-- ---- numbers in lists

pub of_left : (x : ℕ) (xs ys : List ℕ) → IsOf x xs → IsOf x (xs ++ ys)
of_left x [] ys h = absurd h
of_left x (y ∷ xs) ys (inl e) = inl e
of_left x (y ∷ xs) ys (inr h) = inr (of_left x xs ys h)

pub of_right : (x : ℕ) (xs ys : List ℕ) → IsOf x ys → IsOf x (xs ++ ys)
of_right x [] ys h = h
of_right x (y ∷ xs) ys h = inr (of_right x xs ys h)

pub of_either : (x : ℕ) (xs ys : List ℕ) → IsOf x (xs ++ ys) → IsOf x xs ⊎ IsOf x ys
of_either x [] ys h = inr h
of_either x (y ∷ xs) ys (inl e) = inl (inl e)
of_either x (y ∷ xs) ys (inr h) = ⊎_elim (λ (g : IsOf x xs). inl (inr g)) (λ (g : IsOf x ys). inr g) (of_either x xs ys h)

pub last_in : (x : ℕ) (xs : List ℕ) (i d : ℕ) → i < length xs → slice_index_or xs i d ≡ x → IsOf x xs
last_in x [] i d lt e = absurd (omega (arith, lt))
last_in x (z ∷ xs) zero d lt e = inl (sym e)
last_in x (z ∷ xs) (suc i) d lt e = inr (last_in x xs i d (omega (arith, lt)) e)

-- ---- lists of senders that grow

module _ (P : Program) (b : ℕ) where
  abbrev at : List (List ℕ) → ℕ → List ℕ
  at lists k = slice_index_or lists k []

  -- one more body in a list
  pub added_one : (a c : List (List ℕ)) (n : ℕ) → length c ≡ length a → ((d : ℕ) → at c d ≡ at a d ++ cond (eqb n d) (b ∷ []) []) → Added P b (n ∷ []) a c
  added_one a c n long h = record {
    long = long;
    kept = λ k x m. subst (IsOf x) (sym (h k)) (of_left x (at a k) (cond (eqb n k) (b ∷ []) []) m);
    there = λ k lt m i. by k m;
  }
    where
      by : (k : ℕ) → IsOf k (n ∷ []) → IsOf b (at c k)
      by k (inl same) = subst (IsOf b) (sym (h k)) (of_right b (at a k) (cond (eqb n k) (b ∷ []) []) (subst (λ (t : Bool). IsOf b (cond t (b ∷ []) [])) (sym (eq-eqb n k (sym same))) (inl refl)))
      by k (inr m) = absurd m

  pub added_both : (xs ys : List ℕ) (a c d : List (List ℕ)) → Added P b xs a c → Added P b ys c d → Added P b (xs ++ ys) a d
  added_both xs ys a c d h g = record {
    long = g.long ∙ h.long;
    kept = λ k x m. g.kept k x (h.kept k x m);
    there = λ k lt m i. let l = h.long in ⊎_elim (λ (o : IsOf k xs). g.kept k b (h.there k lt o i)) (λ (o : IsOf k ys). g.there k (omega (arith, lt, l)) o i) (of_either k xs ys m);
  }

  slots_append : (xs ys : List (Option SlotNo)) → slots_list (xs ++ ys) ≡ slots_list xs ++ slots_list ys
  slots_append [] ys = refl
  slots_append (x ∷ xs) ys = ap (λ (l : List ℕ). slot_list x ++ l) (slots_append xs ys) ∙ sym (append_assoc (slot_list x) (slots_list xs) (slots_list ys))

  pub slots_more : (slots : List (Option SlotNo)) (i : ℕ) (d : Option SlotNo) (a c e : List (List ℕ)) → i < length slots
      → Added P b (slots_list (take i slots)) a c → Added P b (slot_list (slice_index_or slots i d)) c e → Added P b (slots_list (take (i + 1) slots)) a e
  slots_more slots i d a c e lt h g =
      let x = slice_index_or slots i d in
      let same : slots_list (take (i + 1) slots) ≡ slots_list (take i slots) ++ slot_list x = ap slots_list (take_more slots i d lt) ∙ slots_append (take i slots) (x ∷ []) ∙ ap (λ (l : List ℕ). slots_list (take i slots) ++ l) (append-nil (slot_list x)) in
      subst (λ (l : List ℕ). Added P b l a e) (sym same) (added_both (slots_list (take i slots)) (slot_list x) a c e h g)

  fields_append : (xs ys : List ℕ) → fields_list P (xs ++ ys) ≡ fields_list P xs ++ fields_list P ys
  fields_append [] ys = refl
  fields_append (f ∷ xs) ys = ap (λ (l : List ℕ). slot_list (field_slot_of (field_info P f)) ++ l) (fields_append xs ys) ∙ sym (append_assoc (slot_list (field_slot_of (field_info P f))) (fields_list P xs) (fields_list P ys))

  pub fields_more : (fields : List ℕ) (i d : ℕ) (a c e : List (List ℕ)) → i < length fields
      → Added P b (fields_list P (take i fields)) a c → Added P b (slot_list (field_slot_of (field_info P (slice_index_or fields i d)))) c e → Added P b (fields_list P (take (i + 1) fields)) a e
  fields_more fields i d a c e lt h g =
      let x = slice_index_or fields i d in
      let one = slot_list (field_slot_of (field_info P x)) in
      let same : fields_list P (take (i + 1) fields) ≡ fields_list P (take i fields) ++ one = ap (fields_list P) (take_more fields i d lt) ∙ fields_append (take i fields) (x ∷ []) ∙ ap (λ (l : List ℕ). fields_list P (take i fields) ++ l) (append-nil one) in
      subst (λ (l : List ℕ). Added P b l a e) (sym same) (added_both (fields_list P (take i fields)) one a c e h g)

  targets_append : (xs ys : List Point) → all_targets P b (xs ++ ys) ≡ all_targets P b xs ++ all_targets P b ys
  targets_append [] ys = refl
  targets_append (x ∷ xs) ys = ap (λ (l : List ℕ). targets P b x.kind ++ l) (targets_append xs ys) ∙ sym (append_assoc (targets P b x.kind) (all_targets P b xs) (all_targets P b ys))

  pub points_more : (points : List Point) (i : ℕ) (d : Point) (a c e : List (List ℕ)) → i < length points
      → Added P b (all_targets P b (take i points)) a c → Added P b (targets P b (slice_index_or points i d).kind) c e → Added P b (all_targets P b (take (i + 1) points)) a e
  points_more points i d a c e lt h g =
      let x = slice_index_or points i d in
      let same : all_targets P b (take (i + 1) points) ≡ all_targets P b (take i points) ++ targets P b x.kind = ap (all_targets P b) (take_more points i d lt) ∙ targets_append (take i points) (x ∷ []) ∙ ap (λ (l : List ℕ). all_targets P b (take i points) ++ l) (append-nil (targets P b x.kind)) in
      subst (λ (l : List ℕ). Added P b l a e) (sym same) (added_both (all_targets P b (take i points)) (targets P b x.kind) a c e h g)

  of_point : (points : List Point) (p k : ℕ) (pt : Point) → slice_get points p ≡ Some pt → IsOf k (targets P b pt.kind) → IsOf k (all_targets P b points)
  of_point [] p k pt e h = absurd (none_is e)
    where
      flag : Option Point → Bool
      flag None = true
      flag (Some z) = false

      none_is : None ≡ Some pt → ⊥
      none_is g = true≢false (ap flag g)
  of_point (x ∷ points) zero k pt e h = of_left k (targets P b x.kind) (all_targets P b points) (subst (λ (y : Point). IsOf k (targets P b y.kind)) (sym (some_is e)) h)
    where
      get : Option Point → Point
      get None = x
      get (Some z) = z

      some_is : Some x ≡ Some pt → x ≡ pt
      some_is g = ap get g
  of_point (x ∷ points) (suc p) k pt e h = of_right k (targets P b x.kind) (all_targets P b points) (of_point points p k pt e h)

inferred_inside : (slots : List SlotInfo) (k : ℕ) → is_inferred (slice_get slots k) ≡ true → k < length slots
inferred_inside [] k e = absurd (false≢true e)
inferred_inside (x ∷ slots) zero e = omega arith
inferred_inside (x ∷ slots) (suc k) e = let h = inferred_inside slots k e in omega (arith, h)

-- one body more
pub senders_more : (P : Program) (n : ℕ) (a c : List (List ℕ)) → AreSendersBelow P n a → Added P n (all_targets P n (points_of (body_at P n))) a c → AreSendersBelow P (n + 1) c
senders_more P n a c h g = record {
  long = g.long ∙ h.long;
  all = λ b p k pt lt e o i. by b p k pt lt e o i (cases_lt b n);
}
  where
    by : (b p k : ℕ) (pt : Point) → b < n + 1 → point_at P b p ≡ Some pt → IsOf k (targets P b pt.kind) → is_inferred (slice_get P.slots k) ≡ true → (b < n) ⊎ (n ≤ b) → IsOf b (slice_index_or c k [])
    by b p k pt lt e o i (inl less) = g.kept k b (h.all b p k pt less e o i)
    by b p k pt lt e o i (inr le) =
        let same : n ≡ b = omega (arith, lt, le) in
        let low = inferred_inside P.slots k i in
        let long = h.long in
        subst (λ (m : ℕ). IsOf m (slice_index_or c k [])) same
        (g.there k (omega (arith, low, long)) (subst (λ (m : ℕ). IsOf k (all_targets P m (points_of (body_at P m)))) (sym same) (of_point P b (points_of (body_at P b)) p k pt e o)) i)

-- ---- what is sent goes to a target

record IsTo (P : Program) (k : ℕ) (slots : List ℕ) : Type 0 where
  pub of : IsOf k slots
  pub inferred : is_inferred (slice_get P.slots k) ≡ true

module _ (P : Program) (k : ℕ) (bit : Bit) where
  to_left : (xs ys : List ℕ) → IsTo P k xs → IsTo P k (xs ++ ys)
  to_left xs ys h = record { of = of_left k xs ys h.of; inferred = h.inferred }

  to_right : (xs ys : List ℕ) → IsTo P k ys → IsTo P k (xs ++ ys)
  to_right xs ys h = record { of = of_right k xs ys h.of; inferred = h.inferred }

  sent_either : (xs ys : List (ℕ × Qualifier)) → is_sent k bit (xs ++ ys) ≡ true → (is_sent k bit xs ≡ true) ⊎ (is_sent k bit ys ≡ true)
  sent_either [] ys h = inr h
  sent_either (x ∷ xs) ys h = by (eqb x.0 k && on bit x.1) (sent_either xs ys) h
    where
      by : (t : Bool) → (is_sent k bit (xs ++ ys) ≡ true → (is_sent k bit xs ≡ true) ⊎ (is_sent k bit ys ≡ true)) → (t || is_sent k bit (xs ++ ys)) ≡ true → ((t || is_sent k bit xs) ≡ true) ⊎ (is_sent k bit ys ≡ true)
      by true f g = inl refl
      by false f g = f g

  send_to : (slot : Option SlotNo) (q : Qualifier) → is_sent k bit (sends P slot q) ≡ true → IsTo P k (slot_list slot)
  send_to None q h = absurd (false≢true h)
  send_to (Some n) q h = by (is_inferred (slice_get P.slots n.0)) refl h
    where
      here : (t : Bool) → eqb n.0 k ≡ t → ((t && on bit q) || false) ≡ true → n.0 ≡ k
      here true e g = eqb-true n.0 k e
      here false e g = absurd (false≢true g)

      by : (t : Bool) → is_inferred (slice_get P.slots n.0) ≡ t → is_sent k bit (cond t ((n.0, q) ∷ []) []) ≡ true → IsTo P k (n.0 ∷ [])
      by true e g = let same = here (eqb n.0 k) refl g in record { of = inl (sym same); inferred = subst (λ (m : ℕ). is_inferred (slice_get P.slots m) ≡ true) same e }
      by false e g = absurd (false≢true g)

  args_to : (e : Env) (slots : List (Option SlotNo)) (args : List Operand) → is_sent k bit (arg_sends P e slots args) ≡ true → IsTo P k (slots_list slots)
  args_to e [] args h = absurd (false≢true h)
  args_to e (x ∷ slots) [] h = absurd (false≢true h)
  args_to e (x ∷ slots) (a ∷ args) h =
      ⊎_elim (λ (g : is_sent k bit (sends P x (qual_at e a.reg.0)) ≡ true). to_left (slot_list x) (slots_list slots) (send_to x (qual_at e a.reg.0) g))
      (λ (g : is_sent k bit (arg_sends P e slots args) ≡ true). to_right (slot_list x) (slots_list slots) (args_to e slots args g))
      (sent_either (sends P x (qual_at e a.reg.0)) (arg_sends P e slots args) h)

  receiver_to : (e : Env) (slot : Option SlotNo) (r : Option Operand) → is_sent k bit (receiver_sends P e slot r) ≡ true → IsTo P k (slot_list slot)
  receiver_to e slot None h = absurd (false≢true h)
  receiver_to e slot (Some r) h = send_to slot (without_null (qual_at e r.reg.0)) h

  return_to : (e : Env) (slot : Option SlotNo) (v : Option Operand) → is_sent k bit (return_sends P e slot v) ≡ true → IsTo P k (slot_list slot)
  return_to e slot None h = absurd (false≢true h)
  return_to e slot (Some v) h = send_to slot (qual_at e v.reg.0) h

  unset_to : (fs keys : List ℕ) (bits : List Bool) → is_sent k bit (unset_sends P fs keys bits) ≡ true → IsTo P k (fields_list P fs)
  unset_to [] keys bits h = absurd (false≢true h)
  unset_to (f ∷ fs) keys bits h =
      let slot = field_slot_of (field_info P f) in
      let c = is_on (λ m. eqb m f) keys bits in
      ⊎_elim (λ (g : is_sent k bit (cond c [] (sends P slot null_only)) ≡ true). to_left (slot_list slot) (fields_list P fs) (by slot c g))
      (λ (g : is_sent k bit (unset_sends P fs keys bits) ≡ true). to_right (slot_list slot) (fields_list P fs) (unset_to fs keys bits g))
      (sent_either (cond c [] (sends P slot null_only)) (unset_sends P fs keys bits) h)
    where
      by : (slot : Option SlotNo) (c : Bool) → is_sent k bit (cond c [] (sends P slot null_only)) ≡ true → IsTo P k (slot_list slot)
      by slot true g = absurd (false≢true g)
      by slot false g = send_to slot null_only g

  kind_to : (b : ℕ) (e : Env) (kind : PointKind) → is_sent k bit (kind_sends P b e kind) ≡ true → IsTo P k (targets P b kind)
  kind_to b e (Const dst v) h = absurd (false≢true h)
  kind_to b e (Move dst from bound) h = absurd (false≢true h)
  kind_to b e (Unary dst neg of) h = absurd (false≢true h)
  kind_to b e (Binary dst op l g) h = absurd (false≢true h)
  kind_to b e (Concat dst l g) h = absurd (false≢true h)
  kind_to b e (SameRef dst eq l g) h = absurd (false≢true h)
  kind_to b e (FieldRead dst o f) h = absurd (false≢true h)
  kind_to b e (FieldWrite o f v) h = send_to (field_slot_of (field_info P f.0)) (settle (qual_at e v.reg.0)) h
  kind_to b e (StaticRead dst f) h = absurd (false≢true h)
  kind_to b e (StaticWrite f v) h = absurd (false≢true h)
  kind_to b e (ElemRead dst o i) h = absurd (false≢true h)
  kind_to b e (ElemWrite o i v) h = absurd (false≢true h)
  kind_to b e (ArrayLen dst o) h = absurd (false≢true h)
  kind_to b e (NewArray dst base n) h = absurd (false≢true h)
  kind_to b e (ArrayOf dst base xs) h = absurd (false≢true h)
  kind_to b e (New dst m args) h = args_to e (slots_of (method_at P m.0)) args h
  kind_to b e (CtorCall m args own) h = args_to e (slots_of (method_at P m.0)) args h
  kind_to b e (Call dst m r direct args) h =
      let slots = slots_of (method_at P m.0) in
      let slot = receiver_slot_of (method_at P m.0) in
      ⊎_elim (λ (g : is_sent k bit (arg_sends P e slots args) ≡ true). to_left (slots_list slots) (slot_list slot) (args_to e slots args g))
      (λ (g : is_sent k bit (receiver_sends P e slot r) ≡ true). to_right (slots_list slots) (slot_list slot) (receiver_to e slot r g))
      (sent_either (arg_sends P e slots args) (receiver_sends P e slot r) h)
  kind_to b e (StrOp dst op of other) h = absurd (false≢true h)
  kind_to b e (Print of) h = absurd (false≢true h)
  kind_to b e (Cast dst of c) h = absurd (false≢true h)
  kind_to b e (TestInst of c og at_yes at_no) h = absurd (false≢true h)
  kind_to b e (TestNull of og at_null at_value) h = absurd (false≢true h)
  kind_to b e (Branch of at_yes at_no) h = absurd (false≢true h)
  kind_to b e (Goto to) h = absurd (false≢true h)
  kind_to b e (Return v) h =
      let slot = result_slot_of (method_in P b) in
      let own = own_keys P b in
      ⊎_elim (λ (g : is_sent k bit (return_sends P e slot v) ≡ true). to_left (slot_list slot) (fields_list P own) (return_to e slot v g))
      (λ (g : is_sent k bit (unset_sends P own own e.assigned) ≡ true). to_right (slot_list slot) (fields_list P own) (unset_to own own e.assigned g))
      (sent_either (return_sends P e slot v) (unset_sends P own own e.assigned) h)

-- ---- causes in lists

pub listed_left : (c : Cause) (xs ys : List Cause) → IsListed c xs → IsListed c (xs ++ ys)
listed_left c [] ys h = absurd h
listed_left c (x ∷ xs) ys (inl e) = inl e
listed_left c (x ∷ xs) ys (inr h) = inr (listed_left c xs ys h)

pub listed_right : (c : Cause) (xs ys : List Cause) → IsListed c ys → IsListed c (xs ++ ys)
listed_right c [] ys h = h
listed_right c (x ∷ xs) ys h = inr (listed_right c xs ys h)

pub listed_either : (c : Cause) (xs ys : List Cause) → IsListed c (xs ++ ys) → IsListed c xs ⊎ IsListed c ys
listed_either c [] ys h = inr h
listed_either c (x ∷ xs) ys (inl e) = inl (inl e)
listed_either c (x ∷ xs) ys (inr h) = ⊎_elim (λ (g : IsListed c xs). inl (inr g)) (λ (g : IsListed c ys). inr g) (listed_either c xs ys h)

pub record IsBelow (f : ℕ → List Cause) (n : ℕ) (c : Cause) : Type 0 where
  pub number : ℕ
  pub below : number < n
  pub listed : IsListed c (f number)

pub in_firsts : (f : ℕ → List Cause) (n : ℕ) (c : Cause) → IsListed c (firsts f n) → IsBelow f n c
in_firsts f zero c h = absurd h
in_firsts f (suc n) c h =
    ⊎_elim (λ (g : IsListed c (firsts f n)). let r = in_firsts f n c g in let lt = r.below in record { number = r.number; below = omega (arith, lt); listed = r.listed })
    (λ (g : IsListed c (f n)). record { number = n; below = omega arith; listed = g }) (listed_either c (firsts f n) (f n) h)

pub to_firsts : (f : ℕ → List Cause) (n i : ℕ) (c : Cause) → i < n → IsListed c (f i) → IsListed c (firsts f n)
to_firsts f zero i c lt h = absurd (omega (arith, lt))
to_firsts f (suc n) i c lt h = by (λ (less : i < n). to_firsts f n i c less h) (cases_lt i n)
  where
    by : (i < n → IsListed c (firsts f n)) → (i < n) ⊎ (n ≤ i) → IsListed c (firsts f n ++ f n)
    by before (inl less) = listed_left c (firsts f n) (f n) (before less)
    by before (inr le) = let same : i ≡ n = omega (arith, lt, le) in listed_right c (firsts f n) (f n) (subst (λ (j : ℕ). IsListed c (f j)) same h)

pub to_over : (f : ℕ → List Cause) (xs : List ℕ) (x : ℕ) (c : Cause) → IsOf x xs → IsListed c (f x) → IsListed c (over f xs)
to_over f [] x c o h = absurd o
to_over f (y ∷ xs) x c (inl e) h = listed_left c (f y) (over f xs) (subst (λ (j : ℕ). IsListed c (f j)) e h)
to_over f (y ∷ xs) x c (inr o) h = listed_right c (f y) (over f xs) (to_over f xs x c o h)

pub in_over : (f : ℕ → List Cause) (xs : List ℕ) (c : Cause) → IsListed c (over f xs) → (x : ℕ) × IsListed c (f x)
in_over f [] c h = absurd h
in_over f (y ∷ xs) c h = ⊎_elim (λ (g : IsListed c (f y)). (y, g)) (λ (g : IsListed c (over f xs)). in_over f xs c g) (listed_either c (f y) (over f xs) h)

over_append : (f : ℕ → List Cause) (xs ys : List ℕ) → over f (xs ++ ys) ≡ over f xs ++ over f ys
over_append f [] ys = refl
over_append f (x ∷ xs) ys = ap (λ (l : List Cause). f x ++ l) (over_append f xs ys) ∙ sym (append_assoc (f x) (over f xs) (over f ys))

-- one number more
pub over_more : (f : ℕ → List Cause) (xs : List ℕ) (i d : ℕ) (old list new : List Cause) → i < length xs → new ≡ list ++ f (slice_index_or xs i d) → list ≡ old ++ over f (take i xs) → new ≡ old ++ over f (take (i + 1) xs)
over_more f xs i d old list new lt h l =
    let x = slice_index_or xs i d in
    let same : over f (take (i + 1) xs) ≡ over f (take i xs) ++ f x = ap (over f) (take_more xs i d lt) ∙ over_append f (take i xs) (x ∷ []) ∙ ap (λ (m : List Cause). over f (take i xs) ++ m) (append-nil (f x)) in
    h ∙ ap (λ (m : List Cause). m ++ f x) l ∙ append_assoc old (over f (take i xs)) (f x) ∙ ap (λ (m : List Cause). old ++ m) (sym same)

-- a body that isn't there sends nothing
pub no_body_causes : (P : Program) (b : ℕ) (T : Table) (k : ℕ) (bit : Bit) → length P.bodies ≤ b → body_causes P b T k bit ≡ []
no_body_causes P b T k bit le = ap (λ (n : ℕ). firsts (sent_by P b T k bit) n) (ap (λ o. length (points_of o)) (no_such P.bodies b le))

module _ (P : Program) (tables : List Table) (k : ℕ) (bit : Bit) (lists : List (List ℕ)) (senders : AreSenders P lists) where
  abbrev F : ℕ → List Cause
  F b = body_causes P b (slice_index_or tables b []) k bit

  at_point : (b p : ℕ) (c : Cause) (o : Option Point) (q : Option Env) → b < length P.bodies → point_at P b p ≡ o → IsListed c (sent_at P b k bit p o q) → IsOf b (slice_index_or lists k [])
  at_point b p c None q lt e h = absurd h
  at_point b p c (Some pt) None lt e h = absurd h
  at_point b p c (Some pt) (Some env) lt e h = by (is_sent k bit (kind_sends P b env pt.kind)) refl (placed (OfPoint b p) (sent_from b p P env k pt.kind bit)) h
    where
      by : (t : Bool) → is_sent k bit (kind_sends P b env pt.kind) ≡ t → (xs : List Cause) → IsListed c (cond t xs []) → IsOf b (slice_index_or lists k [])
      by true i xs g = let r = kind_to P k bit b env pt.kind i in senders.all b p k pt lt e r.of r.inferred
      by false i xs g = absurd g

  of_body : (b : ℕ) (c : Cause) → b < length P.bodies → IsListed c (F b) → IsOf b (slice_index_or lists k [])
  of_body b c lt h =
      let T = slice_index_or tables b [] in
      let r = in_firsts (sent_by P b T k bit) (length (points_of (body_at P b))) c h in
      at_point b r.number c (point_at P b r.number) (env_in T r.number) lt refl r.listed

  same_bodies : AreSame (over F (slice_index_or lists k [])) (firsts F (length P.bodies))
  same_bodies = record {
    all = λ c h. let r = in_firsts F (length P.bodies) c h in to_over F (slice_index_or lists k []) r.number c (of_body r.number c r.below r.listed) r.listed;
    none_else = λ c h. let r = in_over F (slice_index_or lists k []) c h in by c r.0 r.1 (cases_lt r.0 (length P.bodies));
  }
    where
      by : (c : Cause) (x : ℕ) → IsListed c (F x) → (x < length P.bodies) ⊎ (length P.bodies ≤ x) → IsListed c (firsts F (length P.bodies))
      by c x h (inl lt) = to_firsts F (length P.bodies) x c lt h
      by c x h (inr le) = absurd (subst (IsListed c) (no_body_causes P x (slice_index_or tables x []) k bit le) h)

pub none_added : (P : Program) (b : ℕ) (T : Table) (k : ℕ) (bit : Bit) (list : List Cause) → length P.bodies ≤ b → list ≡ list ++ body_causes P b T k bit
none_added P b T k bit list le = sym (append-nil list) ∙ ap (λ (l : List Cause). list ++ l) (sym (no_body_causes P b T k bit le))

-- ---- the same causes

pub same_list : (xs ys : List Cause) → xs ≡ ys → AreSame xs ys
same_list xs ys e = record { all = λ c h. subst (IsListed c) (sym e) h; none_else = λ c h. subst (IsListed c) e h }

same_between : (a xs ys d : List Cause) → AreSame xs ys → AreSame ((a ++ xs) ++ d) ((a ++ ys) ++ d)
same_between a xs ys d h = record { all = λ c m. go c ys xs (h.all c) m; none_else = λ c m. go c xs ys (h.none_else c) m }
  where
    go : (c : Cause) (us vs : List Cause) → (IsListed c us → IsListed c vs) → IsListed c ((a ++ us) ++ d) → IsListed c ((a ++ vs) ++ d)
    go c us vs f m = ⊎_elim
        (λ (g : IsListed c (a ++ us)). listed_left c (a ++ vs) d (⊎_elim (λ (l : IsListed c a). listed_left c a vs l) (λ (l : IsListed c us). listed_right c a vs (f l)) (listed_either c a us g)))
        (λ (g : IsListed c d). listed_right c (a ++ vs) d g) (listed_either c (a ++ us) d m)

-- the start, the bodies that can send and all methods that override
pub same_tasks : (P : Program) (s : List Qualifier) (tables : List Table) (k : ℕ) (bit : Bit) (list : List Overrider) (lists : List (List ℕ)) (senders : List ℕ) (a b c : List Cause)
    → AreOverriders P list → AreSenders P lists → senders ≡ slice_index_or lists k []
    → a ≡ started P k bit
    → b ≡ a ++ over (λ b. body_causes P b (slice_index_or tables b []) k bit) senders
    → c ≡ b ++ firsts (λ j. pair_causes P s k bit (slice_index_or (overriders P) j 0)) (length list)
    → AreSame c (causes P s tables (AtSlot k bit))
same_tasks P s tables k bit list lists senders a b c over_list are is ea eb ec =
    let G = λ (n : ℕ). body_causes P n (slice_index_or tables n []) k bit in
    let pairs = firsts (λ j. pair_causes P s k bit (slice_index_or (overriders P) j 0)) (length list) in
    let whole = (a ++ firsts G (length P.bodies)) ++ pairs in
    let same : whole ≡ causes P s tables (AtSlot k bit) = all_tasks P s tables k bit list a (a ++ firsts G (length P.bodies)) whole over_list ea refl refl in
    let here : (a ++ over G (slice_index_or lists k [])) ++ pairs ≡ c = sym (ec ∙ ap (λ (l : List Cause). l ++ pairs) (eb ∙ ap (λ (l : List ℕ). a ++ over G l) is)) in
    subst (λ (l : List Cause). AreSame l (causes P s tables (AtSlot k bit))) here
    (subst (λ (l : List Cause). AreSame ((a ++ over G (slice_index_or lists k [])) ++ pairs) l) same
    (same_between a (over G (slice_index_or lists k [])) (firsts G (length P.bodies)) pairs (same_bodies P tables k bit lists are)))
