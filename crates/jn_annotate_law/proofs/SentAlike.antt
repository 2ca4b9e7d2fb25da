-- What programs send that are alike: into a slot that is inferred in both the same goes.
use Rattle.std.proofs.Common.{◌≡◌, ◌⊎◌, ⊎_elim, inl, inr, ℕ, ◌+◌, Bool, true, false, not, cond, ◌&&◌, ◌||◌, List, [], ◌∷◌, ◌++◌, length, Option, Some, None, refl, sym, ap, ◌∙◌, subst}
use Rattle.std.specs.Prelude.{eqb, filter, flat_map, map, option_map, slice_get}
use Rattle.jn_base.specs.declared.number.SlotNo.{SlotNo}
use Rattle.jn_quals.specs.Qualifier.{Qualifier}
use Rattle.jn_quals.specs.Order.{null_only, settle}
use Rattle.jn_points.specs.declared.point.Operand.{Operand}
use Rattle.jn_points.specs.declared.point.Point.{Point}
use Rattle.jn_points.specs.declared.point.PointKind.{PointKind}
use Rattle.jn_points.specs.declared.point.PointKind.TheVariants.{Const, Move, Unary, Binary, Concat, SameRef, FieldRead, FieldWrite, StaticRead, StaticWrite, ElemRead, ElemWrite, ArrayLen, NewArray, ArrayOf, New, CtorCall, Call, StrOp, Print, Cast, TestInst, TestNull, Branch, Goto, Return}
use Rattle.jn_points.specs.declared.program.Body.{Body}
use Rattle.jn_points.specs.declared.program.Field.{Field}
use Rattle.jn_points.specs.declared.program.Method.{Method}
use Rattle.jn_points.specs.declared.program.Program.{Program}
use Rattle.jn_points.specs.Lookup.{class_of, field_info, method_at, method_in, slots_of}
use Rattle.jn_points.specs.Members.{below, is_pair, some_of}
use Rattle.jn_sigs.specs.Signature.{calls_from, calls_method, counts_for, has_call_site, method_has_slot, uncalled_from}
use Rattle.jn_env.specs.Environment.{Env}
use Rattle.jn_env.specs.Order.{qual_at}
use Rattle.jn_env.specs.Keys.{is_on, own_keys}
use Rattle.jn_transfer.specs.Contributions.{IsSent, arg_sends, field_slot_of, is_inferred, kind_sends, receiver_sends, receiver_slot_of, result_slot_of, return_sends, sends, unset_sends}
use Rattle.jn_transfer.specs.Pairs.{override_sends, pair_sends, slot_sends, slots_sends, under}
use Rattle.jn_places_law.specs.Bare.{Alike, bare, bare_body, bare_field, bare_kind, bare_method, bare_operands, bare_points}
use Rattle.jn_places_law.proofs.Flow.{own_keys_is}
use Rattle.jn_places_law.proofs.Lookups.{class_bare, field_info_is, filter_same, is_pair_is, method_at_is, method_in_is, slots_at_is, some_same}
use Rattle.jn_places_law.proofs.RowForms.{across}
use Rattle.std.proofs.lemmas.List.{length-map}
use Rattle.jn_contrib.proofs.Sent.{sent_cases, sent_left, sent_right}

-- ---- one list after another

both : (x : ℕ × Qualifier) (xs ys us vs : List (ℕ × Qualifier)) → (IsSent x xs → IsSent x us) → (IsSent x ys → IsSent x vs) → IsSent x (xs ++ ys) → IsSent x (us ++ vs)
both x xs ys us vs f g m = ⊎_elim (λ h. sent_left x us vs (f h)) (λ h. sent_right x us vs (g h)) (sent_cases x xs ys m)

-- ---- operands without places

args_bare : (P : Program) (e : Env) (xs : List (Option SlotNo)) (args : List Operand) → arg_sends P e xs args ≡ arg_sends P e xs (bare_operands args)
args_bare P e [] args = refl
args_bare P e (x ∷ xs) [] = refl
args_bare P e (x ∷ xs) (a ∷ args) = ap (λ r. sends P x (qual_at e a.reg.0) ++ r) (args_bare P e xs args)

kind_bare : (P : Program) (b : ℕ) (e : Env) (k : PointKind) → kind_sends P b e k ≡ kind_sends P b e (bare_kind k)
kind_bare P b e (New dst m args) = args_bare P e (slots_of (method_at P m.0)) args
kind_bare P b e (CtorCall m args own) = args_bare P e (slots_of (method_at P m.0)) args
kind_bare P b e (Call dst m None direct args) = ap (λ r. r ++ []) (args_bare P e (slots_of (method_at P m.0)) args)
kind_bare P b e (Call dst m (Some r) direct args) = ap (λ x. x ++ receiver_sends P e (receiver_slot_of (method_at P m.0)) (Some r)) (args_bare P e (slots_of (method_at P m.0)) args)
kind_bare P b e (Return None) = refl
kind_bare P b e (Return (Some v)) = refl
kind_bare P b e (FieldWrite r f v) = refl
kind_bare P b e (Const dst value) = refl
kind_bare P b e (Move dst from bound) = refl
kind_bare P b e (Unary dst negate of) = refl
kind_bare P b e (Binary dst op l r) = refl
kind_bare P b e (Concat dst l r) = refl
kind_bare P b e (SameRef dst eq l r) = refl
kind_bare P b e (FieldRead dst r f) = refl
kind_bare P b e (StaticRead dst f) = refl
kind_bare P b e (StaticWrite f v) = refl
kind_bare P b e (ElemRead dst r i) = refl
kind_bare P b e (ElemWrite r i v) = refl
kind_bare P b e (ArrayLen dst r) = refl
kind_bare P b e (NewArray dst base n) = refl
kind_bare P b e (ArrayOf dst base xs) = refl
kind_bare P b e (StrOp dst op of other) = refl
kind_bare P b e (Print of) = refl
kind_bare P b e (Cast dst of c) = refl
kind_bare P b e (TestInst of c og at_yes at_no) = refl
kind_bare P b e (TestNull of og at_null at_value) = refl
kind_bare P b e (Branch of at_yes at_no) = refl
kind_bare P b e (Goto to) = refl

-- ---- what is declared

field_slot_bare : (f : Option Field) → field_slot_of (option_map bare_field f) ≡ field_slot_of f
field_slot_bare None = refl
field_slot_bare (Some f) = refl

receiver_slot_bare : (m : Option Method) → receiver_slot_of (option_map bare_method m) ≡ receiver_slot_of m
receiver_slot_bare None = refl
receiver_slot_bare (Some m) = refl

result_slot_bare : (m : Option Method) → result_slot_of (option_map bare_method m) ≡ result_slot_of m
result_slot_bare None = refl
result_slot_bare (Some m) = refl

calls_bare : (m : ℕ) (k : PointKind) → calls_method m (bare_kind k) ≡ calls_method m k
calls_bare m (New dst ctor args) = refl
calls_bare m (CtorCall ctor args own) = refl
calls_bare m (Call dst method receiver direct args) = refl
calls_bare m (Return v) = refl
calls_bare m (FieldWrite r f v) = refl
calls_bare m (Const dst value) = refl
calls_bare m (Move dst from bound) = refl
calls_bare m (Unary dst negate of) = refl
calls_bare m (Binary dst op l r) = refl
calls_bare m (Concat dst l r) = refl
calls_bare m (SameRef dst eq l r) = refl
calls_bare m (FieldRead dst r f) = refl
calls_bare m (StaticRead dst f) = refl
calls_bare m (StaticWrite f v) = refl
calls_bare m (ElemRead dst r i) = refl
calls_bare m (ElemWrite r i v) = refl
calls_bare m (ArrayLen dst r) = refl
calls_bare m (NewArray dst base n) = refl
calls_bare m (ArrayOf dst base xs) = refl
calls_bare m (StrOp dst op of other) = refl
calls_bare m (Print of) = refl
calls_bare m (Cast dst of c) = refl
calls_bare m (TestInst of c og at_yes at_no) = refl
calls_bare m (TestNull of og at_null at_value) = refl
calls_bare m (Branch of at_yes at_no) = refl
calls_bare m (Goto to) = refl

points_call : (m : ℕ) (pts : List Point) → some_of (λ (pt : Point). calls_method m pt.kind) (bare_points pts) ≡ some_of (λ (pt : Point). calls_method m pt.kind) pts
points_call m [] = refl
points_call m (pt ∷ pts) = ap (λ b. b || some_of (λ (pt : Point). calls_method m pt.kind) (bare_points pts)) (calls_bare m pt.kind) ∙ ap (λ b. calls_method m pt.kind || b) (points_call m pts)

some_map : {A B : Type 0} (f : A → B) (test : B → Bool) (xs : List A) → some_of test (map f xs) ≡ some_of (λ x. test (f x)) xs
some_map f test [] = refl
some_map f test (x ∷ xs) = ap (λ b. test (f x) || b) (some_map f test xs)

module _ (P : Program) where
  body_calls : (m : ℕ) (secret : Bool) (c : ℕ) (body : Body) → calls_from (bare P) m secret c (bare_body body) ≡ calls_from P m secret c body
  body_calls m secret c body =
      ap (λ n. (not secret || eqb n c) && some_of (λ (pt : Point). calls_method m pt.kind) (bare_points body.points)) (ap class_of (method_at_is P body.method.0) ∙ class_bare (method_at P body.method.0))
      ∙ ap (λ b. counts_for P secret c body && b) (points_call m body.points)

  call_site_bare : (m : ℕ) (x : Method) → has_call_site (bare P) m (bare_method x) ≡ has_call_site P m x
  call_site_bare m x =
      some_map bare_body (calls_from (bare P) m x.is_private x.owner.0) P.bodies
      ∙ some_same (λ body. calls_from (bare P) m x.is_private x.owner.0 (bare_body body)) (calls_from P m x.is_private x.owner.0) P.bodies (body_calls m x.is_private x.owner.0)

  uncalled_bare : (i m : ℕ) (xs : List Method) → uncalled_from (bare P) i m (map bare_method xs) ≡ uncalled_from P i m xs
  uncalled_bare i m [] = refl
  uncalled_bare i m (x ∷ xs) =
      ap (λ b. (method_has_slot i x && not b) || uncalled_from (bare P) i (m + 1) (map bare_method xs)) (call_site_bare m x)
      ∙ ap (λ b. (method_has_slot i x && not (has_call_site P m x)) || b) (uncalled_bare i (m + 1) xs)

module _ (P Q : Program) (a : Alike P Q) where
  -- a method without a call site has none in the other program
  pub uncalled_same : (i : ℕ) → uncalled_from P i 0 P.methods ≡ uncalled_from Q i 0 Q.methods
  uncalled_same i = across P Q a (λ R. uncalled_from R i 0 R.methods) (λ R. uncalled_bare R i 0 R.methods)

  slots_same : (m : ℕ) → slots_of (method_at P m) ≡ slots_of (method_at Q m)
  slots_same m = across P Q a (λ R. slots_of (method_at R m)) (λ R. slots_at_is R m)

  field_slot_same : (f : ℕ) → field_slot_of (field_info P f) ≡ field_slot_of (field_info Q f)
  field_slot_same f = across P Q a (λ R. field_slot_of (field_info R f)) (λ R. ap field_slot_of (field_info_is R f) ∙ field_slot_bare (field_info R f))

  receiver_same : (m : ℕ) → receiver_slot_of (method_at P m) ≡ receiver_slot_of (method_at Q m)
  receiver_same m = across P Q a (λ R. receiver_slot_of (method_at R m)) (λ R. ap receiver_slot_of (method_at_is R m) ∙ receiver_slot_bare (method_at R m))

  result_at_same : (m : ℕ) → result_slot_of (method_at P m) ≡ result_slot_of (method_at Q m)
  result_at_same m = across P Q a (λ R. result_slot_of (method_at R m)) (λ R. ap result_slot_of (method_at_is R m) ∙ result_slot_bare (method_at R m))

  result_in_same : (b : ℕ) → result_slot_of (method_in P b) ≡ result_slot_of (method_in Q b)
  result_in_same b = across P Q a (λ R. result_slot_of (method_in R b)) (λ R. ap result_slot_of (method_in_is R b) ∙ result_slot_bare (method_in R b))

  keys_same : (b : ℕ) → own_keys P b ≡ own_keys Q b
  keys_same b = across P Q a (λ R. own_keys R b) (λ R. own_keys_is R b)

  methods_long : length P.methods ≡ length Q.methods
  methods_long = across P Q a (λ R. length R.methods) (λ R. length-map R.methods bare_method)

  under_same : (m : ℕ) → under P m ≡ under Q m
  under_same m =
      filter_same (is_pair P m) (is_pair Q m) (below (length P.methods)) (λ k. across P Q a (λ R. is_pair R m k) (λ R. is_pair_is R m k))
      ∙ ap (λ n. filter (is_pair Q m) (below n)) methods_long

  -- ---- what goes to a slot that is inferred in the other program

  module _ (x : ℕ × Qualifier) (opened : is_inferred (slice_get Q.slots x.0) ≡ true) where
    to_slot : (slot : Option SlotNo) (q : Qualifier) → IsSent x (sends P slot q) → IsSent x (sends Q slot q)
    to_slot None q m = absurd m
    to_slot (Some n) q m = go (is_inferred (slice_get P.slots n.0)) m
      where
        go : (c : Bool) → IsSent x (cond c ((n.0, q) ∷ []) []) → IsSent x (cond (is_inferred (slice_get Q.slots n.0)) ((n.0, q) ∷ []) [])
        go true (inl e) = subst (λ c. IsSent x (cond c ((n.0, q) ∷ []) [])) (sym (ap (λ (y : ℕ × Qualifier). is_inferred (slice_get Q.slots y.0)) (sym e) ∙ opened)) (inl e)
        go true (inr m) = absurd m
        go false m = absurd m

    moved : (from to : Option SlotNo) (q : Qualifier) → from ≡ to → IsSent x (sends P from q) → IsSent x (sends Q to q)
    moved from to q e m = to_slot to q (subst (λ z. IsSent x (sends P z q)) e m)

    to_args : (e : Env) (xs : List (Option SlotNo)) (args : List Operand) → IsSent x (arg_sends P e xs args) → IsSent x (arg_sends Q e xs args)
    to_args e [] args m = absurd m
    to_args e (s ∷ xs) [] m = absurd m
    to_args e (s ∷ xs) (v ∷ args) m = both x (sends P s (qual_at e v.reg.0)) (arg_sends P e xs args) (sends Q s (qual_at e v.reg.0)) (arg_sends Q e xs args) (to_slot s (qual_at e v.reg.0)) (to_args e xs args) m

    moved_args : (e : Env) (m : ℕ) (args : List Operand) → IsSent x (arg_sends P e (slots_of (method_at P m)) args) → IsSent x (arg_sends Q e (slots_of (method_at Q m)) args)
    moved_args e m args h = to_args e (slots_of (method_at Q m)) args (subst (λ xs. IsSent x (arg_sends P e xs args)) (slots_same m) h)

    to_receiver : (e : Env) (from to : Option SlotNo) (r : Option Operand) → from ≡ to → IsSent x (receiver_sends P e from r) → IsSent x (receiver_sends Q e to r)
    to_receiver e from to None h m = absurd m
    to_receiver e from to (Some r) h m = moved from to _ h m

    to_result : (e : Env) (from to : Option SlotNo) (v : Option Operand) → from ≡ to → IsSent x (return_sends P e from v) → IsSent x (return_sends Q e to v)
    to_result e from to None h m = absurd m
    to_result e from to (Some v) h m = moved from to _ h m

    unless : (c : Bool) (from to : Option SlotNo) → from ≡ to → IsSent x (cond c [] (sends P from null_only)) → IsSent x (cond c [] (sends Q to null_only))
    unless true from to h m = absurd m
    unless false from to h m = moved from to null_only h m

    to_unset : (fs keys : List ℕ) (bits : List Bool) → IsSent x (unset_sends P fs keys bits) → IsSent x (unset_sends Q fs keys bits)
    to_unset [] keys bits m = absurd m
    to_unset (f ∷ fs) keys bits m =
        let c = is_on (λ k. eqb k f) keys bits in
        both x (cond c [] (sends P (field_slot_of (field_info P f)) null_only)) (unset_sends P fs keys bits) (cond c [] (sends Q (field_slot_of (field_info Q f)) null_only)) (unset_sends Q fs keys bits)
        (unless c (field_slot_of (field_info P f)) (field_slot_of (field_info Q f)) (field_slot_same f)) (to_unset fs keys bits) m

    to_kind : (b : ℕ) (e : Env) (k : PointKind) → IsSent x (kind_sends P b e k) → IsSent x (kind_sends Q b e k)
    to_kind b e (FieldWrite r f v) m = moved (field_slot_of (field_info P f.0)) (field_slot_of (field_info Q f.0)) (settle (qual_at e v.reg.0)) (field_slot_same f.0) m
    to_kind b e (New dst c args) m = moved_args e c.0 args m
    to_kind b e (CtorCall c args own) m = moved_args e c.0 args m
    to_kind b e (Call dst c r direct args) m =
        both x (arg_sends P e (slots_of (method_at P c.0)) args) (receiver_sends P e (receiver_slot_of (method_at P c.0)) r) (arg_sends Q e (slots_of (method_at Q c.0)) args) (receiver_sends Q e (receiver_slot_of (method_at Q c.0)) r)
        (moved_args e c.0 args) (to_receiver e (receiver_slot_of (method_at P c.0)) (receiver_slot_of (method_at Q c.0)) r (receiver_same c.0)) m
    to_kind b e (Return v) m =
        both x (return_sends P e (result_slot_of (method_in P b)) v) (unset_sends P (own_keys P b) (own_keys P b) e.assigned) (return_sends Q e (result_slot_of (method_in Q b)) v) (unset_sends Q (own_keys Q b) (own_keys Q b) e.assigned)
        (to_result e (result_slot_of (method_in P b)) (result_slot_of (method_in Q b)) v (result_in_same b))
        (λ h. subst (λ keys. IsSent x (unset_sends Q keys keys e.assigned)) (keys_same b) (to_unset (own_keys P b) (own_keys P b) e.assigned h)) m
    to_kind b e (Const dst value) m = absurd m
    to_kind b e (Move dst from bound) m = absurd m
    to_kind b e (Unary dst negate of) m = absurd m
    to_kind b e (Binary dst op l r) m = absurd m
    to_kind b e (Concat dst l r) m = absurd m
    to_kind b e (SameRef dst eq l r) m = absurd m
    to_kind b e (FieldRead dst r f) m = absurd m
    to_kind b e (StaticRead dst f) m = absurd m
    to_kind b e (StaticWrite f v) m = absurd m
    to_kind b e (ElemRead dst r i) m = absurd m
    to_kind b e (ElemWrite r i v) m = absurd m
    to_kind b e (ArrayLen dst r) m = absurd m
    to_kind b e (NewArray dst base n) m = absurd m
    to_kind b e (ArrayOf dst base xs) m = absurd m
    to_kind b e (StrOp dst op of other) m = absurd m
    to_kind b e (Print of) m = absurd m
    to_kind b e (Cast dst of c) m = absurd m
    to_kind b e (TestInst of c og at_yes at_no) m = absurd m
    to_kind b e (TestNull of og at_null at_value) m = absurd m
    to_kind b e (Branch of at_yes at_no) m = absurd m
    to_kind b e (Goto to) m = absurd m

    -- at points that are the same but for places
    pub kind_alike : (b : ℕ) (e : Env) (k l : PointKind) → bare_kind k ≡ bare_kind l → IsSent x (kind_sends P b e k) → IsSent x (kind_sends Q b e l)
    kind_alike b e k l same m = subst (IsSent x) (sym (kind_bare Q b e l)) (to_kind b e (bare_kind l) (subst (λ z. IsSent x (kind_sends P b e z)) same (subst (IsSent x) (kind_bare P b e k) m)))

    -- ---- of overriding methods

    module _ (s : List Qualifier) where
      to_pair_slot : (from to : Option SlotNo) → IsSent x (slot_sends P s from to) → IsSent x (slot_sends Q s from to)
      to_pair_slot None to m = absurd m
      to_pair_slot (Some n) to m = to_slot to _ m

      to_pair_slots : (xs ys : List (Option SlotNo)) → IsSent x (slots_sends P s xs ys) → IsSent x (slots_sends Q s xs ys)
      to_pair_slots [] ys m = absurd m
      to_pair_slots (u ∷ xs) [] m = absurd m
      to_pair_slots (u ∷ xs) (v ∷ ys) m = both x (slot_sends P s u v) (slots_sends P s xs ys) (slot_sends Q s u v) (slots_sends Q s xs ys) (to_pair_slot u v) (to_pair_slots xs ys) m

      to_override : (m k : ℕ) → IsSent x (override_sends P s (method_at P m) (method_at P k)) → IsSent x (override_sends Q s (method_at Q m) (method_at Q k))
      to_override m k h =
          let A = slots_sends P s (slots_of (method_at P k)) (slots_of (method_at P m)) in
          let B = slot_sends P s (receiver_slot_of (method_at P k)) (receiver_slot_of (method_at P m)) in
          let C = slot_sends P s (result_slot_of (method_at P m)) (result_slot_of (method_at P k)) in
          let A' = slots_sends Q s (slots_of (method_at Q k)) (slots_of (method_at Q m)) in
          let B' = slot_sends Q s (receiver_slot_of (method_at Q k)) (receiver_slot_of (method_at Q m)) in
          let C' = slot_sends Q s (result_slot_of (method_at Q m)) (result_slot_of (method_at Q k)) in
          both x (A ++ B) C (A' ++ B') C'
          (both x A B A' B'
          (λ h. subst (λ ys. IsSent x (slots_sends Q s (slots_of (method_at Q k)) ys)) (slots_same m) (subst (λ xs. IsSent x (slots_sends Q s xs (slots_of (method_at P m)))) (slots_same k) (to_pair_slots (slots_of (method_at P k)) (slots_of (method_at P m)) h)))
          (λ h. subst (λ y. IsSent x (slot_sends Q s (receiver_slot_of (method_at Q k)) y)) (receiver_same m) (subst (λ z. IsSent x (slot_sends Q s z (receiver_slot_of (method_at P m)))) (receiver_same k) (to_pair_slot (receiver_slot_of (method_at P k)) (receiver_slot_of (method_at P m)) h))))
          (λ h. subst (λ y. IsSent x (slot_sends Q s (result_slot_of (method_at Q m)) y)) (result_at_same k) (subst (λ z. IsSent x (slot_sends Q s z (result_slot_of (method_at P k)))) (result_at_same m) (to_pair_slot (result_slot_of (method_at P m)) (result_slot_of (method_at P k)) h)))
          h

      to_overrides : (m : ℕ) (ks : List ℕ) → IsSent x (flat_map (λ k. override_sends P s (method_at P m) (method_at P k)) ks) → IsSent x (flat_map (λ k. override_sends Q s (method_at Q m) (method_at Q k)) ks)
      to_overrides m [] h = absurd h
      to_overrides m (k ∷ ks) h =
          both x (override_sends P s (method_at P m) (method_at P k)) (flat_map (λ k. override_sends P s (method_at P m) (method_at P k)) ks) (override_sends Q s (method_at Q m) (method_at Q k)) (flat_map (λ k. override_sends Q s (method_at Q m) (method_at Q k)) ks)
          (to_override m k) (to_overrides m ks) h

      pub pairs_alike : (m : ℕ) → IsSent x (pair_sends P s m) → IsSent x (pair_sends Q s m)
      pairs_alike m h = subst (λ ks. IsSent x (flat_map (λ k. override_sends Q s (method_at Q m) (method_at Q k)) ks)) (under_same m) (to_overrides m (under P m) h)
