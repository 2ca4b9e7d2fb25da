-- What is sent to a field isn't free, and what is sent to a receiver isn't null; so neither is what the least signature says of an inferred one.
use Rattle.std.proofs.Common.{◌≡◌, ⊎_elim, ℕ, zero, suc, ◌+◌, ◌<◌, Bool, true, false, not, cond, ◌&&◌, ◌||◌, List, [], ◌∷◌, ◌++◌, length, Option, Some, None, refl, sym, ap, ◌∙◌, subst, arith}
use Rattle.std.specs.Prelude.{IsTrue, eqb, flat_map, slice_get, slice_index_or}
use Rattle.std.proofs.lemmas.Bool.{true≢false, eqb-true, cases_lt}
use Rattle.jn_base.specs.declared.number.SlotNo.{SlotNo}
use Rattle.jn_quals.specs.Qualifier.{Qualifier}
use Rattle.jn_quals.specs.Order.{no_qual, committed_only, without_null, without_free, within}
use Rattle.jn_points.specs.declared.point.Operand.{Operand}
use Rattle.jn_points.specs.declared.program.Body.{Body}
use Rattle.jn_points.specs.declared.program.SlotInfo.{SlotInfo}
use Rattle.jn_points.specs.declared.program.Program.{Program}
use Rattle.jn_points.specs.Lookup.{slots_of, body_at, field_info, method_at, method_of_body, method_in}
use Rattle.jn_sigs.specs.Signature.{uncalled_from, starts_from, start_signature}
use Rattle.jn_env.specs.Environment.{Env}
use Rattle.jn_env.specs.Order.{qual_at}
use Rattle.jn_env.proofs.Order.{quals_at}
use Rattle.jn_transfer.specs.Contributions.{IsSent, is_inferred, result_slot_of, receiver_slot_of, field_slot_of, sends, arg_sends, receiver_sends, return_sends, kind_sends}
use Rattle.jn_quals.proofs.Order.{within_refl}
use Rattle.jn_transfer.specs.Pairs.{under, slot_sends, slots_sends, override_sends, pair_sends}
use Rattle.jn_contrib.proofs.Sent.{of_a_point}
use Rattle.jn_tables_law.specs.Inferable.{IsInferable, least_table, least_sends}
use Rattle.jn_inference_law.specs.Solution.{IsLeastSignature}
use Rattle.jn_places_law.proofs.Sent.{Each, HoldsOfSends, each_append, each_sent, points_send}
use Rattle.jn_annotate_law.proofs.Roles.{Plays, FieldPlays, MethodPlays, MethodAt, field_plays, method_at_plays}
use Rattle.jn_annotate_law.proofs.Trimmed.{trims, trims_at, trims_past, IsNeedless, trimmed, written_stays}

-- ---- qualifiers without a bit

lower_free : (n c f : Bool) → let q : Qualifier = record { null = n; committed = c; free = f } in IsTrue (within (without_free q) q)
lower_free true true f = refl
lower_free true false f = refl
lower_free false true f = refl
lower_free false false f = refl

lower_null : (n c f : Bool) → let q : Qualifier = record { null = n; committed = c; free = f } in IsTrue (within (without_null q) q)
lower_null n true true = refl
lower_null n true false = refl
lower_null n false true = refl
lower_null n false false = refl

last_off : (x a b : Bool) → a ≡ false → IsTrue (x && (not a || b)) → IsTrue (x && (not a || false))
last_off x true b e h = absurd (true≢false e)
last_off x false b e h = h

first_off : (a b x y : Bool) → a ≡ false → IsTrue (((not a || b) && x) && y) → IsTrue (((not a || false) && x) && y)
first_off true b x y e h = absurd (true≢false e)
first_off false b x y e h = h

off_free : (a q : Qualifier) → a.free ≡ false → IsTrue (within a q) → IsTrue (within a (without_free q))
off_free a q e h = last_off ((not a.null || q.null) && (not a.committed || q.committed)) a.free q.free e h

off_null : (a q : Qualifier) → a.null ≡ false → IsTrue (within a q) → IsTrue (within a (without_null q))
off_null a q e h = first_off a.null q.null (not a.committed || q.committed) (not a.free || q.free) e h

-- ---- what is sent

module _ (P : Program) (roles : List ℕ) (fields_play : Each (FieldPlays roles) P.fields) (methods_play : Each (MethodPlays roles) P.methods) where
  -- to a field not free, to a receiver not null
  abbrev Fine : ℕ × Qualifier → Type 0
  Fine x = (slice_get roles x.0 ≡ Some 0 → x.1.free ≡ false) × (slice_get roles x.0 ≡ Some 1 → x.1.null ≡ false)

  send_fine : (n : ℕ) (x : Option SlotNo) (q : Qualifier) → Plays roles n x → (n ≡ 0 → q.free ≡ false) → (n ≡ 1 → q.null ≡ false) → Each Fine (sends P x q)
  send_fine n None q h f g = tt
  send_fine n (Some i) q h f g = go (is_inferred (slice_get P.slots i.0))
    where
      is : (m : ℕ) → slice_get roles i.0 ≡ Some m → n ≡ m
      is m e = (let k : ◌≡◌ {A = Option ℕ} (Some n) (Some m) = sym h ∙ e in cc)

      go : (t : Bool) → Each Fine (cond t ((i.0, q) ∷ []) [])
      go true = ((λ e. f (is 0 e), λ e. g (is 1 e)), tt)
      go false = tt

  value_fine : (x : Option SlotNo) (q : Qualifier) → Plays roles 2 x → Each Fine (sends P x q)
  value_fine x q h = send_fine 2 x q h (λ e. absurd (omega (arith, e))) (λ e. absurd (omega (arith, e)))

  args_fine : (e : Env) (xs : List (Option SlotNo)) (args : List Operand) → Each (Plays roles 2) xs → Each Fine (arg_sends P e xs args)
  args_fine e [] args h = tt
  args_fine e (x ∷ xs) [] h = tt
  args_fine e (x ∷ xs) (a ∷ args) h = each_append Fine (sends P x (qual_at e a.reg.0)) (arg_sends P e xs args) (value_fine x (qual_at e a.reg.0) h.0) (args_fine e xs args h.1)

  receivers_fine : (e : Env) (slot : Option SlotNo) (r : Option Operand) → Plays roles 1 slot → Each Fine (receiver_sends P e slot r)
  receivers_fine e slot None h = tt
  receivers_fine e slot (Some r) h = send_fine 1 slot (without_null (qual_at e r.reg.0)) h (λ k. absurd (omega (arith, k))) (λ k. refl)

  returns_fine : (e : Env) (slot : Option SlotNo) (v : Option Operand) → Plays roles 2 slot → Each Fine (return_sends P e slot v)
  returns_fine e slot None h = tt
  returns_fine e slot (Some v) h = value_fine slot (qual_at e v.reg.0) h

  field_fine : (f : ℕ) (q : Qualifier) → q.free ≡ false → Each Fine (sends P (field_slot_of (field_info P f)) q)
  field_fine f q e = send_fine 0 (field_slot_of (field_info P f)) q (field_plays roles P.fields f fields_play) (λ k. e) (λ k. absurd (omega (arith, k)))

  at_method : (m : ℕ) → MethodAt roles (method_at P m)
  at_method m = method_at_plays roles P.methods m methods_play

  in_body : (b : Option Body) → MethodAt roles (method_of_body P b)
  in_body None = (tt, (tt, tt))
  in_body (Some b) = at_method b.method.0

  fine_of_points : HoldsOfSends P Fine
  fine_of_points = record {
    fields = field_fine;
    parameters = λ m e args. args_fine e (slots_of (method_at P m)) args (at_method m).1.0;
    receivers = λ m e r. receivers_fine e (receiver_slot_of (method_at P m)) r (at_method m).0;
    results = λ b e v. returns_fine e (result_slot_of (method_in P b)) v (in_body (body_at P b)).1.1;
  }

  sent_fine : (t : List Qualifier) (b : ℕ) (x : ℕ × Qualifier) → IsSent x (least_sends P t b) → Fine x
  unfolding least_sends
  sent_fine t b x m = let h = of_a_point P b (least_table P t b) x m in each_sent Fine (kind_sends P b h.env h.point.kind) x (points_send P Fine fine_of_points b h.env h.point.kind) h.sent

  -- ---- what overriding methods send

  slot_fine : (t : List Qualifier) (n : ℕ) (from to : Option SlotNo) → Plays roles n to → (n ≡ 0 → ⊥) → ((i : SlotNo) → from ≡ Some i → n ≡ 1 → (slice_index_or t i.0 no_qual).null ≡ false) → Each Fine (slot_sends P t from to)
  slot_fine t n None to h f g = tt
  slot_fine t n (Some i) to h f g = send_fine n to (slice_index_or t i.0 no_qual) h (λ e. absurd (f e)) (g i refl)

  values_fine : (t : List Qualifier) (from to : List (Option SlotNo)) → Each (Plays roles 2) to → Each Fine (slots_sends P t from to)
  values_fine t [] to h = tt
  values_fine t (x ∷ xs) [] h = tt
  values_fine t (x ∷ xs) (y ∷ ys) h = each_append Fine (slot_sends P t x y) (slots_sends P t xs ys) (slot_fine t 2 x y h.0 (λ e. absurd (omega (arith, e))) (λ i e f. absurd (omega (arith, f)))) (values_fine t xs ys h.1)

  -- receivers of the signature that are not null send nothing that is
  module _ (t : List Qualifier) (low : (i : ℕ) → slice_get roles i ≡ Some 1 → (slice_index_or t i no_qual).null ≡ false) where
    receiver_fine : (from to : Option SlotNo) → Plays roles 1 from → Plays roles 1 to → Each Fine (slot_sends P t from to)
    receiver_fine from to p h = slot_fine t 1 from to h (λ e. absurd (omega (arith, e))) (λ i e f. low i.0 (subst (Plays roles 1) e p))

    override_fine : (m k : ℕ) → Each Fine (override_sends P t (method_at P m) (method_at P k))
    override_fine m k =
        let over = method_at P m in
        let lower = method_at P k in
        let a = slots_sends P t (slots_of lower) (slots_of over) in
        let b = slot_sends P t (receiver_slot_of lower) (receiver_slot_of over) in
        each_append Fine (a ++ b) (slot_sends P t (result_slot_of over) (result_slot_of lower))
        (each_append Fine a b (values_fine t (slots_of lower) (slots_of over) (at_method m).1.0) (receiver_fine (receiver_slot_of lower) (receiver_slot_of over) (at_method k).0 (at_method m).0))
        (slot_fine t 2 (result_slot_of over) (result_slot_of lower) (at_method k).1.1 (λ e. absurd (omega (arith, e))) (λ i e f. absurd (omega (arith, f))))

    overrides_fine : (m : ℕ) (ks : List ℕ) → Each Fine (flat_map (λ k. override_sends P t (method_at P m) (method_at P k)) ks)
    overrides_fine m [] = tt
    overrides_fine m (k ∷ ks) = each_append Fine (override_sends P t (method_at P m) (method_at P k)) (flat_map (λ j. override_sends P t (method_at P m) (method_at P j)) ks) (override_fine m k) (overrides_fine m ks)

    pairs_fine : (m : ℕ) (x : ℕ × Qualifier) → IsSent x (pair_sends P t m) → Fine x
    pairs_fine m x sent = each_sent Fine (pair_sends P t m) x (overrides_fine m (under P m)) sent

  -- an inferred slot starts with neither
  starts_low : (k i : ℕ) (xs : List SlotInfo) → is_inferred (slice_get xs i) ≡ true → let q : Qualifier = slice_index_or (starts_from P k xs) i no_qual in (q.free ≡ false) × (q.null ≡ false)
  starts_low k i [] e = (refl, refl)
  starts_low k zero (x ∷ xs) e = subst (λ b. let q : Qualifier = cond b (cond (uncalled_from P k 0 P.methods) committed_only no_qual) x.start in (q.free ≡ false) × (q.null ≡ false)) (sym e) (go (uncalled_from P k 0 P.methods))
    where
      go : (c : Bool) → let q : Qualifier = cond c committed_only no_qual in (q.free ≡ false) × (q.null ≡ false)
      go true = (refl, refl)
      go false = (refl, refl)
  starts_low k (suc i) (x ∷ xs) e = starts_low (k + 1) i xs e

  -- ---- what is left of each slot

  -- a field's without what is free, a receiver's without null
  abbrev by_role : Option ℕ → Qualifier → Qualifier
  by_role None q = q
  by_role (Some n) q = cond (eqb n 0) (without_free q) (cond (eqb n 1) (without_null q) q)

  abbrev taken : ℕ → Qualifier → Qualifier
  taken i q = cond (is_inferred (slice_get P.slots i)) (by_role (slice_get roles i) q) q

  role_low : (o : Option ℕ) (q : Qualifier) → IsTrue (within (by_role o q) q)
  role_low None q = within_refl q
  role_low (Some n) q = go (eqb n 0) (eqb n 1)
    where
      go : (a b : Bool) → IsTrue (within (cond a (without_free q) (cond b (without_null q) q)) q)
      go true b = lower_free q.null q.committed q.free
      go false true = lower_null q.null q.committed q.free
      go false false = within_refl q

  role_above : (o : Option ℕ) (a q : Qualifier) → (o ≡ Some 0 → a.free ≡ false) → (o ≡ Some 1 → a.null ≡ false) → IsTrue (within a q) → IsTrue (within a (by_role o q))
  role_above None a q f g h = h
  role_above (Some n) a q f g h = go (eqb n 0) (eqb n 1) refl refl
    where
      go : (b c : Bool) → eqb n 0 ≡ b → eqb n 1 ≡ c → IsTrue (within a (cond b (without_free q) (cond c (without_null q) q)))
      go true c e k = off_free a q (f (ap Some (eqb-true n 0 e))) h
      go false true e k = off_null a q (g (ap Some (eqb-true n 1 k))) h
      go false false e k = h

  either_low : (b : Bool) (x q : Qualifier) → IsTrue (within x q) → IsTrue (within (cond b x q) q)
  either_low true x q h = h
  either_low false x q h = within_refl q

  either_above : (b : Bool) (a x q : Qualifier) → (b ≡ true → IsTrue (within a x)) → IsTrue (within a q) → IsTrue (within a (cond b x q))
  either_above true a x q h k = h refl
  either_above false a x q h k = k

  module _ (written_receivers : (i : ℕ) → slice_get roles i ≡ Some 1 → is_inferred (slice_get P.slots i) ≡ false → (slice_index_or (start_signature P) i no_qual).null ≡ false) (can : IsInferable P) (s : List Qualifier) (is : IsLeastSignature P s) where
    -- no receiver of what is left is null
    left_low : (i : ℕ) → slice_get roles i ≡ Some 1 → (slice_index_or (trims taken 0 s) i no_qual).null ≡ false
    left_low i r = ⊎_elim
        (λ l. ap (λ (q : Qualifier). q.null) (trims_at taken 0 i s l ∙ ap (λ n. taken n (slice_index_or s i no_qual)) (let e : 0 + i ≡ i = omega arith in e)) ∙ go l (is_inferred (slice_get P.slots i)) refl)
        (λ le. ap (λ (q : Qualifier). q.null) (trims_past taken 0 i s (λ l. omega (arith, l, le))).0)
        (cases_lt i (length s))
      where
        go : i < length s → (b : Bool) → is_inferred (slice_get P.slots i) ≡ b → (taken i (slice_index_or s i no_qual)).null ≡ false
        go l true e = ap (λ c. (cond c (by_role (slice_get roles i) (slice_index_or s i no_qual)) (slice_index_or s i no_qual)).null) e ∙ ap (λ o. (by_role o (slice_index_or s i no_qual)).null) r
        go l false e =
            ap (λ c. (cond c (by_role (slice_get roles i) (slice_index_or s i no_qual)) (slice_index_or s i no_qual)).null) e
            ∙ ap (λ (q : Qualifier). q.null) (written_stays P s can is i l e) ∙ written_receivers i r e

    needless : IsNeedless P can s is taken
    needless = record {
      low = λ i. either_low (is_inferred (slice_get P.slots i)) (by_role (slice_get roles i) (slice_index_or s i no_qual)) (slice_index_or s i no_qual) (role_low (slice_get roles i) (slice_index_or s i no_qual));
      starts = λ i l.
          let a = slice_index_or (start_signature P) i no_qual in
          let q = slice_index_or s i no_qual in
          let w = quals_at (start_signature P) s i is.starts in
          either_above (is_inferred (slice_get P.slots i)) a (by_role (slice_get roles i) q) q (λ e. role_above (slice_get roles i) a q (λ k. (starts_low 0 i P.slots e).0) (λ k. (starts_low 0 i P.slots e).1) w) w;
      sent = λ b x m h. let fine = sent_fine (trims taken 0 s) b x m in either_above (is_inferred (slice_get P.slots x.0)) x.1 (by_role (slice_get roles x.0) (slice_index_or s x.0 no_qual)) (slice_index_or s x.0 no_qual) (λ e. role_above (slice_get roles x.0) x.1 (slice_index_or s x.0 no_qual) fine.0 fine.1 h) h;
      sent_over = λ m x sent h. let fine = pairs_fine (trims taken 0 s) left_low m x sent in either_above (is_inferred (slice_get P.slots x.0)) x.1 (by_role (slice_get roles x.0) (slice_index_or s x.0 no_qual)) (slice_index_or s x.0 no_qual) (λ e. role_above (slice_get roles x.0) x.1 (slice_index_or s x.0 no_qual) fine.0 fine.1 h) h;
    }

    module _ (i : ℕ) (inferred : is_inferred (slice_get P.slots i) ≡ true) (inside : i < length s) where
      abbrev here : Qualifier
      here = slice_index_or s i no_qual

      left_is : here ≡ by_role (slice_get roles i) here
      left_is = trimmed P can s is taken needless i inside ∙ ap (λ b. cond b (by_role (slice_get roles i) here) here) inferred

      pub field_not_free : slice_get roles i ≡ Some 0 → here.free ≡ false
      field_not_free r = ap (λ (q : Qualifier). q.free) left_is ∙ ap (λ o. (by_role o here).free) r

      pub receiver_not_null : slice_get roles i ≡ Some 1 → here.null ≡ false
      receiver_not_null r = ap (λ (q : Qualifier). q.null) left_is ∙ ap (λ o. (by_role o here).null) r
