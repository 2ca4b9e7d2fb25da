-- Where a slot is inferred all that is sent there is within it; where it is written it is the same under both signatures. So what breaks no rule at a
-- slot under the one breaks none under the other.
use Rattle.std.proofs.Common.{◌≡◌, ◌⊎◌, inl, inr, ℕ, Bool, true, false, cond, not, ◌&&◌, ◌||◌, List, [], ◌∷◌, ◌++◌, Option, Some, None, refl, sym, ap, ◌∙◌, subst}
use Rattle.std.specs.Prelude.{IsTrue, eqb, slice_get, slice_index_or}
use Rattle.jn_base.specs.declared.number.SlotNo.{SlotNo}
use Rattle.jn_base.specs.declared.place.Span.{Span}
use Rattle.jn_base.specs.declared.code.Code.{Code}
use Rattle.jn_quals.specs.Qualifier.{Qualifier}
use Rattle.jn_quals.specs.Order.{no_qual, null_only, settle, within, without_null}
use Rattle.jn_quals.proofs.Order.{included}
use Rattle.jn_points.specs.declared.point.Operand.{Operand}
use Rattle.jn_points.specs.declared.program.Field.{Field}
use Rattle.jn_points.specs.declared.program.Method.{Method}
use Rattle.jn_points.specs.declared.program.Program.{Program}
use Rattle.jn_points.specs.Lookup.{field_info, monotonic}
use Rattle.jn_points.specs.Members.{some_of}
use Rattle.jn_sigs.specs.Signature.{field_qual, field_qual_of, receiver_of, result_of, slot_qual, slot_quals}
use Rattle.jn_env.specs.Environment.{Env}
use Rattle.jn_env.specs.Keys.{is_on}
use Rattle.jn_env.specs.Order.{qual_at}
use Rattle.jn_transfer.specs.Contributions.{IsSent, arg_sends, field_slot_of, is_inferred, receiver_sends, receiver_slot_of, result_slot_of, return_sends, sends, unset_sends}
use Rattle.jn_transfer.specs.Rules.{arg_rows, lacks_init, lacks_null, pass_rows, receiver_rows, return_rows, row_if, write_rows, writes_null}
use Rattle.jn_contrib.proofs.Fits.{sent_left, sent_right}
use Rattle.jn_cert_law.proofs.Shrink.{no_left, no_right, none_both}

pub row_none : (c : Bool) (span : Span) (code : Code) → c ≡ false → row_if c span code ≡ []
row_none false span code e = refl
row_none true span code e = cc

pub none_row : (c : Bool) (span : Span) (code : Code) → row_if c span code ≡ [] → c ≡ false
none_row false span code e = refl
none_row true span code e = cc

-- nothing that is had is lacking
had : (a b : Bool) → (a ≡ true → b ≡ true) → (a && not b) ≡ false
had true b f = ap not (f refl)
had false b f = refl

neither : (a b : Bool) → a ≡ false → b ≡ false → (a || b) ≡ false
neither false b e f = f
neither true b e f = cc

pub or_keeps : (a b u v : Bool) → (a ≡ true → b ≡ true) → (u ≡ true → v ≡ true) → (a || u) ≡ true → (b || v) ≡ true
or_keeps true b u v f g h = subst (λ z. (z || v) ≡ true) (sym (f refl)) refl
or_keeps false true u v f g h = refl
or_keeps false false u v f g h = g h

no_lacks : (p q : Qualifier) → IsTrue (within p q) → (lacks_null p q ≡ false) × (lacks_init p q ≡ false)
no_lacks p q w =
    let i = included p q w in
    (had p.null q.null i.null, neither (p.committed && not q.committed) (p.free && not q.free) (had p.committed q.committed i.committed) (had p.free q.free i.free))

module _ (P : Program) (s t : List Qualifier) (same : (n : ℕ) → is_inferred (slice_get P.slots n) ≡ false → slice_index_or s n no_qual ≡ slice_index_or t n no_qual) where
  -- all that is sent is within the signature
  abbrev pub Taken : List (ℕ × Qualifier) → Type 0
  Taken xs = (x : ℕ × Qualifier) → IsSent x xs → IsTrue (within x.1 (slice_index_or t x.0 no_qual))

  pub taken_left : (xs ys : List (ℕ × Qualifier)) → Taken (xs ++ ys) → Taken xs
  taken_left xs ys h x m = h x (sent_left x xs ys m)

  pub taken_right : (xs ys : List (ℕ × Qualifier)) → Taken (xs ++ ys) → Taken ys
  taken_right xs ys h x m = h x (sent_right x xs ys m)

  pub within_or_same : (slot : Option SlotNo) (q : Qualifier) → Taken (sends P slot q) → IsTrue (within q (slot_qual t slot)) ⊎ (slot_qual s slot ≡ slot_qual t slot)
  within_or_same None q h = inr refl
  within_or_same (Some n) q h = by (is_inferred (slice_get P.slots n.0)) refl
    where
      by : (d : Bool) → is_inferred (slice_get P.slots n.0) ≡ d → IsTrue (within q (slice_index_or t n.0 no_qual)) ⊎ (slice_index_or s n.0 no_qual ≡ slice_index_or t n.0 no_qual)
      by true e = inl (h (n.0, q) (subst (λ (d : Bool). IsSent (n.0, q) (cond d ((n.0, q) ∷ []) [])) (sym e) (inl refl)))
      by false e = inr (same n.0 e)

  module _ (e : Env) where
    pass : (code init : Code) (a : Operand) (slot : Option SlotNo) → Taken (sends P slot (qual_at e a.reg.0)) → pass_rows code init e a (slot_qual s slot) ≡ [] → pass_rows code init e a (slot_qual t slot) ≡ []
    pass code init a slot h none = by (within_or_same slot (qual_at e a.reg.0) h)
      where
        by : IsTrue (within (qual_at e a.reg.0) (slot_qual t slot)) ⊎ (slot_qual s slot ≡ slot_qual t slot) → pass_rows code init e a (slot_qual t slot) ≡ []
        by (inl w) =
            let l = no_lacks (qual_at e a.reg.0) (slot_qual t slot) w in
            none_both (row_if (lacks_null (qual_at e a.reg.0) (slot_qual t slot)) a.span code) (row_if (lacks_init (qual_at e a.reg.0) (slot_qual t slot)) a.span init) (row_none _ a.span code l.0) (row_none _ a.span init l.1)
        by (inr is) = subst (λ (q : Qualifier). pass_rows code init e a q ≡ []) is none

    pub args : (slots : List (Option SlotNo)) (xs : List Operand) → Taken (arg_sends P e slots xs) → arg_rows e (slot_quals s slots) xs ≡ [] → arg_rows e (slot_quals t slots) xs ≡ []
    args [] xs h none = refl
    args (slot ∷ slots) [] h none = refl
    args (slot ∷ slots) (a ∷ xs) h none =
        let first = sends P slot (qual_at e a.reg.0) in
        let rest = arg_sends P e slots xs in
        none_both (pass_rows _ _ e a (slot_qual t slot)) (arg_rows e (slot_quals t slots) xs)
        (pass _ _ a slot (taken_left first rest h) (no_left (pass_rows _ _ e a (slot_qual s slot)) (arg_rows e (slot_quals s slots) xs) none))
        (args slots xs (taken_right first rest h) (no_right (pass_rows _ _ e a (slot_qual s slot)) (arg_rows e (slot_quals s slots) xs) none))

    receiver_at : (u : List Qualifier) (m : Option Method) → receiver_of u m ≡ slot_qual u (receiver_slot_of m)
    receiver_at u None = refl
    receiver_at u (Some m) = refl

    result_at : (u : List Qualifier) (m : Option Method) → result_of u m ≡ slot_qual u (result_slot_of m)
    result_at u None = refl
    result_at u (Some m) = refl

    receiver_slot : (slot : Option SlotNo) (r : Option Operand) → Taken (receiver_sends P e slot r) → receiver_rows e r (slot_qual s slot) ≡ [] → receiver_rows e r (slot_qual t slot) ≡ []
    receiver_slot slot None h none = refl
    receiver_slot slot (Some a) h none = by (within_or_same slot (without_null (qual_at e a.reg.0)) h)
      where
        by : IsTrue (within (without_null (qual_at e a.reg.0)) (slot_qual t slot)) ⊎ (slot_qual s slot ≡ slot_qual t slot) → receiver_rows e (Some a) (slot_qual t slot) ≡ []
        by (inl w) = row_none _ a.span _ (no_lacks (without_null (qual_at e a.reg.0)) (slot_qual t slot) w).1
        by (inr is) = subst (λ (q : Qualifier). receiver_rows e (Some a) q ≡ []) is none

    pub receiver : (m : Option Method) (r : Option Operand) → Taken (receiver_sends P e (receiver_slot_of m) r) → receiver_rows e r (receiver_of s m) ≡ [] → receiver_rows e r (receiver_of t m) ≡ []
    receiver m r h none = subst (λ (q : Qualifier). receiver_rows e r q ≡ []) (sym (receiver_at t m)) (receiver_slot (receiver_slot_of m) r h (subst (λ (q : Qualifier). receiver_rows e r q ≡ []) (receiver_at s m) none))

    return_slot : (slot : Option SlotNo) (v : Option Operand) → Taken (return_sends P e slot v) → return_rows e v (slot_qual s slot) ≡ [] → return_rows e v (slot_qual t slot) ≡ []
    return_slot slot None h none = refl
    return_slot slot (Some a) h none = pass _ _ a slot h none

    pub result : (m : Option Method) (v : Option Operand) → Taken (return_sends P e (result_slot_of m) v) → return_rows e v (result_of s m) ≡ [] → return_rows e v (result_of t m) ≡ []
    result m v h none = subst (λ (q : Qualifier). return_rows e v q ≡ []) (sym (result_at t m)) (return_slot (result_slot_of m) v h (subst (λ (q : Qualifier). return_rows e v q ≡ []) (result_at s m) none))

    field_at : (u : List Qualifier) (f : Option Field) → field_qual_of u f ≡ slot_qual u (field_slot_of f)
    field_at u None = refl
    field_at u (Some f) = refl

    field_is : (u : List Qualifier) (f : ℕ) → field_qual P u f ≡ slot_qual u (field_slot_of (field_info P f))
    field_is u f = field_at u (field_info P f)

    no_null_written : (q : Qualifier) (f : ℕ) → Taken (sends P (field_slot_of (field_info P f)) (settle q)) → writes_null P s q f ≡ false → writes_null P t q f ≡ false
    no_null_written q f h none = by (within_or_same (field_slot_of (field_info P f)) (settle q) h)
      where
        slot : Option SlotNo
        slot = field_slot_of (field_info P f)

        by : IsTrue (within (settle q) (slot_qual t slot)) ⊎ (slot_qual s slot ≡ slot_qual t slot) → writes_null P t q f ≡ false
        by (inl w) = null_taken q.null (field_qual P t f).null (not (field_qual P s f).null) (monotonic P f) (λ e. ap (λ (u : Qualifier). u.null) (field_is t f) ∙ (included (settle q) (slot_qual t slot) w).null e) none
          where
            null_taken : (n a b m : Bool) → (n ≡ true → a ≡ true) → (n && (b || m)) ≡ false → (n && (not a || m)) ≡ false
            null_taken false a b m g e = refl
            null_taken true a b true g e = absurd (let wrong : (b || true) ≡ false = e in true_right b wrong)
              where
                true_right : (b : Bool) → (b || true) ≡ false → ⊥
                true_right true e = cc
                true_right false e = cc
            null_taken true a b false g e = ap (λ (x : Bool). not x || false) (g refl)
        by (inr is) = subst (λ (u : Qualifier). (q.null && (not u.null || monotonic P f)) ≡ false) (field_is s f ∙ is ∙ sym (field_is t f)) none

    pub write : (r v : Operand) (f : ℕ) → Taken (sends P (field_slot_of (field_info P f)) (settle (qual_at e v.reg.0))) → write_rows P s e r f v ≡ [] → write_rows P t e r f v ≡ []
    write r v f h none =
        let p = qual_at e v.reg.0 in
        let other = row_if (p.free && (qual_at e r.reg.0).committed) v.span _ in
        let first = no_left (row_if (writes_null P s p f) v.span _) other none in
        none_both (row_if (writes_null P t p f) v.span _) other
        (row_none (writes_null P t p f) v.span _ (no_null_written p f h (none_row (writes_null P s p f) v.span _ first)))
        (no_right (row_if (writes_null P s p f) v.span _) other none)

    -- a field that isn't assigned and may not be null
    abbrev Unset : List Qualifier → List ℕ → ℕ → Bool
    Unset u keys f = not (field_qual P u f).null && not (is_on (λ k. eqb k f) keys e.assigned)

    unset_at : (keys : List ℕ) (f : ℕ) (on : Bool) → is_on (λ k. eqb k f) keys e.assigned ≡ on → Taken (cond on [] (sends P (field_slot_of (field_info P f)) null_only)) → Unset t keys f ≡ true → Unset s keys f ≡ true
    unset_at keys f true is h unset = absurd (none (field_qual P t f).null (subst (λ (on : Bool). (not (field_qual P t f).null && not on) ≡ true) is unset))
      where
        none : (a : Bool) → (not a && false) ≡ true → ⊥
        none true e = cc
        none false e = cc
    unset_at keys f false is h unset = by (within_or_same (field_slot_of (field_info P f)) null_only h)
      where
        by : IsTrue (within null_only (slot_qual t (field_slot_of (field_info P f)))) ⊎ (slot_qual s (field_slot_of (field_info P f)) ≡ slot_qual t (field_slot_of (field_info P f))) → Unset s keys f ≡ true
        by (inl w) =
            let has : (field_qual P t f).null ≡ true = ap (λ (u : Qualifier). u.null) (field_is t f) ∙ (included null_only (slot_qual t (field_slot_of (field_info P f))) w).null refl in
            absurd (let wrong : (false && not (is_on (λ k. eqb k f) keys e.assigned)) ≡ true = subst (λ (a : Bool). (not a && not (is_on (λ k. eqb k f) keys e.assigned)) ≡ true) has unset in cc)
        by (inr e') = subst (λ (u : Qualifier). (not u.null && not (is_on (λ k. eqb k f) keys e.assigned)) ≡ true) (field_is t f ∙ sym e' ∙ sym (field_is s f)) unset

    pub unset : (fs keys : List ℕ) → Taken (unset_sends P fs keys e.assigned) → some_of (Unset t keys) fs ≡ true → some_of (Unset s keys) fs ≡ true
    unset [] keys h some = some
    unset (f ∷ fs) keys h some =
        let first = cond (is_on (λ k. eqb k f) keys e.assigned) [] (sends P (field_slot_of (field_info P f)) null_only) in
        let rest = unset_sends P fs keys e.assigned in
        or_keeps (Unset t keys f) (Unset s keys f) (some_of (Unset t keys) fs) (some_of (Unset s keys) fs)
        (unset_at keys f (is_on (λ k. eqb k f) keys e.assigned) refl (taken_left first rest h))
        (unset fs keys (taken_right first rest h))
        some
