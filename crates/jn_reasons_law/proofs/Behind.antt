-- What a point gives a register has a source, at the entry and after each of the 26 kinds of points.
use Rattle.std.proofs.Common.{◌≡◌, ℕ, zero, suc, Bool, true, false, cond, ◌⊎◌, inl, inr, ⊎_elim, List, [], ◌∷◌, Option, Some, None, refl, sym, ◌∙◌, subst}
use Rattle.std.specs.Prelude.{eqb, slice_index_or, slice_set}
use Rattle.std.proofs.lemmas.Bool.{eqb-true, eq-eqb}
use Rattle.jn_base.specs.declared.number.SlotNo.{SlotNo}
use Rattle.jn_base.specs.declared.number.RegNo.{RegNo}
use Rattle.jn_quals.specs.Qualifier.{Qualifier}
use Rattle.jn_quals.specs.Order.{no_qual, free_only, without_null, without_free, null_part, is_none, null_or_committed, all_quals}
use Rattle.jn_points.specs.declared.point.Operand.{Operand}
use Rattle.jn_points.specs.declared.point.Origin.{Origin}
use Rattle.jn_points.specs.declared.point.PointKind.{PointKind}
use Rattle.jn_points.specs.declared.point.PointKind.TheVariants.{Const, Move, Unary, Binary, Concat, SameRef, FieldRead, FieldWrite, StaticRead, StaticWrite, ElemRead, ElemWrite, ArrayLen, NewArray, ArrayOf, New, CtorCall, Call, StrOp, Print, Cast, TestInst, TestNull, Branch, Goto, Return}
use Rattle.jn_points.specs.declared.program.Field.{Field}
use Rattle.jn_points.specs.declared.program.Method.{Method}
use Rattle.jn_points.specs.declared.program.Program.{Program}
use Rattle.jn_points.specs.Lookup.{regs_of, slots_of, static_of, ctor_of, body_at, ref_field, flat_field, field_info, method_at, method_in}
use Rattle.jn_sigs.specs.Signature.{slot_qual, slot_quals, result_of, receiver_of, field_qual, field_qual_of}
use Rattle.jn_env.specs.Environment.{Env}
use Rattle.jn_env.specs.Order.{Table, qual_at, EnvWithin}
use Rattle.jn_env.specs.Keys.{is_key, is_on, fact_keys}
use Rattle.jn_env.proofs.Order.{env_qual}
use Rattle.jn_transfer.specs.Contributions.{field_slot_of, receiver_slot_of, result_slot_of}
use Rattle.jn_transfer.specs.Transfer.{literal_qual, refine, side, any_empty, any_free, all_settled, ref_quals, new_qual, less_null, pad_quals, this_qual, given_quals, drop_facts, put_to, learn, written, ctor_called, elem_read, read_part, read_qual, transfer, entry_env, IsAmong}
use Rattle.jn_transfer.proofs.Monotone.{among_cases}
use Rattle.jn_reasons_law.specs.declared.item.Bit.{Bit}
use Rattle.jn_reasons_law.specs.declared.item.Bit.TheVariants.{Nullable, Committed, Free}
use Rattle.jn_reasons_law.specs.declared.item.Item.{Item}
use Rattle.jn_reasons_law.specs.declared.item.Item.TheVariants.{AtSlot, AtRegister}
use Rattle.jn_reasons_law.specs.Items.{on}
use Rattle.jn_reasons_law.specs.Sources.{the_text, from_slot, from_given, from_this_or_given, at_entry, from_register, from_references, from_new, unless_written, unless_result, from_field, behind}
use Rattle.jn_reasons_law.specs.Chains.{HasChain}
use Rattle.jn_reasons_law.proofs.Bits.{never, on_within, on_nothing, on_set, or_either}
use Rattle.jn_reasons_law.proofs.Choosing.{Chosen, the_text_chosen, item_chosen, chosen_left, chosen_right}

one_edge : (bit : Bit) (r to : ℕ) (f : Env) (x : ℕ × Env) → IsAmong x ((to, f) ∷ []) → on bit (qual_at x.1 r) ≡ true → on bit (qual_at f r) ≡ true
one_edge bit r to f x (inl i) h = subst (λ (y : ℕ × Env). on bit (qual_at y.1 r) ≡ true) i h
one_edge bit r to f x (inr m) h = absurd m

side_edge : (c : Bool) (bit : Bit) (r to : ℕ) (f : Env) (x : ℕ × Env) → IsAmong x (side c to f) → on bit (qual_at x.1 r) ≡ true → on bit (qual_at f r) ≡ true
side_edge true bit r to f x m h = absurd m
side_edge false bit r to f x m h = one_edge bit r to f x m h

on_cond : (bit : Bit) (c : Bool) (q : Qualifier) → on bit (cond c no_qual q) ≡ true → on bit q ≡ true
on_cond bit true q h = absurd (on_nothing bit h)
on_cond bit false q h = h

on_cond_else : (bit : Bit) (c : Bool) (q : Qualifier) → on bit (cond c q no_qual) ≡ true → on bit q ≡ true
on_cond_else bit true q h = h
on_cond_else bit false q h = absurd (on_nothing bit h)

on_without_null : (bit : Bit) (q : Qualifier) → on bit (without_null q) ≡ true → on bit q ≡ true
on_without_null Nullable q h = absurd (never h)
on_without_null Committed q h = h
on_without_null Free q h = h

on_null_part : (bit : Bit) (q : Qualifier) → on bit (null_part q) ≡ true → on bit q ≡ true
on_null_part Nullable q h = h
on_null_part Committed q h = absurd (never h)
on_null_part Free q h = absurd (never h)

on_without_free : (bit : Bit) (q : Qualifier) → on bit (without_free q) ≡ true → on bit q ≡ true
on_without_free Nullable q h = h
on_without_free Committed q h = h
on_without_free Free q h = absurd (never h)

on_less_null : (bit : Bit) (c : Bool) (q : Qualifier) → on bit (less_null c q) ≡ true → on bit q ≡ true
on_less_null bit true q h = on_without_null bit q h
on_less_null bit false q h = h

-- an environment refined to a part has no further bit
on_refined : (bit : Bit) (e : Env) (r o : ℕ) (q : Qualifier) → (on bit q ≡ true → on bit (qual_at e o) ≡ true) → on bit (qual_at (refine e o q) r) ≡ true → on bit (qual_at e r) ≡ true
on_refined bit e r o q part h = ⊎_elim
    (λ a. subst (λ n. on bit (qual_at e n) ≡ true) a.0 (part a.1))
    (λ c. c.1)
    (on_set bit e.quals o r q h)

on_learned : (P : Program) (b : ℕ) (bit : Bit) (e : Env) (r : ℕ) (og : Option Origin) → on bit (qual_at (learn P b og e) r) ≡ true → on bit (qual_at e r) ≡ true
on_learned P b bit e r None h = h
on_learned P b bit e r (Some og) h = h

on_written : (P : Program) (b : ℕ) (bit : Bit) (e : Env) (r o f v : ℕ) (ref : Bool) → on bit (qual_at (written P b e o f v ref) r) ≡ true → on bit (qual_at e r) ≡ true
on_written P b bit e r o f v false h = h
on_written P b bit e r o f v true h = h

on_called : (P : Program) (b : ℕ) (bit : Bit) (e : Env) (r : ℕ) (own : Bool) → on bit (qual_at (ctor_called P b e own) r) ≡ true → on bit (qual_at e r) ≡ true
on_called P b bit e r false h = h
on_called P b bit e r true h = h

on_padded : (bit : Bit) (qs : List Qualifier) (n r : ℕ) → on bit (slice_index_or (pad_quals qs n) r no_qual) ≡ true → on bit (slice_index_or qs r no_qual) ≡ true
on_padded bit qs zero r h = absurd (on_nothing bit h)
on_padded bit [] (suc n) zero h = h
on_padded bit [] (suc n) (suc r) h = on_padded bit [] n r h
on_padded bit (q ∷ qs) (suc n) zero h = h
on_padded bit (q ∷ qs) (suc n) (suc r) h = on_padded bit qs n r h

module _ (P : Program) (s : List Qualifier) (tables : List Table) where
  -- a signature whose bits have chains
  abbrev pub Supports : List Qualifier → Type 0
  Supports t = (k : ℕ) (bit : Bit) → on bit (slice_index_or t k no_qual) ≡ true → HasChain P s tables (AtSlot k bit)

  module _ (t : List Qualifier) (sup : Supports t) where
    slot_chosen : (x : Option SlotNo) (bit : Bit) → on bit (slot_qual t x) ≡ true → Chosen P s tables (from_slot x bit)
    slot_chosen None bit h = absurd (on_nothing bit h)
    slot_chosen (Some n) bit h = item_chosen P s tables (AtSlot n.0 bit) (sup n.0 bit h)

    field_chosen : (o : Option Field) (bit : Bit) → on bit (field_qual_of t o) ≡ true → Chosen P s tables (from_slot (field_slot_of o) bit)
    field_chosen None bit h = absurd (on_nothing bit h)
    field_chosen (Some f) bit h = slot_chosen f.slot bit h

    result_chosen : (o : Option Method) (bit : Bit) → on bit (result_of t o) ≡ true → Chosen P s tables (from_slot (result_slot_of o) bit)
    result_chosen None bit h = absurd (on_nothing bit h)
    result_chosen (Some m) bit h = slot_chosen m.result_slot bit h

    receiver_chosen : (o : Option Method) (bit : Bit) → on bit (receiver_of t o) ≡ true → Chosen P s tables (from_slot (receiver_slot_of o) bit)
    receiver_chosen None bit h = absurd (on_nothing bit h)
    receiver_chosen (Some m) bit h = slot_chosen m.receiver bit h

    given_chosen : (xs : List (Option SlotNo)) (r : ℕ) (bit : Bit) → on bit (slice_index_or (slot_quals t xs) r no_qual) ≡ true → Chosen P s tables (from_given xs r bit)
    given_chosen [] r bit h = absurd (on_nothing bit h)
    given_chosen (x ∷ xs) zero bit h = slot_chosen x bit h
    given_chosen (x ∷ xs) (suc r) bit h = given_chosen xs r bit h

    this_by : (c : Bool) (m : Option Method) (bit : Bit) → on bit (cond c free_only (receiver_of t m)) ≡ true → Chosen P s tables (cond c the_text (from_slot (receiver_slot_of m) bit))
    this_by true m bit h = the_text_chosen P s tables
    this_by false m bit h = receiver_chosen m bit h

    entry_by : (c : Bool) (m : Option Method) (r : ℕ) (bit : Bit) → on bit (slice_index_or (cond c (slot_quals t (slots_of m)) (this_qual t m ∷ slot_quals t (slots_of m))) r no_qual) ≡ true → Chosen P s tables (cond c (from_given (slots_of m) r bit) (from_this_or_given m r bit))
    entry_by true m r bit h = given_chosen (slots_of m) r bit h
    entry_by false m zero bit h = this_by (ctor_of m) m bit h
    entry_by false m (suc r) bit h = given_chosen (slots_of m) r bit h

    pub entry_chosen : (b r : ℕ) (bit : Bit) → on bit (qual_at (entry_env P t b) r) ≡ true → Chosen P s tables (at_entry (method_in P b) r bit)
    entry_chosen b r bit h = entry_by (static_of (method_in P b)) (method_in P b) r bit (on_padded bit (given_quals t (method_in P b)) (regs_of (body_at P b)) r h)

    module _ (b p : ℕ) (e E : Env) (w : EnvWithin e E) (regs : (r : ℕ) (bit : Bit) → on bit (qual_at e r) ≡ true → HasChain P s tables (AtRegister b p r bit)) where
      pub kept : (r : ℕ) (bit : Bit) → on bit (qual_at e r) ≡ true → Chosen P s tables (from_register b p r bit)
      kept r bit h = item_chosen P s tables (AtRegister b p r bit) (regs r bit h)

      written_by : (dst r : ℕ) (bit : Bit) (zs : List (Option Item)) (c : Bool) → eqb dst r ≡ c → ((dst ≡ r) × Chosen P s tables zs) ⊎ ((dst ≡ r → ⊥) × Chosen P s tables (from_register b p r bit)) → Chosen P s tables (cond c zs (from_register b p r bit))
      written_by dst r bit zs true i (inl a) = a.1
      written_by dst r bit zs true i (inr c) = absurd (c.0 (eqb-true dst r i))
      written_by dst r bit zs false i (inl a) = absurd (never (sym i ∙ eq-eqb dst r a.0))
      written_by dst r bit zs false i (inr c) = c.1

      put_chosen : (dst r : ℕ) (bit : Bit) (q : Qualifier) (zs : List (Option Item)) → (on bit q ≡ true → Chosen P s tables zs) → on bit (slice_index_or (slice_set e.quals dst q) r no_qual) ≡ true → Chosen P s tables (unless_written b p dst r bit zs)
      put_chosen dst r bit q zs f h = written_by dst r bit zs (eqb dst r) refl (⊎_elim (λ a. inl (a.0, f a.1)) (λ c. inr (c.0, kept r bit c.1)) (on_set bit e.quals dst r q h))

      put_none : (dst r : ℕ) (bit : Bit) → on bit (slice_index_or (slice_set e.quals dst no_qual) r no_qual) ≡ true → Chosen P s tables (unless_written b p dst r bit [])
      put_none dst r bit h = put_chosen dst r bit no_qual [] (λ n. absurd (on_nothing bit n)) h

      put_text : (dst r : ℕ) (bit : Bit) (q : Qualifier) → on bit (slice_index_or (slice_set e.quals dst q) r no_qual) ≡ true → Chosen P s tables (unless_written b p dst r bit the_text)
      put_text dst r bit q h = put_chosen dst r bit q the_text (λ n. the_text_chosen P s tables) h

      -- a field's read
      part_by : (o f : ℕ) (bit : Bit) (c d : Bool) (flat : Bool) → (c ≡ true → d ≡ true) → on bit (cond c (cond flat null_or_committed all_quals) (without_free (field_qual P t f))) ≡ true → Chosen P s tables (cond d the_text (from_slot (field_slot_of (field_info P f)) bit))
      part_by o f bit c true flat k h = the_text_chosen P s tables
      part_by o f bit true false flat k h = absurd (never (k refl))
      part_by o f bit false false flat k h = field_chosen (field_info P f) bit (on_without_free bit (field_qual P t f) h)

      read_chosen : (o f : ℕ) (bit : Bit) → on bit (read_qual P t b e o f) ≡ true → Chosen P s tables (from_field b p P E o f bit)
      read_chosen o f bit h =
          let a = on_less_null bit (is_on (is_key o f) (fact_keys P b) e.facts) (cond (ref_field P f) (read_part P t f (without_null (qual_at e o))) no_qual) h in
          let d = on_cond_else bit (ref_field P f) (read_part P t f (without_null (qual_at e o))) a in
          let g = on_cond bit (is_none (without_null (qual_at e o))) (cond (qual_at e o).free (cond (flat_field P f) null_or_committed all_quals) (without_free (field_qual P t f))) d in
          part_by o f bit (qual_at e o).free (qual_at E o).free (flat_field P f) (on_within Free (qual_at e o) (qual_at E o) (env_qual e E o w)) g

      -- a new object
      references_chosen : (xs : List (Option SlotNo)) (args : List Operand) → any_free (ref_quals e xs args) ≡ true → Chosen P s tables (from_references b p xs args Free)
      references_chosen [] args h = absurd (never h)
      references_chosen (x ∷ xs) [] h = absurd (never h)
      references_chosen (None ∷ xs) (a ∷ args) h = references_chosen xs args h
      references_chosen (Some n ∷ xs) (a ∷ args) h = ⊎_elim
          (λ m. chosen_left P s tables (Some (AtRegister b p a.reg.0 Free) ∷ []) (from_references b p xs args Free) (kept a.reg.0 Free m))
          (λ m. chosen_right P s tables (Some (AtRegister b p a.reg.0 Free) ∷ []) (from_references b p xs args Free) (references_chosen xs args m))
          (or_either (qual_at e a.reg.0).free (any_free (ref_quals e xs args)) h)

      object_chosen : (xs : List (Option SlotNo)) (args : List Operand) (bit : Bit) → on bit (record { null = false; committed = all_settled (ref_quals e xs args); free = any_free (ref_quals e xs args) }) ≡ true → Chosen P s tables (from_new b p xs args bit)
      object_chosen xs args Nullable h = absurd (never h)
      object_chosen xs args Committed h = the_text_chosen P s tables
      object_chosen xs args Free h = references_chosen xs args h

      new_chosen : (xs : List (Option SlotNo)) (args : List Operand) (bit : Bit) → on bit (new_qual (ref_quals e xs args)) ≡ true → Chosen P s tables (from_new b p xs args bit)
      new_chosen xs args bit h = object_chosen xs args bit (on_cond bit (any_empty (ref_quals e xs args)) (record { null = false; committed = all_settled (ref_quals e xs args); free = any_free (ref_quals e xs args) }) h)

      call_chosen : (dst : Option RegNo) (m : Option Method) (r : ℕ) (bit : Bit) → on bit (qual_at (put_to P b (drop_facts P b e) dst (result_of t m)) r) ≡ true → Chosen P s tables (unless_result b p dst r bit (from_slot (result_slot_of m) bit))
      call_chosen None m r bit h = kept r bit h
      call_chosen (Some dst) m r bit h = put_chosen dst.0 r bit (result_of t m) (from_slot (result_slot_of m) bit) (result_chosen m bit) h

      pub behind_chosen : (kind : PointKind) (x : ℕ × Env) → IsAmong x (transfer P t b kind p e) → (r : ℕ) (bit : Bit) → on bit (qual_at x.1 r) ≡ true → Chosen P s tables (behind b p P E kind r bit)
      behind_chosen (Const dst v) x m r bit h = put_text dst.0 r bit (literal_qual v) (one_edge bit r _ _ x m h)
      behind_chosen (Move dst from bound) x m r bit h = put_chosen dst.0 r bit (qual_at e from.reg.0) _ (kept from.reg.0 bit) (one_edge bit r _ _ x m h)
      behind_chosen (Unary dst neg of) x m r bit h = put_none dst.0 r bit (one_edge bit r _ _ x m h)
      behind_chosen (Binary dst op left right) x m r bit h = put_none dst.0 r bit (one_edge bit r _ _ x m h)
      behind_chosen (Concat dst left right) x m r bit h = put_text dst.0 r bit _ (one_edge bit r _ _ x m h)
      behind_chosen (SameRef dst eq left right) x m r bit h = put_none dst.0 r bit (one_edge bit r _ _ x m h)
      behind_chosen (FieldRead dst o f) x m r bit h = put_chosen dst.0 r bit (read_qual P t b e o.reg.0 f.0) _ (read_chosen o.reg.0 f.0 bit) (one_edge bit r _ _ x m h)
      behind_chosen (FieldWrite o f v) x m r bit h = kept r bit (on_written P b bit e r o.reg.0 f.0 v.reg.0 (ref_field P f.0) (one_edge bit r _ _ x m h))
      behind_chosen (StaticRead dst f) x m r bit h = put_none dst.0 r bit (one_edge bit r _ _ x m h)
      behind_chosen (StaticWrite f v) x m r bit h = kept r bit (one_edge bit r _ _ x m h)
      behind_chosen (ElemRead dst a i) x m r bit h = put_text dst.0 r bit (elem_read P b e a.reg.0) (one_edge bit r _ _ x m h)
      behind_chosen (ElemWrite a i v) x m r bit h = kept r bit (one_edge bit r _ _ x m h)
      behind_chosen (ArrayLen dst a) x m r bit h = put_none dst.0 r bit (one_edge bit r _ _ x m h)
      behind_chosen (NewArray dst base n) x m r bit h = put_text dst.0 r bit _ (one_edge bit r _ _ x m h)
      behind_chosen (ArrayOf dst base xs) x m r bit h = put_text dst.0 r bit _ (one_edge bit r _ _ x m h)
      behind_chosen (New dst k args) x m r bit h = put_chosen dst.0 r bit (new_qual (ref_quals e (slots_of (method_at P k.0)) args)) _ (new_chosen (slots_of (method_at P k.0)) args bit) (one_edge bit r _ _ x m h)
      behind_chosen (CtorCall k args own) x m r bit h = kept r bit (on_called P b bit e r own (one_edge bit r _ _ x m h))
      behind_chosen (Call dst k o direct args) x m r bit h = call_chosen dst (method_at P k.0) r bit (one_edge bit r _ _ x m h)
      behind_chosen (StrOp dst op of other) x m r bit h = put_none dst.0 r bit (one_edge bit r _ _ x m h)
      behind_chosen (Print of) x m r bit h = kept r bit (one_edge bit r _ _ x m h)
      behind_chosen (Cast dst of c) x m r bit h = put_chosen dst.0 r bit (qual_at e of.reg.0) _ (kept of.reg.0 bit) (one_edge bit r _ _ x m h)
      behind_chosen (TestInst of c og at_yes at_no) x m r bit h =
          let v = without_null (qual_at e of.reg.0) in
          kept r bit (⊎_elim
          (λ a. on_refined bit e r of.reg.0 v (on_without_null bit (qual_at e of.reg.0)) (on_learned P b bit (refine e of.reg.0 v) r og (side_edge (is_none v) bit r at_yes.0 (learn P b og (refine e of.reg.0 v)) x a h)))
          (λ a. one_edge bit r at_no.0 e x a h)
          (among_cases x (side (is_none v) at_yes.0 (learn P b og (refine e of.reg.0 v))) ((at_no.0, e) ∷ []) m))
      behind_chosen (TestNull of og at_null at_value) x m r bit h =
          let n = null_part (qual_at e of.reg.0) in
          let v = without_null (qual_at e of.reg.0) in
          kept r bit (⊎_elim
          (λ a. on_refined bit e r of.reg.0 n (on_null_part bit (qual_at e of.reg.0)) (side_edge (is_none n) bit r at_null.0 (refine e of.reg.0 n) x a h))
          (λ a. on_refined bit e r of.reg.0 v (on_without_null bit (qual_at e of.reg.0)) (on_learned P b bit (refine e of.reg.0 v) r og (side_edge (is_none v) bit r at_value.0 (learn P b og (refine e of.reg.0 v)) x a h)))
          (among_cases x (side (is_none n) at_null.0 (refine e of.reg.0 n)) (side (is_none v) at_value.0 (learn P b og (refine e of.reg.0 v))) m))
      behind_chosen (Branch of at_yes at_no) x m r bit h = kept r bit (⊎_elim
          (λ a. one_edge bit r at_yes.0 e x a h)
          (λ a. one_edge bit r at_no.0 e x a h)
          (among_cases x ((at_yes.0, e) ∷ []) ((at_no.0, e) ∷ []) m))
      behind_chosen (Goto to) x m r bit h = kept r bit (one_edge bit r to.0 e x m h)
      behind_chosen (Return v) x m r bit h = absurd m
