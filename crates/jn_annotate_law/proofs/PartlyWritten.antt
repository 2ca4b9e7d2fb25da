-- The least signature stays where some slots are written as it says.
use Rattle.std.proofs.Common.{◌≡◌, ◌⊎◌, ⊎_elim, inl, inr, ℕ, zero, suc, ◌+◌, ◌<◌, Bool, true, false, cond, ◌&&◌, List, [], ◌∷◌, length, Option, Some, None, refl, sym, ap, ◌∙◌, subst, arith}
use Rattle.std.specs.Prelude.{IsTrue, option_map, slice_get, slice_index_or}
use Rattle.std.proofs.lemmas.Bool.{and_from, and_parts, false≢true}
use Rattle.std.proofs.lemmas.Option.{slice_get_within}
use Rattle.jn_base.specs.declared.number.SlotNo.{SlotNo}
use Rattle.jn_quals.specs.Qualifier.{Qualifier}
use Rattle.jn_quals.specs.Order.{committed_only, no_qual, within, without_null}
use Rattle.jn_quals.proofs.Order.{included, within_of, within_refl, within_trans}
use Rattle.jn_points.specs.declared.point.Operand.{Operand}
use Rattle.jn_points.specs.declared.point.Point.{Point}
use Rattle.jn_points.specs.declared.point.PointKind.{PointKind}
use Rattle.jn_points.specs.declared.program.SlotInfo.{SlotInfo}
use Rattle.jn_points.specs.declared.program.Program.{Program}
use Rattle.jn_points.specs.Lookup.{field_info, method_at, method_in, slots_of}
use Rattle.jn_sigs.specs.Signature.{start_of, start_signature, starts_from, uncalled_from}
use Rattle.jn_env.specs.Environment.{Env}
use Rattle.jn_env.specs.Order.{QualsWithin, Table, env_in, qual_at}
use Rattle.jn_env.proofs.Order.{quals_at, quals_trans}
use Rattle.jn_transfer.specs.Contributions.{IsSent, arg_sends, field_slot_of, is_inferred, kind_sends, receiver_sends, receiver_slot_of, result_slot_of, return_sends, sends}
use Rattle.jn_transfer.specs.Closing.{IsClosed, IsNotBelowStart}
use Rattle.jn_transfer.specs.Pairs.{pair_sends}
use Rattle.jn_contrib.proofs.Sent.{of_a_point}
use Rattle.jn_tables_law.proofs.Sends.{sent_above}
use Rattle.jn_tables_law.proofs.Tables.{tables_above}
use Rattle.jn_tables_law.specs.Inferable.{IsInferable, least_sends, least_table}
use Rattle.jn_tables_law.proofs.LeastTables.{least_is, tables_of, table_of-at, tables_least}
use Rattle.jn_inference_law.specs.Solution.{IsLeastSignature}
use Rattle.jn_inference_law.proofs.PairLaws.{pairs_grow, pairs_inferred}
use Rattle.jn_places_law.specs.Bare.{Alike}
use Rattle.jn_places_law.specs.Written.{written_slot}
use Rattle.jn_places_law.proofs.Alike.{tables}
use Rattle.jn_places_law.proofs.Sent.{Each, HoldsOfSends, each_append, each_sent, points_send}
use Rattle.jn_annotate_law.specs.Worded.{worded_from}
use Rattle.jn_annotate_law.proofs.PointAlike.{the_point}
use Rattle.jn_annotate_law.proofs.SentAlike.{kind_alike, pairs_alike, uncalled_same}
use Rattle.jn_annotate_law.proofs.Trimmed.{IsNeedless, body_inside, trimmed_below, trims, trims_at, trims_long, written_stays}

-- ---- what slots start with

pub start_is : (P : Program) (k i : ℕ) (xs : List SlotInfo) (info : SlotInfo) → slice_get xs i ≡ Some info → slice_index_or (starts_from P k xs) i no_qual ≡ start_of P (k + i) info
start_is P k i [] info e = absurd (let f : ◌≡◌ {A = Option SlotInfo} None (Some info) = e in cc)
start_is P k zero (x ∷ xs) info e =
    let same : x ≡ info = (let h : ◌≡◌ {A = Option SlotInfo} (Some x) (Some info) = e in cc) in
    ap (start_of P k) same ∙ ap (λ n. start_of P n info) (let h : k ≡ k + 0 = omega arith in h)
start_is P k (suc i) (x ∷ xs) info e = start_is P (k + 1) i xs info e ∙ ap (λ n. start_of P n info) (let h : (k + 1) + i ≡ k + suc i = omega arith in h)

-- what a slot that isn't inferred starts with
pub start_at : (P : Program) (i : ℕ) (info : SlotInfo) → slice_get P.slots i ≡ Some info → info.inferred ≡ false → slice_index_or (start_signature P) i no_qual ≡ info.start
start_at P i info e f = start_is P 0 i P.slots info e ∙ ap (λ b. cond b (cond (uncalled_from P (0 + i) 0 P.methods) committed_only no_qual) info.start) f

pub start_none : (P : Program) (k i : ℕ) (xs : List SlotInfo) → slice_get xs i ≡ None → slice_index_or (starts_from P k xs) i no_qual ≡ no_qual
start_none P k i [] e = refl
start_none P k zero (x ∷ xs) e = absurd (let f : ◌≡◌ {A = Option SlotInfo} (Some x) None = e in cc)
start_none P k (suc i) (x ∷ xs) e = start_none P (k + 1) i xs e

starts_long : (P : Program) (k : ℕ) (xs : List SlotInfo) → length (starts_from P k xs) ≡ length xs
starts_long P k [] = refl
starts_long P k (x ∷ xs) = ap suc (starts_long P (k + 1) xs)

same_long : (s t : List Qualifier) → QualsWithin s t → length t ≡ length s
same_long [] [] w = refl
same_long [] (q ∷ t) w = absurd w
same_long (p ∷ s) [] w = absurd w
same_long (p ∷ s) (q ∷ t) w = ap suc (same_long s t w.1)

not_below_long : (P : Program) (s : List Qualifier) → IsNotBelowStart P s → length s ≡ length P.slots
not_below_long P s w = same_long (start_signature P) s w ∙ starts_long P 0 P.slots

module _ (P : Program) (s : List Qualifier) (is : IsLeastSignature P s) where
  pub long : length s ≡ length P.slots
  long = not_below_long P s is.starts

  pub fixed : IsInferable P → (k : ℕ) (info : SlotInfo) → slice_get P.slots k ≡ Some info → info.inferred ≡ false → info.start ≡ slice_index_or s k no_qual
  fixed can k info e f =
      let inside = slice_get_within P.slots k info e in
      let l = long in
      sym (written_stays P s can is k (omega (arith, inside, l)) (ap is_inferred e ∙ f) ∙ start_at P k info e f)

-- ---- slots after words were put

past : (slots : List SlotInfo) (s : List Qualifier) (i : ℕ) → length s ≡ length slots → slice_get slots i ≡ None → slice_index_or s i no_qual ≡ no_qual
past slots [] i e f = refl
past [] (q ∷ s) i e f = absurd (omega (arith, e))
past (x ∷ slots) (q ∷ s) zero e f = absurd (let g : ◌≡◌ {A = Option SlotInfo} (Some x) None = f in cc)
past (x ∷ slots) (q ∷ s) (suc i) e f = past slots s i (omega (arith, e)) f

module _ (said : List SlotInfo) (s : List Qualifier) where
  abbrev word : ℕ → SlotInfo → SlotInfo
  word k info = cond (is_inferred (slice_get said k)) (written_slot (slice_index_or s k no_qual)) info

  pub worded_at : (k i : ℕ) (xs : List SlotInfo) → slice_get (worded_from said s k xs) i ≡ option_map (word (k + i)) (slice_get xs i)
  worded_at k i [] = refl
  worded_at k zero (x ∷ xs) = ap (λ n. Some (word n x)) (let h : k ≡ k + 0 = omega arith in h)
  worded_at k (suc i) (x ∷ xs) = worded_at (k + 1) i xs ∙ ap (λ n. option_map (word n) (slice_get xs i)) (let h : (k + 1) + i ≡ k + suc i = omega arith in h)

  pub worded_long : (k : ℕ) (xs : List SlotInfo) → length (worded_from said s k xs) ≡ length xs
  worded_long k [] = refl
  worded_long k (x ∷ xs) = ap suc (worded_long (k + 1) xs)

-- ---- order, place by place

by_places : (xs ys : List Qualifier) → length ys ≡ length xs → ((i : ℕ) → i < length xs → IsTrue (within (slice_index_or xs i no_qual) (slice_index_or ys i no_qual))) → QualsWithin xs ys
by_places [] [] e h = tt
by_places [] (y ∷ ys) e h = absurd (omega (arith, e))
by_places (x ∷ xs) [] e h = absurd (omega (arith, e))
by_places (x ∷ xs) (y ∷ ys) e h = (h 0 (omega arith), by_places xs ys (omega (arith, e)) (λ i l. h (suc i) (omega (arith, l))))

-- what two qualifiers have in common
abbrev meet : Qualifier → Qualifier → Qualifier
meet a b = record { null = a.null && b.null; committed = a.committed && b.committed; free = a.free && b.free }

meet_left : (a b : Qualifier) → IsTrue (within (meet a b) a)
meet_left a b = within_of (meet a b) a (record { null = λ h. (and_parts a.null b.null h).0; committed = λ h. (and_parts a.committed b.committed h).0; free = λ h. (and_parts a.free b.free h).0 })

meet_right : (a b : Qualifier) → IsTrue (within (meet a b) b)
meet_right a b = within_of (meet a b) b (record { null = λ h. (and_parts a.null b.null h).1; committed = λ h. (and_parts a.committed b.committed h).1; free = λ h. (and_parts a.free b.free h).1 })

meet_most : (x a b : Qualifier) → IsTrue (within x a) → IsTrue (within x b) → IsTrue (within x (meet a b))
meet_most x a b v w =
    let f = included x a v in
    let g = included x b w in
    within_of x (meet a b) (record { null = λ h. and_from a.null b.null (f.null h) (g.null h); committed = λ h. and_from a.committed b.committed (f.committed h) (g.committed h); free = λ h. and_from a.free b.free (f.free h) (g.free h) })

-- ---- what is sent goes to inferred slots

module _ (Q : Program) where
  abbrev Open : ℕ × Qualifier → Type 0
  Open x = is_inferred (slice_get Q.slots x.0) ≡ true

  to_open : (slot : Option SlotNo) (q : Qualifier) → Each Open (sends Q slot q)
  to_open None q = tt
  to_open (Some n) q = go (is_inferred (slice_get Q.slots n.0)) refl
    where
      go : (b : Bool) → is_inferred (slice_get Q.slots n.0) ≡ b → Each Open (cond b ((n.0, q) ∷ []) [])
      go true e = (e, tt)
      go false e = tt

  args_open : (e : Env) (xs : List (Option SlotNo)) (args : List Operand) → Each Open (arg_sends Q e xs args)
  args_open e [] args = tt
  args_open e (x ∷ xs) [] = tt
  args_open e (x ∷ xs) (v ∷ args) = each_append Open (sends Q x (qual_at e v.reg.0)) (arg_sends Q e xs args) (to_open x (qual_at e v.reg.0)) (args_open e xs args)

  receiver_open : (e : Env) (slot : Option SlotNo) (r : Option Operand) → Each Open (receiver_sends Q e slot r)
  receiver_open e slot None = tt
  receiver_open e slot (Some r) = to_open slot (without_null (qual_at e r.reg.0))

  result_open : (e : Env) (slot : Option SlotNo) (v : Option Operand) → Each Open (return_sends Q e slot v)
  result_open e slot None = tt
  result_open e slot (Some v) = to_open slot (qual_at e v.reg.0)

  points_open : HoldsOfSends Q Open
  points_open = record {
    fields = λ f q e. to_open (field_slot_of (field_info Q f)) q;
    parameters = λ m e args. args_open e (slots_of (method_at Q m)) args;
    receivers = λ m e r. receiver_open e (receiver_slot_of (method_at Q m)) r;
    results = λ b e v. result_open e (result_slot_of (method_in Q b)) v;
  }

  kind_open : (b : ℕ) (e : Env) (k : PointKind) (x : ℕ × Qualifier) → IsSent x (kind_sends Q b e k) → Open x
  kind_open b e k x m = each_sent Open (kind_sends Q b e k) x (points_send Q Open points_open b e k) m

-- ---- the least signature

module _ (P Q : Program) (a : Alike P Q) (can : IsInferable P) (s : List Qualifier) (is : IsLeastSignature P s) (said : List SlotInfo) (worded : Q.slots ≡ worded_from said s 0 P.slots) where
  now : (i : ℕ) → slice_get Q.slots i ≡ option_map (word said s i) (slice_get P.slots i)
  now i = ap (λ xs. slice_get xs i) worded ∙ worded_at said s 0 i P.slots ∙ ap (λ n. option_map (word said s n) (slice_get P.slots i)) (let e : 0 + i ≡ i = omega arith in e)

  -- a slot that is still inferred is as it was
  open_same : (i : ℕ) (info : SlotInfo) → slice_get Q.slots i ≡ Some info → info.inferred ≡ true → slice_get P.slots i ≡ Some info
  open_same i info e f = go (slice_get P.slots i) (is_inferred (slice_get said i)) refl (sym e ∙ now i) refl
    where
      go : (o : Option SlotInfo) (b : Bool) → slice_get P.slots i ≡ o → Some info ≡ option_map (word said s i) o → is_inferred (slice_get said i) ≡ b → slice_get P.slots i ≡ Some info
      go None b g h c = absurd (let k : ◌≡◌ {A = Option SlotInfo} (Some info) None = h in cc)
      go (Some x) true g h c =
          let k : ◌≡◌ {A = Option SlotInfo} (Some info) (Some (word said s i x)) = h in
          let same : info ≡ word said s i x = cc in
          absurd (false≢true (sym (ap (λ (y : SlotInfo). y.inferred) (same ∙ ap (λ b. cond b (written_slot (slice_index_or s i no_qual)) x) c)) ∙ f))
      go (Some x) false g h c =
          let k : ◌≡◌ {A = Option SlotInfo} (Some info) (Some (word said s i x)) = h in
          let same : info ≡ word said s i x = cc in
          g ∙ ap (λ y. Some y) (sym (same ∙ ap (λ b. cond b (written_slot (slice_index_or s i no_qual)) x) c))

  open_in : (i : ℕ) → is_inferred (slice_get Q.slots i) ≡ true → is_inferred (slice_get P.slots i) ≡ true
  open_in i f = go (slice_get Q.slots i) refl f
    where
      go : (o : Option SlotInfo) → slice_get Q.slots i ≡ o → is_inferred o ≡ true → is_inferred (slice_get P.slots i) ≡ true
      go None e f = absurd (false≢true f)
      go (Some info) e f = ap is_inferred (open_same i info e f) ∙ f

  -- and one that isn't has what the signature says
  closed_says : (i : ℕ) (info : SlotInfo) → slice_get Q.slots i ≡ Some info → info.inferred ≡ false → info.start ≡ slice_index_or s i no_qual
  closed_says i info e f = go (slice_get P.slots i) (is_inferred (slice_get said i)) refl (sym e ∙ now i) refl
    where
      go : (o : Option SlotInfo) (b : Bool) → slice_get P.slots i ≡ o → Some info ≡ option_map (word said s i) o → is_inferred (slice_get said i) ≡ b → info.start ≡ slice_index_or s i no_qual
      go None b g h c = absurd (let k : ◌≡◌ {A = Option SlotInfo} (Some info) None = h in cc)
      go (Some x) true g h c =
          let k : ◌≡◌ {A = Option SlotInfo} (Some info) (Some (word said s i x)) = h in
          let same : info ≡ word said s i x = cc in
          ap (λ (y : SlotInfo). y.start) (same ∙ ap (λ b. cond b (written_slot (slice_index_or s i no_qual)) x) c)
      go (Some x) false g h c =
          let k : ◌≡◌ {A = Option SlotInfo} (Some info) (Some (word said s i x)) = h in
          let same : info ≡ word said s i x = cc in
          fixed P s is can i info (g ∙ ap (λ y. Some y) (sym (same ∙ ap (λ b. cond b (written_slot (slice_index_or s i no_qual)) x) c))) f

  as_long : length Q.slots ≡ length P.slots
  as_long = ap length worded ∙ worded_long said s 0 P.slots

  -- what it starts with
  abbrev at_start : Program → ℕ → Qualifier
  at_start R i = slice_index_or (start_signature R) i no_qual

  starts : (i : ℕ) → ((is_inferred (slice_get Q.slots i) ≡ true) × (at_start Q i ≡ at_start P i)) ⊎ ((is_inferred (slice_get Q.slots i) ≡ false) × (at_start Q i ≡ slice_index_or s i no_qual))
  starts i = go (slice_get Q.slots i) refl
    where
      there : (info : SlotInfo) (b : Bool) → slice_get Q.slots i ≡ Some info → info.inferred ≡ b → ((is_inferred (slice_get Q.slots i) ≡ true) × (at_start Q i ≡ at_start P i)) ⊎ ((is_inferred (slice_get Q.slots i) ≡ false) × (at_start Q i ≡ slice_index_or s i no_qual))
      there info true e f =
          inl (ap is_inferred e ∙ f, start_is Q 0 i Q.slots info e ∙ ap (λ c. cond info.inferred (cond c committed_only no_qual) info.start) (sym (uncalled_same P Q a (0 + i))) ∙ sym (start_is P 0 i P.slots info (open_same i info e f)))
      there info false e f = inr (ap is_inferred e ∙ f, start_at Q i info e f ∙ closed_says i info e f)

      go : (o : Option SlotInfo) → slice_get Q.slots i ≡ o → ((is_inferred (slice_get Q.slots i) ≡ true) × (at_start Q i ≡ at_start P i)) ⊎ ((is_inferred (slice_get Q.slots i) ≡ false) × (at_start Q i ≡ slice_index_or s i no_qual))
      go None e = inr (ap is_inferred e, start_none Q 0 i Q.slots e ∙ sym (past Q.slots s i (long P s is ∙ sym as_long) e))
      go (Some info) e = there info info.inferred e refl

  still_starts : IsNotBelowStart Q s
  still_starts = by_places (start_signature Q) s (long P s is ∙ sym as_long ∙ sym (starts_long Q 0 Q.slots)) (λ i l. ⊎_elim
      (λ h. subst (λ q. IsTrue (within q (slice_index_or s i no_qual))) (sym h.1) (quals_at (start_signature P) s i is.starts))
      (λ h. subst (λ q. IsTrue (within q (slice_index_or s i no_qual))) (sym h.1) (within_refl (slice_index_or s i no_qual)))
      (starts i))

  still_closed : IsClosed Q s
  still_closed = record {
    bodies = λ all tl b p pt e at reached x m.
        let y = the_point Q P (sym a) b p pt at in
        let opened : is_inferred (slice_get P.slots x.0) ≡ true = open_in x.0 (kind_open Q b e pt.kind x m) in
        is.closed.bodies all (λ n. tables Q P s n (slice_index_or all n []) (sym a) (tl n)) b p y.0 e y.1 reached x (kind_alike Q P (sym a) x opened b e pt.kind y.0.kind (ap (λ (z : Point). z.kind) y.2) m);
    pairs = λ m x sent. is.closed.pairs m x (pairs_alike Q P (sym a) x (open_in x.0 (pairs_inferred Q s m x sent)) s m sent);
  }

  module _ (t : List Qualifier) (closed : IsClosed Q t) (above : IsNotBelowStart Q t) where
    abbrev common : ℕ → Qualifier → Qualifier
    common i q = meet q (slice_index_or t i no_qual)

    abbrev least : List Qualifier
    least = trims common 0 s

    least_below : QualsWithin least t
    least_below = by_places least t (not_below_long Q t above ∙ as_long ∙ sym (long P s is) ∙ sym (trims_long common 0 s)) (λ i l.
        let inside : i < length s = (let e = trims_long common 0 s in omega (arith, l, e)) in
        subst (λ q. IsTrue (within q (slice_index_or t i no_qual))) (sym (trims_at common 0 i s inside))
        (subst (λ n. IsTrue (within (meet (slice_index_or s i no_qual) (slice_index_or t n no_qual)) (slice_index_or t i no_qual))) (let e : i ≡ 0 + i = omega arith in e) (meet_right (slice_index_or s i no_qual) (slice_index_or t i no_qual))))

    -- what is within the signature is within any that is closed, where the slot isn't inferred any more
    shut : (x : ℕ × Qualifier) → is_inferred (slice_get Q.slots x.0) ≡ false → IsTrue (within x.1 (slice_index_or s x.0 no_qual)) → IsTrue (within x.1 (slice_index_or t x.0 no_qual))
    shut x f w = ⊎_elim
        (λ h. absurd (false≢true (sym f ∙ h.0)))
        (λ h. within_trans x.1 (slice_index_or s x.0 no_qual) (slice_index_or t x.0 no_qual) w (subst (λ q. IsTrue (within q (slice_index_or t x.0 no_qual))) h.1 (quals_at (start_signature Q) t x.0 above)))
        (starts x.0)

    open_body : (b : ℕ) (x : ℕ × Qualifier) → is_inferred (slice_get Q.slots x.0) ≡ true → IsSent x (least_sends P least b) → IsTrue (within x.1 (slice_index_or t x.0 no_qual))
    unfolding least_sends
    open_body b x opened m =
        let first = of_a_point P b (least_table P least b) x m in
        let lt = body_inside b first.place P.bodies first.point first.there in
        let inside = can.inside b lt in
        let T : Table = least_table P least b in
        let U : Table = least_table P t b in
        let cover = sent_above P b T U (tables_above P least t b least_below T U inside (least_is P least b inside) (least_is P t b inside)) x m in
        let o = of_a_point P b U (x.0, cover.qual) cover.there in
        let y = the_point P Q a b o.place o.point o.there in
        let reached : env_in (slice_index_or (tables_of P can t) b []) o.place ≡ Some o.env = ap (λ (u : Table). env_in u o.place) (table_of-at P can t b lt) ∙ o.reached in
        let sent = kind_alike P Q a (x.0, cover.qual) opened b o.env o.point.kind y.0.kind (ap (λ (z : Point). z.kind) y.2) o.sent in
        within_trans x.1 cover.qual (slice_index_or t x.0 no_qual) cover.above
        (closed.bodies (tables_of P can t) (λ n. tables P Q t n (slice_index_or (tables_of P can t) n []) a (tables_least P can t n)) b o.place y.0 o.env y.1 reached (x.0, cover.qual) sent)

    open_pair : (m : ℕ) (x : ℕ × Qualifier) → is_inferred (slice_get Q.slots x.0) ≡ true → IsSent x (pair_sends P least m) → IsTrue (within x.1 (slice_index_or t x.0 no_qual))
    open_pair m x opened sent =
        let cover = pairs_grow P least t least_below x m sent in
        within_trans x.1 cover.qual (slice_index_or t x.0 no_qual) cover.above (closed.pairs m (x.0, cover.qual) (pairs_alike P Q a (x.0, cover.qual) opened t m cover.there))

    either : (x : ℕ × Qualifier) (b : Bool) → is_inferred (slice_get Q.slots x.0) ≡ b → (is_inferred (slice_get Q.slots x.0) ≡ true → IsTrue (within x.1 (slice_index_or t x.0 no_qual))) → IsTrue (within x.1 (slice_index_or s x.0 no_qual)) → IsTrue (within x.1 (common x.0 (slice_index_or s x.0 no_qual)))
    either x true e f w = meet_most x.1 (slice_index_or s x.0 no_qual) (slice_index_or t x.0 no_qual) w (f e)
    either x false e f w = meet_most x.1 (slice_index_or s x.0 no_qual) (slice_index_or t x.0 no_qual) w (shut x e w)

    needless : IsNeedless P can s is common
    needless = record {
      low = λ i. meet_left (slice_index_or s i no_qual) (slice_index_or t i no_qual);
      starts = λ i l. meet_most (at_start P i) (slice_index_or s i no_qual) (slice_index_or t i no_qual) (quals_at (start_signature P) s i is.starts) (⊎_elim
          (λ h. subst (λ q. IsTrue (within q (slice_index_or t i no_qual))) h.1 (quals_at (start_signature Q) t i above))
          (λ h. within_trans (at_start P i) (slice_index_or s i no_qual) (slice_index_or t i no_qual) (quals_at (start_signature P) s i is.starts) (subst (λ q. IsTrue (within q (slice_index_or t i no_qual))) h.1 (quals_at (start_signature Q) t i above)))
          (starts i));
      sent = λ b x m w. either x (is_inferred (slice_get Q.slots x.0)) refl (λ opened. open_body b x opened m) w;
      sent_over = λ m x sent w. either x (is_inferred (slice_get Q.slots x.0)) refl (λ opened. open_pair m x opened sent) w;
    }

    below_closed : QualsWithin s t
    below_closed = quals_trans s least t (trimmed_below P can s is common needless) least_below

  pub least_stays : IsLeastSignature Q s
  least_stays = record { closed = still_closed; starts = still_starts; least = λ t c n. below_closed t c n }
