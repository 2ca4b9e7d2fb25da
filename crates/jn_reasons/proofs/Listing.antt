-- The list of an item's causes has each of them, and nothing else.
use Rattle.std.proofs.Common.{◌≡◌, ℕ, zero, suc, ◌<◌, Bool, true, false, cond, ◌&&◌, ◌⊎◌, inl, inr, ⊎_elim, List, [], ◌∷◌, ◌++◌, length, Option, Some, None, refl, sym, ap, subst, arith}
use Rattle.std.specs.Prelude.{eqb, slice_get, slice_index_or}
use Rattle.std.proofs.lemmas.Bool.{and_from, and_parts, or_cases, or_left, or_right, eqb-true, eq-eqb, lt-ltb}
use Rattle.jn_quals.specs.Qualifier.{Qualifier}
use Rattle.jn_quals.specs.Order.{no_qual}
use Rattle.jn_points.specs.declared.point.Point.{Point}
use Rattle.jn_points.specs.declared.point.PointKind.{PointKind}
use Rattle.jn_points.specs.declared.program.Body.{Body}
use Rattle.jn_points.specs.declared.program.Program.{Program}
use Rattle.jn_points.specs.Lookup.{points_of, body_at, point_at, method_in}
use Rattle.jn_sigs.specs.Signature.{start_signature}
use Rattle.jn_env.specs.Environment.{Env}
use Rattle.jn_env.specs.Order.{Table, env_in, qual_at}
use Rattle.jn_transfer.specs.Contributions.{IsSent, kind_sends}
use Rattle.jn_transfer.specs.Pairs.{pair_sends}
use Rattle.jn_transfer.specs.Transfer.{transfer, entry_env, IsAmong}
use Rattle.jn_contrib.proofs.Fits.{there_below}
use Rattle.jn_tables_law.specs.Tasks.{task_count, task_method, is_body_task}
use Rattle.jn_tables_law.proofs.TaskNumbers.{TaskOf, task_of}
use Rattle.jn_reasons_law.specs.declared.item.Bit.{Bit}
use Rattle.jn_reasons_law.specs.declared.item.Item.{Item}
use Rattle.jn_reasons_law.specs.declared.item.Item.TheVariants.{AtSlot, AtRegister}
use Rattle.jn_reasons_law.specs.declared.item.Place.{Place}
use Rattle.jn_reasons_law.specs.declared.item.Place.TheVariants.{OfSlot, OfMethod, OfBody, OfPoint}
use Rattle.jn_reasons_law.specs.Items.{on}
use Rattle.jn_reasons_law.specs.Sources.{IsOneOf, the_text, at_entry, behind, sent_from, from_pairs}
use Rattle.jn_reasons_law.specs.Chains.{IsCause, IsSender, IsPairSender, IsCarrier, SendsBit, starts, sends, overrides, enters, carries}
use Rattle.jn_reasons.specs.declared.causes.Cause.{Cause}
use Rattle.jn_reasons.specs.Listed.{IsListed, cause_at, placed, firsts, is_sent, over_edge, over_edges, over_point, carried, entered, register_causes, sent_at, sent_by, body_causes, pair_causes, started, task_causes, causes}

never : false ≡ true → ⊥
never e = cc

-- what is listed
left : (c : Cause) (xs ys : List Cause) → IsListed c xs → IsListed c (xs ++ ys)
left c [] ys h = absurd h
left c (x ∷ xs) ys (inl e) = inl e
left c (x ∷ xs) ys (inr h) = inr (left c xs ys h)

right : (c : Cause) (xs ys : List Cause) → IsListed c ys → IsListed c (xs ++ ys)
right c [] ys h = h
right c (x ∷ xs) ys h = inr (right c xs ys h)

placed_in : (p : Place) (z : Option Item) (zs : List (Option Item)) → IsOneOf z zs → IsListed (cause_at p z) (placed p zs)
placed_in p z [] h = absurd h
placed_in p z (y ∷ zs) (inl e) = inl (ap (cause_at p) e)
placed_in p z (y ∷ zs) (inr h) = inr (placed_in p z zs h)

cond_in : (c : Cause) (t : Bool) (xs : List Cause) → t ≡ true → IsListed c xs → IsListed c (cond t xs [])
cond_in c true xs e h = h
cond_in c false xs e h = absurd (never e)

firsts_in : (c : Cause) (f : ℕ → List Cause) (n q : ℕ) → q < n → IsListed c (f q) → IsListed c (firsts f n)
firsts_in c f zero q lt h = absurd (omega (arith, lt))
firsts_in c f (suc n) q lt h = ⊎_elim
    (λ e. right c (firsts f n) (f n) (subst (λ j. IsListed c (f j)) e h))
    (λ l. left c (firsts f n) (f n) (firsts_in c f n q l h))
    (last q n lt)
  where
    last : (q n : ℕ) → q < suc n → (q ≡ n) ⊎ (q < n)
    last zero zero lt = inl refl
    last zero (suc n) lt = inr (omega arith)
    last (suc q) zero lt = absurd (omega (arith, lt))
    last (suc q) (suc n) lt = ⊎_elim (λ e. inl (ap suc e)) (λ l. inr (omega (arith, l))) (last q n (omega (arith, lt)))

-- what holds of all that is listed
module _ (Q : Cause → Type 0) where
  abbrev All : List Cause → Type 0
  All xs = (c : Cause) → IsListed c xs → Q c

  none_all : All []
  none_all c h = absurd h

  both_all : (xs ys : List Cause) → All xs → All ys → All (xs ++ ys)
  both_all [] ys f g c h = g c h
  both_all (x ∷ xs) ys f g c (inl e) = f c (inl e)
  both_all (x ∷ xs) ys f g c (inr h) = both_all xs ys (λ d m. f d (inr m)) g c h

  placed_all : (p : Place) (zs : List (Option Item)) → ((z : Option Item) → IsOneOf z zs → Q (cause_at p z)) → All (placed p zs)
  placed_all p [] f c h = absurd h
  placed_all p (z ∷ zs) f c (inl e) = subst Q (sym e) (f z (inl refl))
  placed_all p (z ∷ zs) f c (inr h) = placed_all p zs (λ y m. f y (inr m)) c h

  cond_all : (t : Bool) (xs : List Cause) → (t ≡ true → All xs) → All (cond t xs [])
  cond_all true xs f c h = f refl c h
  cond_all false xs f c h = absurd h

  firsts_all : (f : ℕ → List Cause) → ((q : ℕ) → All (f q)) → (n : ℕ) → All (firsts f n)
  firsts_all f g zero c h = absurd h
  firsts_all f g (suc n) c h = both_all (firsts f n) (f n) (firsts_all f g n) (g n) c h

-- the test of what is sent
sent_true : (k : ℕ) (bit : Bit) (xs : List (ℕ × Qualifier)) → SendsBit k bit xs → is_sent k bit xs ≡ true
sent_true k bit xs h = by xs h.there
  where
    by : (ys : List (ℕ × Qualifier)) → IsSent (k, h.qual) ys → is_sent k bit ys ≡ true
    by [] m = absurd m
    by (y ∷ ys) (inl e) = or_left (eqb y.0 k && on bit y.1) (is_sent k bit ys) (subst (λ (z : ℕ × Qualifier). (eqb z.0 k && on bit z.1) ≡ true) e (and_from (eqb k k) (on bit h.qual) (eq-eqb k k refl) h.has))
    by (y ∷ ys) (inr m) = or_right (eqb y.0 k && on bit y.1) (is_sent k bit ys) (by ys m)

true_sent : (k : ℕ) (bit : Bit) (xs : List (ℕ × Qualifier)) → is_sent k bit xs ≡ true → SendsBit k bit xs
true_sent k bit [] h = absurd (never h)
true_sent k bit (x ∷ xs) h = ⊎_elim
    (λ a. let t = and_parts (eqb x.0 k) (on bit x.1) a in record { qual = x.1; there = inl (λ j. (sym (eqb-true x.0 k t.0) j, x.1)); has = t.1 })
    (λ a. let r = true_sent k bit xs a in record { qual = r.qual; there = inr r.there; has = r.has })
    (or_cases (eqb x.0 k && on bit x.1) (is_sent k bit xs) h)

module _ (P : Program) (s : List Qualifier) (tables : List Table) where
  abbrev T : ℕ → Table
  T b = slice_index_or tables b []

  module _ (b p r : ℕ) (bit : Bit) where
    -- each cause of a register is listed
    edges_in : (q : ℕ) (kind : PointKind) (e : Env) (z : Option Item) (after : Env) (xs : List (ℕ × Env)) → IsAmong (p, after) xs → on bit (qual_at after r) ≡ true → IsOneOf z (behind b q P e kind r bit) → IsListed (cause_at (OfPoint b q) z) (over_edges P b p r bit q kind e xs)
    edges_in q kind e z after [] m h i = absurd m
    edges_in q kind e z after (x ∷ xs) (inl j) h i =
        left (cause_at (OfPoint b q) z) (over_edge P b p r bit q kind e x) (over_edges P b p r bit q kind e xs)
        (cond_in (cause_at (OfPoint b q) z) (eqb x.0 p && on bit (qual_at x.1 r)) (placed (OfPoint b q) (behind b q P e kind r bit))
        (subst (λ (y : ℕ × Env). (eqb y.0 p && on bit (qual_at y.1 r)) ≡ true) j (and_from (eqb p p) (on bit (qual_at after r)) (eq-eqb p p refl) h))
        (placed_in (OfPoint b q) z (behind b q P e kind r bit) i))
    edges_in q kind e z after (x ∷ xs) (inr m) h i =
        right (cause_at (OfPoint b q) z) (over_edge P b p r bit q kind e x) (over_edges P b p r bit q kind e xs) (edges_in q kind e z after xs m h i)

    carried_in : (q : ℕ) (z : Option Item) → IsCarrier P s tables b q p r bit z → IsListed (cause_at (OfPoint b q) z) (carried P s b (T b) p r bit q)
    carried_in q z c =
        let one = edges_in q c.point.kind c.env z c.after (transfer P s b c.point.kind q c.env) c.edge c.has c.source in
        let two = subst (λ (o : Option Env). IsListed (cause_at (OfPoint b q) z) (over_point P s b p r bit q (Some c.point) o)) (sym c.reached) one in
        subst (λ (o : Option Point). IsListed (cause_at (OfPoint b q) z) (over_point P s b p r bit q o (env_in (T b) q))) (sym c.there) two

    carrier_in : (q : ℕ) (z : Option Item) → IsCarrier P s tables b q p r bit z → IsListed (cause_at (OfPoint b q) z) (register_causes P s b (T b) p r bit)
    carrier_in q z c =
        right (cause_at (OfPoint b q) z) (entered P s b p r bit) (firsts (carried P s b (T b) p r bit) (length (points_of (body_at P b))))
        (firsts_in (cause_at (OfPoint b q) z) (carried P s b (T b) p r bit) (length (points_of (body_at P b))) q (there_below Point (points_of (body_at P b)) q c.point c.there) (carried_in q z c))

    -- what is listed is a cause
    abbrev OfRegister : Cause → Type 0
    OfRegister c = IsCause P s tables (AtRegister b p r bit) c.place c.source

    edges_all : (q : ℕ) (pt : Point) (e : Env) → point_at P b q ≡ Some pt → env_in (T b) q ≡ Some e → (xs : List (ℕ × Env)) → ((x : ℕ × Env) → IsAmong x xs → IsAmong x (transfer P s b pt.kind q e)) → All OfRegister (over_edges P b p r bit q pt.kind e xs)
    edges_all q pt e there reached [] f = none_all OfRegister
    edges_all q pt e there reached (x ∷ xs) f = both_all OfRegister (over_edge P b p r bit q pt.kind e x) (over_edges P b p r bit q pt.kind e xs)
        (cond_all OfRegister (eqb x.0 p && on bit (qual_at x.1 r)) (placed (OfPoint b q) (behind b q P e pt.kind r bit))
        (λ t. placed_all OfRegister (OfPoint b q) (behind b q P e pt.kind r bit) (λ z i.
        let a = and_parts (eqb x.0 p) (on bit (qual_at x.1 r)) t in
        carries b q p r bit z (record { point = pt; env = e; after = x.1; there = there; reached = reached; edge = subst (λ (n : ℕ). IsAmong (n, x.1) (transfer P s b pt.kind q e)) (eqb-true x.0 p a.0) (f x (inl refl)); has = a.1; source = i }))))
        (edges_all q pt e there reached xs (λ y m. f y (inr m)))

    point_all : (q : ℕ) (o : Option Point) (v : Option Env) → point_at P b q ≡ o → env_in (T b) q ≡ v → All OfRegister (over_point P s b p r bit q o v)
    point_all q None v i j = none_all OfRegister
    point_all q (Some pt) None i j = none_all OfRegister
    point_all q (Some pt) (Some e) i j = edges_all q pt e i j (transfer P s b pt.kind q e) (λ x m. m)

  entered_all : (b p r : ℕ) (bit : Bit) → All (OfRegister b p r bit) (entered P s b p r bit)
  entered_all b zero r bit = cond_all (OfRegister b 0 r bit) (on bit (qual_at (entry_env P s b) r)) (placed (OfBody b) (at_entry (method_in P b) r bit))
      (λ h. placed_all (OfRegister b 0 r bit) (OfBody b) (at_entry (method_in P b) r bit) (λ z i. enters b r bit z (record { has = h; source = i })))
  entered_all b (suc p) r bit = none_all (OfRegister b (suc p) r bit)

  register_all : (b p r : ℕ) (bit : Bit) → All (OfRegister b p r bit) (register_causes P s b (T b) p r bit)
  register_all b p r bit = both_all (OfRegister b p r bit) (entered P s b p r bit) (firsts (carried P s b (T b) p r bit) (length (points_of (body_at P b))))
      (entered_all b p r bit)
      (firsts_all (OfRegister b p r bit) (carried P s b (T b) p r bit) (λ q. point_all b p r bit q (point_at P b q) (env_in (T b) q) refl refl) (length (points_of (body_at P b))))

  module _ (k : ℕ) (bit : Bit) where
    abbrev OfSlotBit : Cause → Type 0
    OfSlotBit c = IsCause P s tables (AtSlot k bit) c.place c.source

    -- what a body sends
    sender_in : (b q : ℕ) (z : Option Item) → IsSender P s tables b q k bit z → IsListed (cause_at (OfPoint b q) z) (body_causes P b (T b) k bit)
    sender_in b q z c =
        let sent = sent_true k bit (kind_sends P b c.env c.point.kind) (record { qual = c.qual; there = c.sent; has = c.has }) in
        let one = cond_in (cause_at (OfPoint b q) z) (is_sent k bit (kind_sends P b c.env c.point.kind)) (placed (OfPoint b q) (sent_from b q P c.env k c.point.kind bit)) sent (placed_in (OfPoint b q) z (sent_from b q P c.env k c.point.kind bit) c.source) in
        let two = subst (λ (o : Option Env). IsListed (cause_at (OfPoint b q) z) (sent_at P b k bit q (Some c.point) o)) (sym c.reached) one in
        let three = subst (λ (o : Option Point). IsListed (cause_at (OfPoint b q) z) (sent_at P b k bit q o (env_in (T b) q))) (sym c.there) two in
        firsts_in (cause_at (OfPoint b q) z) (sent_by P b (T b) k bit) (length (points_of (body_at P b))) q (there_below Point (points_of (body_at P b)) q c.point c.there) three

    sent_all : (b q : ℕ) (o : Option Point) (v : Option Env) → point_at P b q ≡ o → env_in (T b) q ≡ v → All OfSlotBit (sent_at P b k bit q o v)
    sent_all b q None v i j = none_all OfSlotBit
    sent_all b q (Some pt) None i j = none_all OfSlotBit
    sent_all b q (Some pt) (Some e) i j = cond_all OfSlotBit (is_sent k bit (kind_sends P b e pt.kind)) (placed (OfPoint b q) (sent_from b q P e k pt.kind bit))
        (λ t. placed_all OfSlotBit (OfPoint b q) (sent_from b q P e k pt.kind bit) (λ z m.
        let h = true_sent k bit (kind_sends P b e pt.kind) t in
        sends b q k bit z (record { point = pt; env = e; qual = h.qual; there = i; reached = j; sent = h.there; has = h.has; source = m })))

    body_all : (b : ℕ) → All OfSlotBit (body_causes P b (T b) k bit)
    body_all b = firsts_all OfSlotBit (sent_by P b (T b) k bit) (λ q. sent_all b q (point_at P b q) (env_in (T b) q) refl refl) (length (points_of (body_at P b)))

    -- what a method that overrides sends
    pair_in : (m : ℕ) (z : Option Item) → IsPairSender P s tables m k bit z → IsListed (cause_at (OfMethod m) z) (pair_causes P s k bit m)
    pair_in m z c =
        cond_in (cause_at (OfMethod m) z) (is_sent k bit (pair_sends P s m)) (placed (OfMethod m) (from_pairs P m k bit))
        (sent_true k bit (pair_sends P s m) (record { qual = c.qual; there = c.sent; has = c.has })) (placed_in (OfMethod m) z (from_pairs P m k bit) c.source)

    pair_all : (m : ℕ) → All OfSlotBit (pair_causes P s k bit m)
    pair_all m = cond_all OfSlotBit (is_sent k bit (pair_sends P s m)) (placed (OfMethod m) (from_pairs P m k bit))
        (λ t. placed_all OfSlotBit (OfMethod m) (from_pairs P m k bit) (λ z i.
        let h = true_sent k bit (pair_sends P s m) t in
        overrides m k bit z (record { qual = h.qual; sent = h.there; has = h.has; source = i })))

    -- task by task
    body_task_in : (c : Cause) (b : ℕ) → b < length P.bodies → IsListed c (body_causes P b (T b) k bit) → IsListed c (task_causes P s tables k bit b)
    body_task_in c b lt h = subst (λ (t : Bool). IsListed c (cond t (body_causes P b (T b) k bit) (pair_causes P s k bit (task_method P b)))) (sym (lt-ltb b (length P.bodies) lt)) h

    pair_task_in : (c : Cause) (m : ℕ) (n : TaskOf P m) → IsListed c (pair_causes P s k bit m) → IsListed c (task_causes P s tables k bit n.task)
    pair_task_in c m n h =
        let mine = subst (λ (j : ℕ). IsListed c (pair_causes P s k bit j)) (sym n.method) h in
        subst (λ (t : Bool). IsListed c (cond t (body_causes P n.task (T n.task) k bit) (pair_causes P s k bit (task_method P n.task)))) (sym n.behind) mine

    task_all : (n : ℕ) → All OfSlotBit (task_causes P s tables k bit n)
    task_all n = by (is_body_task P n)
      where
        by : (t : Bool) → All OfSlotBit (cond t (body_causes P n (T n) k bit) (pair_causes P s k bit (task_method P n)))
        by true = body_all n
        by false = pair_all (task_method P n)

    in_tasks : (c : Cause) (n : ℕ) → n < task_count P → IsListed c (task_causes P s tables k bit n) → IsListed c (causes P s tables (AtSlot k bit))
    in_tasks c n lt h = right c (started P k bit) (firsts (task_causes P s tables k bit) (task_count P)) (firsts_in c (task_causes P s tables k bit) (task_count P) n lt h)

    body_there : (b q : ℕ) (bodies : List Body) (pt : Point) → slice_get (points_of (slice_get bodies b)) q ≡ Some pt → b < length bodies
    body_there b q [] pt e = absurd cc
    body_there zero q (x ∷ bodies) pt e = omega arith
    body_there (suc b) q (x ∷ bodies) pt e = let h = body_there b q bodies pt e in omega (arith, h)

    slot_all : All OfSlotBit (causes P s tables (AtSlot k bit))
    slot_all = both_all OfSlotBit (started P k bit) (firsts (task_causes P s tables k bit) (task_count P))
        (cond_all OfSlotBit (on bit (slice_index_or (start_signature P) k no_qual)) (placed (OfSlot k) the_text) (λ h. placed_all OfSlotBit (OfSlot k) the_text (text_only h)))
        (firsts_all OfSlotBit (task_causes P s tables k bit) task_all (task_count P))
      where
        text_only : on bit (slice_index_or (start_signature P) k no_qual) ≡ true → (z : Option Item) → IsOneOf z the_text → OfSlotBit (cause_at (OfSlot k) z)
        text_only h z (inl e) = subst (λ (y : Option Item). OfSlotBit (cause_at (OfSlot k) y)) (sym e) (starts k bit h)
        text_only h z (inr m) = absurd m

  pub all_listed : (x : Item) (p : Place) (z : Option Item) → IsCause P s tables x p z → IsListed (cause_at p z) (causes P s tables x)
  all_listed x p z (starts k bit h) =
      left (cause_at (OfSlot k) None) (started P k bit) (firsts (task_causes P s tables k bit) (task_count P))
      (cond_in (cause_at (OfSlot k) None) (on bit (slice_index_or (start_signature P) k no_qual)) (placed (OfSlot k) the_text) h (inl refl))
  all_listed x p z (sends b q k bit y c) =
      let lt = body_there k bit b q P.bodies c.point c.there in
      in_tasks k bit (cause_at (OfPoint b q) y) b (omega (arith, lt)) (body_task_in k bit (cause_at (OfPoint b q) y) b lt (sender_in k bit b q y c))
  all_listed x p z (overrides m k bit y c) =
      let n = task_of P s m (k, c.qual) c.sent in
      in_tasks k bit (cause_at (OfMethod m) y) n.task n.inside (pair_task_in k bit (cause_at (OfMethod m) y) m n (pair_in k bit m y c))
  all_listed x p z (enters b r bit y c) =
      left (cause_at (OfBody b) y) (entered P s b 0 r bit) (firsts (carried P s b (T b) 0 r bit) (length (points_of (body_at P b))))
      (cond_in (cause_at (OfBody b) y) (on bit (qual_at (entry_env P s b) r)) (placed (OfBody b) (at_entry (method_in P b) r bit)) c.has (placed_in (OfBody b) y (at_entry (method_in P b) r bit) c.source))
  all_listed x p z (carries b q to r bit y c) = carrier_in b to r bit q y c

  pub none_else : (x : Item) (p : Place) (z : Option Item) → IsListed (cause_at p z) (causes P s tables x) → IsCause P s tables x p z
  none_else (AtSlot k bit) p z h = slot_all k bit (cause_at p z) h
  none_else (AtRegister b q r bit) p z h = register_all b q r bit (cause_at p z) h
