-- Nothing fails exactly where the claim holds.
use Rattle.std.proofs.Common.{◌≡◌, ◌⊎◌, inl, inr, ⊎_elim, ℕ, zero, suc, ◌+◌, ◌-◌, ◌<◌, Bool, true, false, ◌||◌, List, [], ◌∷◌, length, Option, Some, None, refl, sym, ap, ◌∙◌, subst, arith}
use Rattle.std.specs.Prelude.{IsTrue, flat_map, slice_get, slice_index_or, cond, min}
use Rattle.std.specs.List.{Contains}
use Rattle.std.proofs.lemmas.Bool.{and_parts, and_from, cases_lt, lt-ltb}
use Rattle.std.proofs.lemmas.Option.{slice_get_within}
use Rattle.jn_base.specs.declared.place.Row.{Row}
use Rattle.jn_quals.specs.Qualifier.{Qualifier}
use Rattle.jn_quals.specs.Order.{no_qual, within}
use Rattle.jn_quals.proofs.Order.{within_antisym, within_refl}
use Rattle.jn_points.specs.declared.point.Point.{Point}
use Rattle.jn_points.specs.declared.program.SlotInfo.{SlotInfo}
use Rattle.jn_points.specs.declared.program.Program.{Program}
use Rattle.jn_points.specs.Lookup.{points_of, body_at, method_in, point_at}
use Rattle.jn_sigs.specs.Signature.{start_signature}
use Rattle.jn_env.specs.Environment.{Env}
use Rattle.jn_env.specs.Order.{Table, SlotWithin, env_in}
use Rattle.jn_transfer.specs.Transfer.{IsAmong, entry_env, transfer}
use Rattle.jn_transfer.specs.Contributions.{IsSent, is_inferred, kind_sends}
use Rattle.jn_transfer.specs.Pairs.{overriders, pair_sends}
use Rattle.jn_transfer.specs.Rules.{ctor_rows, pairs_rows, rows_at}
use Rattle.jn_contrib.specs.Sends.{body_sends}
use Rattle.jn_contrib.proofs.Sent.{of_a_point, of_the_body}
use Rattle.jn_tables_law.proofs.TaskNumbers.{TaskOf, task_of}
use Rattle.jn_diag.specs.Order.{IsOrderOf}
use Rattle.jn_cert_form.specs.Form.{AreParts}
use Rattle.jn_cert_judge.specs.declared.fault.CertFault.{CertFault}
use Rattle.jn_cert_judge.specs.Judging.{or_else, unless, is_inside, all_stay, broken, lesser, note_all, open_fault, all_sends, every_send, overriding_sends, slot_keeps, slots_fault, point_fault, points_fault, body_fault, bodies_fault, first_fault, IsFoundAfter, IsFirstFault}
use Rattle.jn_cert_judge.proofs.Inside.{inside_of, inside_is}
use Rattle.jn_cert_law.specs.Holds.{AllOk, BodyOk, SlotOk, SentOk}
use Rattle.jn_contrib.proofs.Sent.{sent_cases, sent_left, sent_right}

-- parts of a search that found nothing
neither : (a b : Option CertFault) → or_else a b ≡ None → (a ≡ None) × (b ≡ None)
neither None b h = (refl, h)
neither (Some f) b h = cc

from_neither : (a b : Option CertFault) → a ≡ None → b ≡ None → or_else a b ≡ None
from_neither None b h k = k
from_neither (Some f) b h k = cc

passes : (t : Bool) (f : CertFault) → unless t f ≡ None → t ≡ true
passes true f h = refl
passes false f h = cc

from_passes : (t : Bool) (f : CertFault) → t ≡ true → unless t f ≡ None
from_passes true f h = refl
from_passes false f h = cc

no_row : (rows : List Row) → broken rows ≡ None → rows ≡ []
no_row [] h = refl
no_row (row ∷ rows) h = cc

from_no_row : (rows : List Row) → rows ≡ [] → broken rows ≡ None
from_no_row [] h = refl
from_no_row (row ∷ rows) h = cc

-- edges
stays : (xs : List (ℕ × Env)) (t : Table) (x : ℕ × Env) → all_stay xs t ≡ true → IsAmong x xs → SlotWithin (Some x.1) (env_in t x.0)
stays [] t x h m = absurd m
stays (y ∷ xs) t x h (inl e) = subst (λ (z : ℕ × Env). SlotWithin (Some z.1) (env_in t z.0)) (sym e) (inside_of y.1 (env_in t y.0) (and_parts (is_inside y.1 (env_in t y.0)) (all_stay xs t) h).0)
stays (y ∷ xs) t x h (inr m) = stays xs t x (and_parts (is_inside y.1 (env_in t y.0)) (all_stay xs t) h).1 m

from_stays : (xs : List (ℕ × Env)) (t : Table) → ((x : ℕ × Env) → IsAmong x xs → SlotWithin (Some x.1) (env_in t x.0)) → all_stay xs t ≡ true
from_stays [] t h = refl
from_stays (y ∷ xs) t h = and_from (is_inside y.1 (env_in t y.0)) (all_stay xs t) (inside_is y.1 (env_in t y.0) (h y (inl refl))) (from_stays xs t (λ x m. h x (inr m)))

there : {A : Type 0} (xs : List A) (k : ℕ) → k < length xs → (x : A) × (slice_get xs k ≡ Some x)
there [] k lt = absurd (omega (arith, lt))
there (x ∷ xs) zero lt = (x, refl)
there (x ∷ xs) (suc k) lt = there xs k (omega (arith, lt))

module _ (P : Program) (s : List Qualifier) where
  -- slots
  slots_pass : (slots : List SlotInfo) (i k : ℕ) (info : SlotInfo) → slots_fault P s slots i ≡ None → slice_get slots k ≡ Some info → slot_keeps P s (i + k) info ≡ true
  slots_pass [] i k info h at = cc
  slots_pass (x ∷ slots) i zero info h at =
      let same : x ≡ info = cc in
      let here : i ≡ i + 0 = omega arith in
      subst (λ n. slot_keeps P s n info ≡ true) here (subst (λ y. slot_keeps P s i y ≡ true) same (passes (slot_keeps P s i x) _ (neither (unless (slot_keeps P s i x) _) (slots_fault P s slots (i + 1)) h).0))
  slots_pass (x ∷ slots) i (suc k) info h at =
      let next : (i + 1) + k ≡ i + suc k = omega arith in
      subst (λ n. slot_keeps P s n info ≡ true) next (slots_pass slots (i + 1) k info (neither (unless (slot_keeps P s i x) _) (slots_fault P s slots (i + 1)) h).1 at)

  from_slots : (slots : List SlotInfo) (i : ℕ) → ((k : ℕ) (info : SlotInfo) → slice_get slots k ≡ Some info → slot_keeps P s (i + k) info ≡ true) → slots_fault P s slots i ≡ None
  from_slots [] i h = refl
  from_slots (x ∷ slots) i h =
      let here : i + 0 ≡ i = omega arith in
      from_neither (unless (slot_keeps P s i x) _) (slots_fault P s slots (i + 1))
      (from_passes (slot_keeps P s i x) _ (subst (λ n. slot_keeps P s n x ≡ true) here (h 0 x refl)))
      (from_slots slots (i + 1) (λ k info at. let next : i + suc k ≡ (i + 1) + k = omega arith in subst (λ n. slot_keeps P s n info ≡ true) next (h (suc k) info at)))

  module _ (n : ℕ) (info : SlotInfo) (at : slice_get P.slots n ≡ Some info) where
    start : Qualifier
    start = slice_index_or (start_signature P) n no_qual

    now : Qualifier
    now = slice_index_or s n no_qual

    slot_is_ok : slot_keeps P s n info ≡ true → SlotOk P s n
    unfolding start now
    slot_is_ok h =
        let p = and_parts (within start now) (info.inferred || within now start) h in
        record { starts = p.0; written = λ f. within_antisym now start (second info.inferred (within now start) p.1 (ap is_inferred (sym at) ∙ f)) p.0 }
      where
        second : (a b : Bool) → (a || b) ≡ true → a ≡ false → b ≡ true
        second true b h f = cc
        second false b h f = h

    slot_is_kept : SlotOk P s n → slot_keeps P s n info ≡ true
    unfolding start now
    slot_is_kept o = and_from (within start now) (info.inferred || within now start) o.starts (either info.inferred refl)
      where
        either : (a : Bool) → info.inferred ≡ a → (a || within now start) ≡ true
        either true e = refl
        either false e = subst (λ q. IsTrue (within q start)) (sym (o.written (ap is_inferred at ∙ e))) (within_refl start)

  module _ (b : ℕ) (t : List (Option Env)) where
    point_pass : (pt : Point) (p : ℕ) (o : Option Env) → point_fault P s b t pt p o ≡ None → ((e : Env) → o ≡ Some e → (x : ℕ × Env) → IsAmong x (transfer P s b pt.kind p e) → SlotWithin (Some x.1) (env_in t x.0)) × (rows_at P s b pt o ≡ [])
    point_pass pt p None h = (λ e is. absurd cc, refl)
    point_pass pt p (Some f) h =
        let q = neither (unless (all_stay (transfer P s b pt.kind p f) t) _) (broken (rows_at P s b pt (Some f))) h in (
          λ e is x m. let same : f ≡ e = cc in stays (transfer P s b pt.kind p f) t x (passes (all_stay (transfer P s b pt.kind p f) t) _ q.0) (subst (λ g. IsAmong x (transfer P s b pt.kind p g)) (sym same) m),
          no_row (rows_at P s b pt (Some f)) q.1,
        )

    from_point : (pt : Point) (p : ℕ) (o : Option Env) → ((e : Env) → o ≡ Some e → (x : ℕ × Env) → IsAmong x (transfer P s b pt.kind p e) → SlotWithin (Some x.1) (env_in t x.0)) → rows_at P s b pt o ≡ [] → point_fault P s b t pt p o ≡ None
    from_point pt p None f r = refl
    from_point pt p (Some e) f r = from_neither (unless (all_stay (transfer P s b pt.kind p e) t) _) (broken (rows_at P s b pt (Some e)))
        (from_passes (all_stay (transfer P s b pt.kind p e) t) _ (from_stays (transfer P s b pt.kind p e) t (f e refl)))
        (from_no_row (rows_at P s b pt (Some e)) r)

    points_pass : (pts : List Point) (p k : ℕ) (pt : Point) → points_fault P s b t pts p ≡ None → slice_get pts k ≡ Some pt → point_fault P s b t pt (p + k) (env_in t (p + k)) ≡ None
    points_pass [] p k pt h at = cc
    points_pass (x ∷ pts) p zero pt h at =
        let same : x ≡ pt = cc in
        let here : p ≡ p + 0 = omega arith in
        subst (λ n. point_fault P s b t pt n (env_in t n) ≡ None) here (subst (λ y. point_fault P s b t y p (env_in t p) ≡ None) same (neither (point_fault P s b t x p (env_in t p)) (points_fault P s b t pts (p + 1)) h).0)
    points_pass (x ∷ pts) p (suc k) pt h at =
        let next : (p + 1) + k ≡ p + suc k = omega arith in
        subst (λ n. point_fault P s b t pt n (env_in t n) ≡ None) next (points_pass pts (p + 1) k pt (neither (point_fault P s b t x p (env_in t p)) (points_fault P s b t pts (p + 1)) h).1 at)

    from_points : (pts : List Point) (p : ℕ) → ((k : ℕ) (pt : Point) → slice_get pts k ≡ Some pt → point_fault P s b t pt (p + k) (env_in t (p + k)) ≡ None) → points_fault P s b t pts p ≡ None
    from_points [] p h = refl
    from_points (x ∷ pts) p h =
        let here : p + 0 ≡ p = omega arith in
        from_neither (point_fault P s b t x p (env_in t p)) (points_fault P s b t pts (p + 1))
        (subst (λ n. point_fault P s b t x n (env_in t n) ≡ None) here (h 0 x refl))
        (from_points pts (p + 1) (λ k pt at. let next : p + suc k ≡ (p + 1) + k = omega arith in subst (λ n. point_fault P s b t pt n (env_in t n) ≡ None) next (h (suc k) pt at)))

    body_pass : body_fault P s b t ≡ None → BodyOk P s b t
    body_pass h =
        let pts = points_of (body_at P b) in
        let e = neither (unless (is_inside (entry_env P s b) (env_in t 0)) _) (or_else (points_fault P s b t pts 0) (broken (ctor_rows P s b (method_in P b) t))) h in
        let q = neither (points_fault P s b t pts 0) (broken (ctor_rows P s b (method_in P b) t)) e.1 in
        let one : (p : ℕ) (pt : Point) → point_at P b p ≡ Some pt → point_fault P s b t pt p (env_in t p) ≡ None = λ p pt at. let here : 0 + p ≡ p = omega arith in subst (λ n. point_fault P s b t pt n (env_in t n) ≡ None) here (points_pass pts 0 p pt q.0 at) in
        record {
          entry = inside_of (entry_env P s b) (env_in t 0) (passes (is_inside (entry_env P s b) (env_in t 0)) _ e.0);
          points = λ p low. record {
            edges = λ pt f at reached x m. (point_pass pt p (env_in t p) (one p pt at)).0 f reached x m;
            rules = λ pt at. (point_pass pt p (env_in t p) (one p pt at)).1;
          };
          end = no_row (ctor_rows P s b (method_in P b) t) q.1;
        }

    from_body : BodyOk P s b t → body_fault P s b t ≡ None
    from_body o =
        let pts = points_of (body_at P b) in
        from_neither (unless (is_inside (entry_env P s b) (env_in t 0)) _) (or_else (points_fault P s b t pts 0) (broken (ctor_rows P s b (method_in P b) t)))
        (from_passes (is_inside (entry_env P s b) (env_in t 0)) _ (inside_is (entry_env P s b) (env_in t 0) o.entry))
        (from_neither (points_fault P s b t pts 0) (broken (ctor_rows P s b (method_in P b) t))
        (from_points pts 0 (λ k pt at. let here : k ≡ 0 + k = omega arith in subst (λ n. point_fault P s b t pt n (env_in t n) ≡ None) here (one k pt at)))
        (from_no_row (ctor_rows P s b (method_in P b) t) o.end))
      where
        one : (p : ℕ) (pt : Point) → point_at P b p ≡ Some pt → point_fault P s b t pt p (env_in t p) ≡ None
        one p pt at =
            let ok = o.points p (slice_get_within (points_of (body_at P b)) p pt at) in
            from_point pt p (env_in t p) (λ e reached x m. ok.edges pt e at reached x m) (ok.rules pt at)

  -- bodies
  bodies_pass : (tables : List (List (Option Env))) (i k : ℕ) → k < length tables → bodies_fault P s tables i ≡ None → body_fault P s (i + k) (slice_index_or tables k []) ≡ None
  bodies_pass [] i k lt h = absurd (omega (arith, lt))
  bodies_pass (t ∷ tables) i zero lt h = let here : i ≡ i + 0 = omega arith in subst (λ n. body_fault P s n t ≡ None) here (neither (body_fault P s i t) (bodies_fault P s tables (i + 1)) h).0
  bodies_pass (t ∷ tables) i (suc k) lt h =
      let next : (i + 1) + k ≡ i + suc k = omega arith in
      subst (λ n. body_fault P s n (slice_index_or tables k []) ≡ None) next (bodies_pass tables (i + 1) k (omega (arith, lt)) (neither (body_fault P s i t) (bodies_fault P s tables (i + 1)) h).1)

  from_bodies : (tables : List (List (Option Env))) (i : ℕ) → ((k : ℕ) → k < length tables → body_fault P s (i + k) (slice_index_or tables k []) ≡ None) → bodies_fault P s tables i ≡ None
  from_bodies [] i h = refl
  from_bodies (t ∷ tables) i h =
      let here : i + 0 ≡ i = omega arith in
      from_neither (body_fault P s i t) (bodies_fault P s tables (i + 1))
      (subst (λ n. body_fault P s n t ≡ None) here (h 0 (omega arith)))
      (from_bodies tables (i + 1) (λ k lt. let next : i + suc k ≡ (i + 1) + k = omega arith in subst (λ n. body_fault P s n (slice_index_or tables k []) ≡ None) next (h (suc k) (omega (arith, lt)))))

  -- what is sent
  sent_all : (tables : List (List (Option Env))) (i k : ℕ) (x : ℕ × Qualifier) → IsSent x (body_sends P (i + k) (slice_index_or tables k [])) → k < length tables → IsSent x (all_sends P tables i)
  sent_all [] i k x m lt = absurd (omega (arith, lt))
  sent_all (t ∷ tables) i zero x m lt = let here : i + 0 ≡ i = omega arith in sent_left x (body_sends P i t) (all_sends P tables (i + 1)) (subst (λ n. IsSent x (body_sends P n t)) here m)
  sent_all (t ∷ tables) i (suc k) x m lt =
      let next : i + suc k ≡ (i + 1) + k = omega arith in
      sent_right x (body_sends P i t) (all_sends P tables (i + 1)) (sent_all tables (i + 1) k x (subst (λ n. IsSent x (body_sends P n (slice_index_or tables k []))) next m) (omega (arith, lt)))

  record SentFrom (tables : List (List (Option Env))) (i : ℕ) (x : ℕ × Qualifier) : Type 0 where
    pub k : ℕ
    pub sent : IsSent x (body_sends P (i + k) (slice_index_or tables k []))

  all_sent : (tables : List (List (Option Env))) (i : ℕ) (x : ℕ × Qualifier) → IsSent x (all_sends P tables i) → SentFrom tables i x
  all_sent [] i x m = absurd m
  all_sent (t ∷ tables) i x m = ⊎_elim
      (λ h. let here : i ≡ i + 0 = omega arith in record { k = 0; sent = subst (λ n. IsSent x (body_sends P n t)) here h })
      (λ h. let r = all_sent tables (i + 1) x h in let k = r.k in let next : (i + 1) + k ≡ i + suc k = omega arith in record { k = suc r.k; sent = subst (λ n. IsSent x (body_sends P n (slice_index_or tables r.k []))) next r.sent })
      (sent_cases x (body_sends P i t) (all_sends P tables (i + 1)) m)

  -- what a method sends is among what those that override send, and all of this is sent by some method
  listed_sends : (ms : List ℕ) (i : ℕ) (x : ℕ × Qualifier) → i < length ms → IsSent x (pair_sends P s (slice_index_or ms i 0)) → IsSent x (flat_map (pair_sends P s) ms)
  listed_sends [] i x lt h = absurd (omega (arith, lt))
  listed_sends (m ∷ ms) zero x lt h = sent_left x (pair_sends P s m) (flat_map (pair_sends P s) ms) h
  listed_sends (m ∷ ms) (suc i) x lt h = sent_right x (pair_sends P s m) (flat_map (pair_sends P s) ms) (listed_sends ms i x (omega (arith, lt)) h)

  method_sends : (m : ℕ) (x : ℕ × Qualifier) → IsSent x (pair_sends P s m) → IsSent x (overriding_sends P s)
  method_sends m x h = by (task_of P s m x h)
    where
      by : TaskOf P m → IsSent x (overriding_sends P s)
      by r = ⊎_elim
          (λ lt. absurd (let low = lt-ltb r.task (length P.bodies) lt in let behind = r.behind in cc))
          (λ le. let inside = r.inside in listed_sends (overriders P) (r.task - length P.bodies) x (omega (arith, inside, le)) (subst (λ k. IsSent x (pair_sends P s k)) (sym r.method) h))
          (cases_lt r.task (length P.bodies))

  record SentByMethod (x : ℕ × Qualifier) : Type 0 where
    pub method : ℕ
    pub sent : IsSent x (pair_sends P s method)

  methods_sent : (ms : List ℕ) (x : ℕ × Qualifier) → IsSent x (flat_map (pair_sends P s) ms) → SentByMethod x
  methods_sent [] x h = absurd h
  methods_sent (m ∷ ms) x h = ⊎_elim (λ a. record { method = m; sent = a }) (λ b. methods_sent ms x b) (sent_cases x (pair_sends P s m) (flat_map (pair_sends P s) ms) h)

  noted_stays : (k : ℕ) (xs : List (ℕ × Qualifier)) → note_all s (Some k) xs ≡ None → ⊥
  noted_stays k [] h = cc
  noted_stays k (x ∷ xs) h = go (within x.1 (slice_index_or s x.0 no_qual)) (λ n. noted_stays n xs) h
    where
      go : (t : Bool) → ((n : ℕ) → note_all s (Some n) xs ≡ None → ⊥) → note_all s (cond t (Some k) (lesser (Some k) x.0)) xs ≡ None → ⊥
      go true f h = f k h
      go false f h = f (min k x.0) h

  none_noted : (xs : List (ℕ × Qualifier)) (x : ℕ × Qualifier) → note_all s None xs ≡ None → IsSent x xs → IsTrue (within x.1 (slice_index_or s x.0 no_qual))
  none_noted [] x h m = absurd m
  none_noted (y ∷ xs) x h m = go (within y.1 (slice_index_or s y.0 no_qual)) refl (none_noted xs x) h m
    where
      go : (t : Bool) → within y.1 (slice_index_or s y.0 no_qual) ≡ t → (note_all s None xs ≡ None → IsSent x xs → IsTrue (within x.1 (slice_index_or s x.0 no_qual))) → note_all s (cond t None (lesser None y.0)) xs ≡ None → IsSent x (y ∷ xs) → IsTrue (within x.1 (slice_index_or s x.0 no_qual))
      go true e f h (inl is) = subst (λ (z : ℕ × Qualifier). IsTrue (within z.1 (slice_index_or s z.0 no_qual))) (sym is) e
      go true e f h (inr m) = f h m
      go false e f h m = absurd (noted_stays y.0 xs h)

  from_noted : (xs : List (ℕ × Qualifier)) → ((x : ℕ × Qualifier) → IsSent x xs → IsTrue (within x.1 (slice_index_or s x.0 no_qual))) → note_all s None xs ≡ None
  from_noted [] h = refl
  from_noted (y ∷ xs) h = subst (λ t. note_all s (cond t None (lesser None y.0)) xs ≡ None) (sym (h y (inl refl))) (from_noted xs (λ x m. h x (inr m)))

  not_open : (n : Option ℕ) → open_fault n ≡ None → n ≡ None
  not_open None h = refl
  not_open (Some n) h = cc

  head_in : (row : Row) (rows : List Row) → Contains (row ∷ rows) row
  head_in row rows = (0, omega arith, refl)

  nothing_in : (row : Row) → Contains [] row → ⊥
  nothing_in row c = let lt = c.1 in omega (arith, lt)

  -- rows in order are none exactly where there are none
  ordered_none : (rows ordered : List Row) → IsOrderOf rows ordered → ordered ≡ [] → rows ≡ []
  ordered_none [] ordered is e = refl
  ordered_none (row ∷ rows) ordered is e = absurd (nothing_in row (subst (λ os. Contains os row) e ((is.same row).1 (head_in row rows))))

  none_ordered : (rows ordered : List Row) → IsOrderOf rows ordered → rows ≡ [] → ordered ≡ []
  none_ordered rows [] is e = refl
  none_ordered rows (row ∷ ordered) is e = absurd (nothing_in row (subst (λ os. Contains os row) e ((is.same row).0 (head_in row ordered))))

  module _ (tables : List (List (Option Env))) (parts : AreParts P s tables) where
    pub none_fails : IsFirstFault P s tables None → AllOk P s tables
    none_fails is = by (first_fault P s tables) refl is
      where
        noted : first_fault P s tables ≡ None → (x : ℕ × Qualifier) → IsSent x (every_send P s tables) → IsTrue (within x.1 (slice_index_or s x.0 no_qual))
        noted first x m =
            let all = neither (slots_fault P s P.slots 0) (or_else (bodies_fault P s tables 0) (open_fault (note_all s None (every_send P s tables)))) first in
            let rest = neither (bodies_fault P s tables 0) (open_fault (note_all s None (every_send P s tables))) all.1 in
            none_noted (every_send P s tables) x (not_open (note_all s None (every_send P s tables)) rest.1) m

        body_sent : first_fault P s tables ≡ None → (n b p : ℕ) (pt : Point) (e : Env) → point_at P b p ≡ Some pt → env_in (slice_index_or tables b []) p ≡ Some e → (q : Qualifier) → IsSent (n, q) (kind_sends P b e pt.kind) → IsTrue (within q (slice_index_or s n no_qual))
        body_sent first n b p pt e at reached q m =
            let t = slice_index_or tables b [] in
            let mine = of_the_body P b t (n, q) (record { place = p; point = pt; env = e; there = at; reached = reached; sent = m }) in
            let low : b < length tables = inside tables b p e reached in
            let here : b ≡ 0 + b = omega arith in
            noted first (n, q) (sent_left (n, q) (all_sends P tables 0) (overriding_sends P s) (sent_all tables 0 b (n, q) (subst (λ k. IsSent (n, q) (body_sends P k t)) here mine) low))
          where
            inside : (ts : List (List (Option Env))) (b p : ℕ) (e : Env) → env_in (slice_index_or ts b []) p ≡ Some e → b < length ts
            inside [] b p e h = absurd cc
            inside (t ∷ ts) zero p e h = omega arith
            inside (t ∷ ts) (suc b) p e h = let lt = inside ts b p e h in omega (arith, lt)

        sent : first_fault P s tables ≡ None → (n : ℕ) → SentOk P s tables n
        sent first n = record {
          bodies = λ b p pt e at reached q m. body_sent first n b p pt e at reached q m;
          pairs = λ m q h. noted first (n, q) (sent_right (n, q) (all_sends P tables 0) (overriding_sends P s) (method_sends m (n, q) h));
        }

        by : (first : Option CertFault) → first_fault P s tables ≡ first → IsFoundAfter P s first None → AllOk P s tables
        by (Some f) e h = absurd (let k : None ≡ Some f = h in cc)
        by None e h =
            let all = neither (slots_fault P s P.slots 0) (or_else (bodies_fault P s tables 0) (open_fault (note_all s None (every_send P s tables)))) e in
            let rest = neither (bodies_fault P s tables 0) (open_fault (note_all s None (every_send P s tables))) all.1 in
            record {
              slots = λ k lt. let x = there P.slots k lt in let here : 0 + k ≡ k = omega arith in slot_is_ok k x.0 x.1 (subst (λ n. slot_keeps P s n x.0 ≡ true) here (slots_pass P.slots 0 k x.0 all.0 x.1));
              bodies = λ b lt. let here : 0 + b ≡ b = omega arith in body_pass b (slice_index_or tables b []) (subst (λ n. body_fault P s n (slice_index_or tables b []) ≡ None) here (bodies_pass tables 0 b (subst (λ n. b < n) (sym parts.bodies) lt) rest.0));
              sent = sent e;
              pairs = ordered_none (pairs_rows P s) h.0 h.1 (no_row h.0 (sym h.2));
            }

    -- and where the claim holds, nothing is found
    pub all_found : AllOk P s tables → (found : Option CertFault) → IsFirstFault P s tables found → found ≡ None
    all_found a found is = by (first_fault P s tables) none is
      where
        none : first_fault P s tables ≡ None
        none = from_neither (slots_fault P s P.slots 0) (or_else (bodies_fault P s tables 0) (open_fault (note_all s None (every_send P s tables))))
            (from_slots P.slots 0 (λ k info at. let here : k ≡ 0 + k = omega arith in subst (λ n. slot_keeps P s n info ≡ true) here (slot_is_kept k info at (a.slots k (slice_get_within P.slots k info at)))))
            (from_neither (bodies_fault P s tables 0) (open_fault (note_all s None (every_send P s tables)))
            (from_bodies tables 0 (λ k lt. let here : k ≡ 0 + k = omega arith in subst (λ n. body_fault P s n (slice_index_or tables k []) ≡ None) here (from_body k (slice_index_or tables k []) (a.bodies k (subst (λ n. k < n) parts.bodies lt)))))
            (ap open_fault (from_noted (every_send P s tables) (λ x m. ⊎_elim (λ h. of_body x h) (λ h. of_method x h) (sent_cases x (all_sends P tables 0) (overriding_sends P s) m)))))
          where
            of_body : (x : ℕ × Qualifier) → IsSent x (all_sends P tables 0) → IsTrue (within x.1 (slice_index_or s x.0 no_qual))
            of_body x m =
                let r = all_sent tables 0 x m in
                let k = r.k in
                let here : 0 + k ≡ k = omega arith in
                let c = of_a_point P r.k (slice_index_or tables r.k []) x (subst (λ n. IsSent x (body_sends P n (slice_index_or tables r.k []))) here r.sent) in
                (a.sent x.0).bodies r.k c.place c.point c.env c.there c.reached x.1 c.sent

            of_method : (x : ℕ × Qualifier) → IsSent x (overriding_sends P s) → IsTrue (within x.1 (slice_index_or s x.0 no_qual))
            of_method x m = let r = methods_sent (overriders P) x m in (a.sent x.0).pairs r.method x.1 r.sent

        by : (first : Option CertFault) → first ≡ None → IsFoundAfter P s first found → found ≡ None
        by (Some f) e h = cc
        by None e h = h.2 ∙ from_no_row h.0 (none_ordered (pairs_rows P s) h.0 h.1 a.pairs)
