-- The least signature by rounds: all that is sent is added, until nothing changes.
use Rattle.std.proofs.Common.{◌≡◌, ℕ, zero, suc, ◌*◌, ◌<◌, ◌≤◌, true, ◌⊎◌, inl, inr, ⊎_elim, List, [], ◌∷◌, ◌++◌, length, Option, Some, None, refl, sym, ap, ◌∙◌, subst, arith, length-set}
use Rattle.std.specs.Prelude.{IsTrue, slice_get, slice_index_or}
use Rattle.jn_fixpoint.specs.Climb.{rounds, Climb}
use Rattle.jn_fixpoint.proofs.Fixpoint.{exists, rounds_above}
use Rattle.jn_quals.specs.Qualifier.{Qualifier}
use Rattle.jn_quals.specs.Order.{no_qual, join, within}
use Rattle.jn_quals.proofs.Order.{within_join_left, within_join_right, within_join_least, within_trans}
use Rattle.jn_points.specs.declared.point.Point.{Point}
use Rattle.jn_points.specs.declared.program.Body.{Body}
use Rattle.jn_points.specs.declared.program.Program.{Program}
use Rattle.jn_points.specs.Lookup.{point_at, points_of}
use Rattle.jn_sigs.specs.Packed.{raised}
use Rattle.jn_sigs.specs.Signature.{start_signature}
use Rattle.jn_sigs.proofs.Starts.{length-starts_from}
use Rattle.jn_env.specs.Environment.{Env}
use Rattle.jn_env.specs.Order.{QualsWithin}
use Rattle.jn_env.specs.Weight.{quals_weight}
use Rattle.jn_env.proofs.Order.{quals_at, quals_refl, quals_trans}
use Rattle.jn_env.proofs.Weight.{quals_bounded, slot_grows}
use Rattle.jn_transfer.specs.Closing.{IsClosed, IsClosedUnderBodies}
use Rattle.jn_transfer.specs.Contributions.{IsSent}
use Rattle.jn_transfer.specs.Pairs.{pair_sends}
use Rattle.jn_contrib.proofs.Sent.{of_the_body}
use Rattle.jn_tables_law.specs.Inferable.{IsInferable}
use Rattle.jn_tables_law.specs.Tasks.{task_count, task_sends}
use Rattle.jn_tables_law.proofs.LeastTables.{sends_are}
use Rattle.jn_inference_law.proofs.InferenceLaws.{sent_inside}
use Rattle.jn_inference_law.proofs.PairLaws.{pairs_inside}
use Rattle.jn_tables_law.proofs.TaskNumbers.{body_task, pair_task, task_of}
use Rattle.jn_reasons_law.specs.declared.item.Bit.{Bit}
use Rattle.jn_reasons_law.specs.Items.{on}
use Rattle.jn_reasons_law.proofs.Bits.{on_join, on_set}
use Rattle.jn_reasons_law.proofs.Sendings.{sent_cases, sent_left, sent_right}

abbrev pub raise_all : List (ℕ × Qualifier) → List Qualifier → List Qualifier
raise_all [] t = t
raise_all (x ∷ xs) t = raise_all xs (raised t x.0 x.1)

raised_above : (t : List Qualifier) (i : ℕ) (q : Qualifier) → QualsWithin t (raised t i q)
raised_above [] i q = tt
raised_above (x ∷ t) zero q = (within_join_left x q, quals_refl t)
raised_above (x ∷ t) (suc i) q = (IsTrue_refl x, raised_above t i q)
  where
    IsTrue_refl : (a : Qualifier) → IsTrue (within a a)
    IsTrue_refl a = (quals_refl (a ∷ [])).0

raised_has : (t : List Qualifier) (i : ℕ) (q : Qualifier) → i < length t → IsTrue (within q (slice_index_or (raised t i q) i no_qual))
raised_has [] i q lt = absurd (omega (arith, lt))
raised_has (x ∷ t) zero q lt = within_join_right x q
raised_has (x ∷ t) (suc i) q lt = raised_has t i q (omega (arith, lt))

-- within what is above both
raised_least : (t u : List Qualifier) (i : ℕ) (q : Qualifier) → QualsWithin t u → IsTrue (within q (slice_index_or u i no_qual)) → QualsWithin (raised t i q) u
raised_least [] [] i q w h = tt
raised_least [] (y ∷ u) i q w h = absurd w
raised_least (x ∷ t) [] i q w h = absurd w
raised_least (x ∷ t) (y ∷ u) zero q w h = (within_join_least x q y w.0 h, w.1)
raised_least (x ∷ t) (y ∷ u) (suc i) q w h = (w.0, raised_least t u i q w.1 h)

pub raise_all_length : (xs : List (ℕ × Qualifier)) (t : List Qualifier) → length (raise_all xs t) ≡ length t
raise_all_length [] t = refl
raise_all_length (x ∷ xs) t = raise_all_length xs (raised t x.0 x.1) ∙ length-set t x.0 (join (slice_index_or t x.0 no_qual) x.1)

raise_all_above : (xs : List (ℕ × Qualifier)) (t : List Qualifier) → QualsWithin t (raise_all xs t)
raise_all_above [] t = quals_refl t
raise_all_above (x ∷ xs) t = quals_trans t (raised t x.0 x.1) (raise_all xs (raised t x.0 x.1)) (raised_above t x.0 x.1) (raise_all_above xs (raised t x.0 x.1))

raise_all_has : (xs : List (ℕ × Qualifier)) (t : List Qualifier) (x : ℕ × Qualifier) → IsSent x xs → x.0 < length t → IsTrue (within x.1 (slice_index_or (raise_all xs t) x.0 no_qual))
raise_all_has [] t x m lt = absurd m
raise_all_has (y ∷ xs) t x (inl e) lt =
    subst (λ (z : ℕ × Qualifier). IsTrue (within z.1 (slice_index_or (raise_all xs (raised t y.0 y.1)) z.0 no_qual))) (sym e)
    (within_trans y.1 (slice_index_or (raised t y.0 y.1) y.0 no_qual) (slice_index_or (raise_all xs (raised t y.0 y.1)) y.0 no_qual)
    (raised_has t y.0 y.1 (subst (λ (z : ℕ × Qualifier). z.0 < length t) e lt))
    (quals_at (raised t y.0 y.1) (raise_all xs (raised t y.0 y.1)) y.0 (raise_all_above xs (raised t y.0 y.1))))
raise_all_has (y ∷ xs) t x (inr m) lt = raise_all_has xs (raised t y.0 y.1) x m (let l = length-set t y.0 (join (slice_index_or t y.0 no_qual) y.1) in omega (arith, lt, l))

pub raise_all_least : (xs : List (ℕ × Qualifier)) (t u : List Qualifier) → QualsWithin t u → ((x : ℕ × Qualifier) → IsSent x xs → IsTrue (within x.1 (slice_index_or u x.0 no_qual))) → QualsWithin (raise_all xs t) u
raise_all_least [] t u w h = w
raise_all_least (x ∷ xs) t u w h = raise_all_least xs (raised t x.0 x.1) u (raised_least t u x.0 x.1 w (h x (inl refl))) (λ y m. h y (inr m))

-- what holds of the bits of a signature, and of those of what is sent, holds of those of both
module _ (Q : ℕ → Bit → Type 0) where
  abbrev pub Each : List Qualifier → Type 0
  Each t = (k : ℕ) (bit : Bit) → on bit (slice_index_or t k no_qual) ≡ true → Q k bit

  raised_each : (t : List Qualifier) (i : ℕ) (q : Qualifier) → Each t → ((bit : Bit) → on bit q ≡ true → Q i bit) → Each (raised t i q)
  raised_each t i q ex new k bit h = ⊎_elim
      (λ a. subst (λ n. Q n bit) a.0 (⊎_elim (λ m. ex i bit m) (λ m. new bit m) (on_join bit (slice_index_or t i no_qual) q a.1)))
      (λ c. ex k bit c.1)
      (on_set bit t i k (join (slice_index_or t i no_qual) q) h)

  pub raise_all_each : (xs : List (ℕ × Qualifier)) (t : List Qualifier) → Each t → ((x : ℕ × Qualifier) → IsSent x xs → (bit : Bit) → on bit x.1 ≡ true → Q x.0 bit) → Each (raise_all xs t)
  raise_all_each [] t ex new = ex
  raise_all_each (x ∷ xs) t ex new = raise_all_each xs (raised t x.0 x.1) (raised_each t x.0 x.1 ex (new x (inl refl))) (λ y m. new y (inr m))

module _ (P : Program) where
  -- what the first n tasks send
  abbrev pub first_sends : ℕ → List Qualifier → List (ℕ × Qualifier)
  first_sends zero t = []
  first_sends (suc n) t = first_sends n t ++ task_sends P t n

  abbrev pub more : List Qualifier → List Qualifier
  more t = raise_all (first_sends (task_count P) t) t

  pub record SentByOne (t : List Qualifier) (n : ℕ) (x : ℕ × Qualifier) : Type 0 where
    pub task : ℕ
    pub below : task < n
    pub sent : IsSent x (task_sends P t task)

  pub by_one : (t : List Qualifier) (n : ℕ) (x : ℕ × Qualifier) → IsSent x (first_sends n t) → SentByOne t n x
  by_one t zero x m = absurd m
  by_one t (suc n) x m = ⊎_elim
      (λ a. let h = by_one t n x a in let lt = h.below in record { task = h.task; below = omega (arith, lt); sent = h.sent })
      (λ a. record { task = n; below = omega arith; sent = a })
      (sent_cases x (first_sends n t) (task_sends P t n) m)

  among_first : (t : List Qualifier) (n b : ℕ) (x : ℕ × Qualifier) → b < n → IsSent x (task_sends P t b) → IsSent x (first_sends n t)
  among_first t zero b x lt m = absurd (omega (arith, lt))
  among_first t (suc n) b x lt m = ⊎_elim
      (λ e. sent_right x (first_sends n t) (task_sends P t n) (subst (λ j. IsSent x (task_sends P t j)) e m))
      (λ l. sent_left x (first_sends n t) (task_sends P t n) (among_first t n b x l m))
      (last b n lt)
    where
      last : (b n : ℕ) → b < suc n → (b ≡ n) ⊎ (b < n)
      last zero zero lt = inl refl
      last zero (suc n) lt = inr (omega arith)
      last (suc b) zero lt = absurd (omega (arith, lt))
      last (suc b) (suc n) lt = ⊎_elim (λ e. inl (ap suc e)) (λ l. inr (omega (arith, l))) (last b n (omega (arith, lt)))

  -- these rounds climb
  abbrev Long : List Qualifier → Type 0
  Long t = length t ≡ length P.slots

  abbrev bare : List Qualifier → Env
  bare t = record { quals = t; facts = []; assigned = [] }

  lighter : (t u : List Qualifier) → QualsWithin t u → quals_weight t ≤ quals_weight u
  lighter t u w = let h = (slot_grows (Some (bare t)) (Some (bare u)) (record { quals = w; facts = tt; assigned = tt })).0 in omega (arith, h)

  equal : (t u : List Qualifier) → QualsWithin t u → quals_weight u ≤ quals_weight t → t ≡ u
  equal t u w le = let h = (slot_grows (Some (bare t)) (Some (bare u)) (record { quals = w; facts = tt; assigned = tt })).1 (omega (arith, le)) in ap quals_in h
    where
      quals_in : Option Env → List Qualifier
      quals_in None = []
      quals_in (Some e) = e.quals

  climb : Climb Long QualsWithin quals_weight (3 * length P.slots) more
  climb = record {
    self = quals_refl;
    chain = quals_trans;
    lighter = lighter;
    equal = equal;
    bounded = λ t l. subst (λ n. quals_weight t ≤ 3 * n) l (quals_bounded t);
    kept = λ t l. raise_all_length (first_sends (task_count P) t) t ∙ l;
    climbs = λ t l. raise_all_above (first_sends (task_count P) t) t;
  }

  pub start_long : length (start_signature P) ≡ length P.slots
  start_long = length-starts_from P 0 P.slots

  abbrev pub last_stage : List Qualifier
  last_stage = rounds more (3 * length P.slots) (start_signature P)

  pub stage_long : (n : ℕ) → length (rounds more n (start_signature P)) ≡ length P.slots
  stage_long zero = start_long
  stage_long (suc n) = raise_all_length (first_sends (task_count P) (rounds more n (start_signature P))) (rounds more n (start_signature P)) ∙ stage_long n

  pub last_starts : QualsWithin (start_signature P) last_stage
  last_starts = rounds_above Long QualsWithin quals_weight (3 * length P.slots) more climb (3 * length P.slots) (start_signature P) start_long

  last_stable : more last_stage ≡ last_stage
  last_stable = (exists Long QualsWithin quals_weight (3 * length P.slots) more climb (start_signature P) start_long).stable

  body_there : (b p : ℕ) (bodies : List Body) (pt : Point) → slice_get (points_of (slice_get bodies b)) p ≡ Some pt → b < length bodies
  body_there b p [] pt e = absurd cc
  body_there zero p (x ∷ bodies) pt e = omega arith
  body_there (suc b) p (x ∷ bodies) pt e = let h = body_there b p bodies pt e in omega (arith, h)

  pub body_of : (b p : ℕ) (pt : Point) → point_at P b p ≡ Some pt → b < length P.bodies
  body_of b p pt e = body_there b p P.bodies pt e

  -- what a task sends is within
  task_within : (n : ℕ) (x : ℕ × Qualifier) → n < task_count P → x.0 < length P.slots → IsSent x (task_sends P last_stage n) → IsTrue (within x.1 (slice_index_or last_stage x.0 no_qual))
  task_within n x lt i m =
      let there : x.0 < length last_stage = let l = stage_long (3 * length P.slots) in omega (arith, i, l) in
      subst (λ (u : List Qualifier). IsTrue (within x.1 (slice_index_or u x.0 no_qual))) last_stable
      (raise_all_has (first_sends (task_count P) last_stage) last_stage x (among_first last_stage (task_count P) n x lt m) there)

  pair_within : (m : ℕ) (x : ℕ × Qualifier) → IsSent x (pair_sends P last_stage m) → IsTrue (within x.1 (slice_index_or last_stage x.0 no_qual))
  pair_within m x h =
      let k = task_of P last_stage m x h in
      let mine = subst (λ (j : ℕ). IsSent x (pair_sends P last_stage j)) (sym k.method) h in
      task_within k.task x k.inside (pairs_inside P last_stage m x h) (subst (IsSent x) (sym (pair_task P last_stage k.task k.behind)) mine)

  bodies_within : IsInferable P → IsClosedUnderBodies P last_stage
  bodies_within can tables tl b p pt e at reached x m =
      let T = slice_index_or tables b [] in
      let body = of_the_body P b T x (record { place = p; point = pt; env = e; there = at; reached = reached; sent = m }) in
      let mine = subst (IsSent x) (sym (sends_are P last_stage b T can (tl b))) body in
      let lt = body_of b p pt at in
      task_within b x (omega (arith, lt)) (sent_inside P last_stage b x mine) (subst (IsSent x) (sym (body_task P last_stage b lt)) mine)

  pub last_closed : IsInferable P → IsClosed P last_stage
  last_closed can = record { bodies = bodies_within can; pairs = pair_within }
