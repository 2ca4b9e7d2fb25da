-- The least words hold the least signature.
use Rattle.std.proofs.Common.{◌≡◌, ◌⊎◌, inl, inr, ⊎_elim, Bool, true, false, cond, ℕ, zero, suc, ◌+◌, ◌*◌, ◌/◌, ◌%◌, ◌<◌, ◌≤◌, List, [], ◌∷◌, length, map, get_or, Some, None, refl, sym, ap, ◌∙◌, subst, arith}
use Rattle.std.specs.Prelude.{IsTrue, replicate, slice_get, slice_index, slice_index_or, slice_set}
use Rattle.std.specs.List.{range_with_len}
use Rattle.std.proofs.lemmas.Bool.{cases_lt, ltb-true}
use Rattle.std.proofs.lemmas.List.{get_or_past}
use Rattle.std.proofs.lemmas.List.FromFn.{get_or-map-range_with_len, length-map-range_with_len}
use Rattle.jn_quals.specs.Qualifier.{Qualifier}
use Rattle.jn_quals.specs.Order.{no_qual, within}
use Rattle.jn_quals.specs.Word.{unpack, pack}
use Rattle.jn_quals.proofs.Order.{nothing_within, within_antisym}
use Rattle.jn_points.specs.declared.point.Point.{Point}
use Rattle.jn_points.specs.declared.program.Body.{Body}
use Rattle.jn_points.specs.declared.program.Program.{Program}
use Rattle.jn_points.specs.Lookup.{body_at, points_of}
use Rattle.jn_sigs.specs.Packed.{ArePacked, at_slot, unpacked}
use Rattle.jn_sigs.specs.Signature.{start_signature}
use Rattle.jn_sigs.proofs.Starts.{length-starts_from}
use Rattle.jn_sigs.proofs.Slots.{length-unpacked, unpacked-at}
use Rattle.jn_env.specs.Order.{QualsWithin, Table, env_in}
use Rattle.jn_env.proofs.Order.{quals_at, quals_refl}
use Rattle.jn_transfer.specs.Contributions.{IsSent}
use Rattle.jn_transfer.specs.Least.{IsLeastTable, all_edges, flow_all}
use Rattle.jn_transfer.specs.Transfer.{entry_env}
use Rattle.jn_contrib.proofs.Sent.{of_a_point, of_the_body}
use Rattle.jn_sigtable.specs.System.{IsClosed as IsClosedWords, Within, Covers, bits_for, least}
use Rattle.jn_sigtable.proofs.LeastWords.{least_is_least}
use Rattle.jn_inference_law.specs.Packing.{packed}
use Rattle.jn_inference_law.proofs.PackingLaws.{SendsWithin, SentBelow, packed_has, packed_sends, packed_within, within_packed}
use Rattle.jn_inference_law.specs.Inference.{inference, words_for}
use Rattle.jn_tables_law.specs.Inferable.{least_sends, least_table, IsInferable}
use Rattle.jn_tables_law.specs.Tasks.{task_count, task_method, is_body_task, task_sends}
use Rattle.jn_inference_law.proofs.PairLaws.{pairs_below, pairs_inside}
use Rattle.jn_tables_law.proofs.TaskNumbers.{body_task, pair_task, task_of}
use Rattle.jn_inference_law.proofs.InferenceLaws.{inference_lawful, quals_within, sent_below, sent_inside}
use Rattle.jn_tables_law.proofs.LeastTables.{least_is, least_sends_is, table_of-at, tables_least, tables_of}
use Rattle.jn_transfer.specs.Pairs.{pair_sends}
use Rattle.jn_transfer.specs.Closing.{IsClosed}
use Rattle.jn_inference_law.specs.Solution.{IsLeastSignature}
use Rattle.jn_inference_law.proofs.WordsOf.{words_of, length-words_of, words_of-at, words_of-unpacked, word_within}

-- sends that go to words below n, where the words below n have what is packed
sends_below : (n : ℕ) (xs : List (ℕ × Qualifier)) (V W : ℕ → ℕ) → SentBelow n xs → ((v : ℕ) → v < n → V v ≡ W v) → SendsWithin xs V → SendsWithin xs W
sends_below n [] V W low e h = tt
sends_below n (x ∷ xs) V W low e h = (subst (Within (pack 0 (x.0 % 21) x.1)) (e (x.0 / 21) low.0) h.0, sends_below n xs V W low.1 e h.1)

sends_of : (n : ℕ) (xs : List (ℕ × Qualifier)) (W : ℕ → ℕ) → SentBelow n xs → ((v : ℕ) → v < n → Within (bits_for (packed xs) v) (W v)) → SendsWithin xs W
sends_of n xs W low h = sends_below n xs (λ v. pick v (cases_lt v n)) W low (λ v lt. picked v lt (cases_lt v n)) (packed_sends xs (λ v. pick v (cases_lt v n)) (λ v. has v (cases_lt v n)))
  where
    pick : (v : ℕ) → (v < n) ⊎ (n ≤ v) → ℕ
    pick v (inl lt) = W v
    pick v (inr le) = bits_for (packed xs) v

    picked : (v : ℕ) → v < n → (c : (v < n) ⊎ (n ≤ v)) → pick v c ≡ W v
    picked v lt (inl c) = refl
    picked v lt (inr le) = absurd (omega (arith, lt, le))

    has : (v : ℕ) (c : (v < n) ⊎ (n ≤ v)) → Within (bits_for (packed xs) v) (pick v c)
    has v (inl lt) = h v lt
    has v (inr le) = λ i. omega arith

sent_within : (xs : List (ℕ × Qualifier)) (words : List ℕ) (x : ℕ × Qualifier) → SendsWithin xs (slice_index words) → IsSent x xs → IsTrue (within x.1 (at_slot words x.0))
sent_within [] words x h m = absurd m
sent_within (y ∷ xs) words x h (inl e) = subst (λ (z : ℕ × Qualifier). IsTrue (within z.1 (at_slot words z.0))) (sym e) (within_packed (y.0 % 21) (slice_index words (y.0 / 21)) y.1 h.0)
sent_within (y ∷ xs) words x h (inr m) = sent_within xs words x h.1 m

pub within_sent : (xs : List (ℕ × Qualifier)) (words : List ℕ) → ((x : ℕ × Qualifier) → IsSent x xs → IsTrue (within x.1 (at_slot words x.0))) → SendsWithin xs (slice_index words)
within_sent [] words h = tt
within_sent (x ∷ xs) words h = (packed_within (x.0 % 21) (slice_index words (x.0 / 21)) x.1 (h x (inl refl)), within_sent xs words (λ y m. h y (inr m)))

body_inside : (b p : ℕ) (bodies : List Body) (pt : Point) → slice_get (points_of (slice_get bodies b)) p ≡ Some pt → b < length bodies
body_inside b p [] pt e = absurd cc
body_inside zero p (x ∷ bodies) pt e = omega arith
body_inside (suc b) p (x ∷ bodies) pt e = let h = body_inside b p bodies pt e in omega (arith, h)

quals_length : (s t : List Qualifier) → QualsWithin s t → length t ≡ length s
quals_length [] [] w = refl
quals_length [] (q ∷ t) w = absurd w
quals_length (p ∷ s) [] w = absurd w
quals_length (p ∷ s) (q ∷ t) w = ap suc (quals_length s t w.1)

quals_antisym : (s t : List Qualifier) → QualsWithin s t → QualsWithin t s → s ≡ t
quals_antisym [] [] v w = refl
quals_antisym [] (q ∷ t) v w = absurd v
quals_antisym (p ∷ s) [] v w = absurd v
quals_antisym (p ∷ s) (q ∷ t) v w =
    let a = within_antisym p q v.0 w.0 in
    let r = quals_antisym s t v.1 w.1 in
    (λ i. a i ∷ r i)

-- there is one least signature
pub least_unique : (P : Program) (s t : List Qualifier) → IsLeastSignature P s → IsLeastSignature P t → s ≡ t
least_unique P s t is it = quals_antisym s t (is.least t it.closed it.starts) (it.least s is.closed is.starts)

-- where there are no tasks it is the start
pub least_start : (P : Program) (s : List Qualifier) → task_count P ≡ 0 → s ≡ start_signature P → IsLeastSignature P s
least_start P s none e = record {
  closed = record {
    bodies = λ tables tl b p pt env at reached x m. let lt = body_inside b p P.bodies pt at in absurd (omega (arith, lt, none));
    pairs = λ m x sent. let t = task_of P s m x sent in let lt = t.inside in absurd (omega (arith, lt, none));
  };
  starts = subst (QualsWithin (start_signature P)) (sym e) (quals_refl (start_signature P));
  least = λ t closed w. subst (λ (u : List Qualifier). QualsWithin u t) (sym e) w;
}

module _ (P : Program) (can : IsInferable P) where
  -- closed words hold a closed signature
  module _ (words : List ℕ) (is : IsClosedWords (inference P) words) where
    abbrev held : List Qualifier
    held = unpacked words (length P.slots)

    sent_stands : (t : ℕ) → t < task_count P → (xs : List (ℕ × Qualifier)) → task_sends P held t ≡ xs → SentBelow (words_for (length P.slots)) xs → (x : ℕ × Qualifier) → x.0 < length P.slots → IsSent x xs → IsTrue (within x.1 (slice_index_or held x.0 no_qual))
    sent_stands t lt xs same low x inside m =
        let all = sends_of (words_for (length P.slots)) xs (slice_index words) low (subst (λ (ys : List (ℕ × Qualifier)). (v : ℕ) → v < words_for (length P.slots) → Within (bits_for (packed ys) v) (slice_index words v)) same (is.closed t lt)) in
        let h = sent_within xs words x all m in
        subst (λ (q : Qualifier). IsTrue (within x.1 q)) (sym (unpacked-at words (length P.slots) x.0 inside)) h

    closed_signature : IsClosed P held
    closed_signature = record {
      bodies = λ tables tl b p pt e at reached x m.
          let lt = body_inside b p P.bodies pt at in
          let T = slice_index_or tables b [] in
          let sent = of_the_body P b T x (record { place = p; point = pt; env = e; there = at; reached = reached; sent = m }) in
          let mine = subst (IsSent x) (sym (least_sends_is P held b T (can.inside b lt) (tl b))) sent in
          sent_stands b (omega (arith, lt)) (least_sends P held b) (body_task P held b lt) (sent_below P held b) x (sent_inside P held b x mine) mine;
      pairs = λ m x sent.
          let t = task_of P held m x sent in
          sent_stands t.task t.inside (pair_sends P held m) (pair_task P held t.task t.behind ∙ ap (pair_sends P held) t.method) (pairs_below P held m) x (pairs_inside P held m x sent) sent;
    }

  -- and a closed signature stands in closed words
  module _ (t : List Qualifier) (long : length t ≡ length P.slots) where
    view : unpacked (words_of t) (length P.slots) ≡ t
    view = ap (unpacked (words_of t)) (sym long) ∙ words_of-unpacked t

    module _ (c : IsClosed P t) where
      closed_send : (b : ℕ) → b < length P.bodies → (x : ℕ × Qualifier) → IsSent x (least_sends P t b) → IsTrue (within x.1 (at_slot (words_of t) x.0))
      closed_send b lt x m =
          let T = least_table P t b in
          let h = of_a_point P b T x (subst (IsSent x) (least_sends_is P t b T (can.inside b lt) (least_is P t b (can.inside b lt))) m) in
          let reached : env_in (slice_index_or (tables_of P can t) b []) h.place ≡ Some h.env = ap (λ (u : Table). env_in u h.place) (table_of-at P can t b lt) ∙ h.reached in
          let k : IsTrue (within x.1 (slice_index_or t x.0 no_qual)) = c.bodies (tables_of P can t) (tables_least P can t) b h.place h.point h.env h.there reached x h.sent in
          let there : x.0 < length t = let i = sent_inside P t b x m in omega (arith, i, long) in
          subst (λ (q : Qualifier). IsTrue (within x.1 q)) (sym (words_of-at t x.0 there)) k

      closed_pair : (m : ℕ) (x : ℕ × Qualifier) → IsSent x (pair_sends P t m) → IsTrue (within x.1 (at_slot (words_of t) x.0))
      closed_pair m x h =
          let there : x.0 < length t = let i = pairs_inside P t m x h in omega (arith, i, long) in
          subst (λ (q : Qualifier). IsTrue (within x.1 q)) (sym (words_of-at t x.0 there)) (c.pairs m x h)

      closed_task : (n : ℕ) (x : ℕ × Qualifier) → IsSent x (task_sends P t n) → IsTrue (within x.1 (at_slot (words_of t) x.0))
      closed_task n x = by (is_body_task P n) refl
        where
          by : (d : Bool) → is_body_task P n ≡ d → IsSent x (cond d (least_sends P t n) (pair_sends P t (task_method P n))) → IsTrue (within x.1 (at_slot (words_of t) x.0))
          by true e m = closed_send n (ltb-true n (length P.bodies) e) x m
          by false e m = closed_pair (task_method P n) x m

      closed_words : IsClosedWords (inference P) (words_of t)
      closed_words = record {
        count = length-words_of t ∙ ap words_for long;
        closed = λ n lt w _. subst (λ (u : List Qualifier). Within (bits_for (packed (task_sends P u n)) w) (slice_index (words_of t) w)) (sym view)
            (packed_has (task_sends P t n) (slice_index (words_of t)) (within_sent (task_sends P t n) (words_of t) (closed_task n)) w);
      }

  module _ (start : List ℕ) (packed_start : ArePacked start (length P.slots)) (starts : unpacked start (length P.slots) ≡ start_signature P) where
    pub start_covered : (t : List Qualifier) → length t ≡ length P.slots → QualsWithin (start_signature P) t → Covers (words_for (length P.slots)) start (words_of t)
    start_covered t long w v lt = word_within (slice_index start v) (slice_index (words_of t) v) (packed_start.top v) (λ j low. at_index j low)
      where
        slot_within : (i : ℕ) → IsTrue (within (at_slot start i) (at_slot (words_of t) i))
        slot_within i = ⊎_elim
            (λ (below : i < length P.slots).
            let a : at_slot start i ≡ get_or (start_signature P) i no_qual = sym (unpacked-at start (length P.slots) i below) ∙ ap (λ (u : List Qualifier). get_or u i no_qual) starts in
            let c = words_of-at t i (let h = below in omega (arith, h, long)) in
            let q : IsTrue (within (get_or (start_signature P) i no_qual) (get_or t i no_qual)) = quals_at (start_signature P) t i w in
            subst (λ (z : Qualifier). IsTrue (within z (at_slot (words_of t) i))) (sym a) (subst (λ (z : Qualifier). IsTrue (within (get_or (start_signature P) i no_qual) z)) (sym c) q))
            (λ (past : length P.slots ≤ i). subst (λ (z : Qualifier). IsTrue (within z (at_slot (words_of t) i))) (sym (packed_start.empty i past)) (nothing_within (at_slot (words_of t) i)))
            (cases_lt i (length P.slots))

        at_index : (j : ℕ) → j < 21 → IsTrue (within (unpack (slice_index start v) j) (unpack (slice_index (words_of t) v) j))
        at_index j low =
            let d : (21 * v + j) / 21 ≡ v = omega (arith, low) in
            let r : (21 * v + j) % 21 ≡ j = omega (arith, low) in
            let e : (words : List ℕ) → at_slot words (21 * v + j) ≡ unpack (slice_index words v) j = λ words i. unpack (slice_index words (d i)) (r i) in
            subst (λ (z : Qualifier). IsTrue (within z (unpack (slice_index (words_of t) v) j))) (e start) (subst (λ (z : Qualifier). IsTrue (within (at_slot start (21 * v + j)) z)) (e (words_of t)) (slot_within (21 * v + j)))

    pub least_signature : IsLeastSignature P (unpacked (least (inference P) start) (length P.slots))
    least_signature =
        let is = least_is_least (inference P) (inference_lawful P can) start packed_start.enough (λ w. let h = packed_start.top w in omega (arith, h)) in
        let words = least (inference P) start in
        record {
          closed = closed_signature words is.closed;
          starts = subst (λ (u : List Qualifier). QualsWithin u (unpacked words (length P.slots))) starts (quals_within start words (length P.slots) is.above);
          least = λ t c w.
              let long : length t ≡ length P.slots = quals_length (start_signature P) t w ∙ ap length (sym starts) ∙ length-unpacked start (length P.slots) in
              subst (QualsWithin (unpacked words (length P.slots))) (view t long) (quals_within words (words_of t) (length P.slots) (is.below (words_of t) (closed_words t long c) (start_covered t long w)));
        }

    -- the words that are found are as many as there are
    pub found_count : (Q : Program) (words : List ℕ) → Q ≡ P → words ≡ least (inference Q) start → length words ≡ words_for (length P.slots)
    found_count Q words e f =
        let is = least_is_least (inference P) (inference_lawful P can) start packed_start.enough (λ w. let h = packed_start.top w in omega (arith, h)) in
        ap (λ (ws : List ℕ). length ws) f ∙ ap (λ (R : Program). length (least (inference R) start)) e ∙ is.closed.count

    -- and a signature that holds them is the least one
    pub found_signature : (Q : Program) (words : List ℕ) (sig : List Qualifier) → Q ≡ P → words ≡ least (inference Q) start → sig ≡ unpacked words (length P.slots) → IsLeastSignature P sig
    found_signature Q words sig e f g = subst (IsLeastSignature P) (sym (g ∙ ap (λ (ws : List ℕ). unpacked ws (length P.slots)) (f ∙ ap (λ (R : Program). least (inference R) start) e))) least_signature

pub length-start : (P : Program) → length (start_signature P) ≡ length P.slots
length-start P = length-starts_from P 0 P.slots
