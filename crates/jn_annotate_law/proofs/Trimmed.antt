-- A least signature has no bit that nothing sends: so a slot that isn't inferred keeps what is written. What overriding methods send goes
-- round among slots, so bits are taken from all slots at once.
use Rattle.std.proofs.Common.{◌≡◌, ⊎_elim, ℕ, zero, suc, ◌+◌, ◌<◌, Bool, true, false, cond, List, [], ◌∷◌, length, Some, refl, sym, ap, ◌∙◌, subst, arith}
use Rattle.std.specs.Prelude.{IsTrue, slice_get, slice_index_or}
use Rattle.std.proofs.lemmas.Bool.{false≢true, cases_lt}
use Rattle.jn_quals.specs.Qualifier.{Qualifier}
use Rattle.jn_quals.specs.Order.{no_qual, within}
use Rattle.jn_quals.proofs.Order.{within_refl, within_trans, within_antisym}
use Rattle.jn_points.specs.declared.point.Point.{Point}
use Rattle.jn_points.specs.declared.program.Body.{Body}
use Rattle.jn_points.specs.declared.program.Program.{Program}
use Rattle.jn_points.specs.Lookup.{points_of}
use Rattle.jn_sigs.specs.Signature.{start_signature}
use Rattle.jn_env.specs.Order.{QualsWithin, Table, env_in}
use Rattle.jn_env.proofs.Order.{quals_at}
use Rattle.jn_transfer.specs.Contributions.{IsSent, is_inferred}
use Rattle.jn_transfer.specs.Least.{IsLeastTable}
use Rattle.jn_transfer.specs.Closing.{IsClosed}
use Rattle.jn_transfer.specs.Pairs.{pair_sends}
use Rattle.jn_contrib.proofs.Sent.{of_a_point, of_the_body}
use Rattle.jn_tables_law.proofs.Sends.{sent_above}
use Rattle.jn_tables_law.proofs.Tables.{tables_above}
use Rattle.jn_tables_law.specs.Inferable.{IsInferable, least_table, least_sends}
use Rattle.jn_inference_law.specs.Solution.{IsLeastSignature}
use Rattle.jn_tables_law.proofs.LeastTables.{least_is, least_sends_is}
use Rattle.jn_inference_law.proofs.InferenceLaws.{inferred_sent}
use Rattle.jn_inference_law.proofs.PairLaws.{pairs_grow, pairs_inferred}
use Rattle.jn_tables_law.proofs.LeastTables.{tables_of, table_of-at, tables_least}

-- the list with another qualifier at each place, by its number and what stands there
module _ (f : ℕ → Qualifier → Qualifier) where
  abbrev pub trims : ℕ → List Qualifier → List Qualifier
  trims k [] = []
  trims k (x ∷ xs) = f k x ∷ trims (k + 1) xs

  pub trims_at : (k i : ℕ) (xs : List Qualifier) → i < length xs → slice_index_or (trims k xs) i no_qual ≡ f (k + i) (slice_index_or xs i no_qual)
  trims_at k i [] l = absurd (omega (arith, l))
  trims_at k zero (x ∷ xs) l = ap (λ n. f n x) (let e : k ≡ k + 0 = omega arith in e)
  trims_at k (suc i) (x ∷ xs) l = trims_at (k + 1) i xs (omega (arith, l)) ∙ ap (λ n. f n (slice_index_or xs i no_qual)) (let e : (k + 1) + i ≡ k + suc i = omega arith in e)

  pub trims_long : (k : ℕ) (xs : List Qualifier) → length (trims k xs) ≡ length xs
  trims_long k [] = refl
  trims_long k (x ∷ xs) = ap suc (trims_long (k + 1) xs)

  -- past the end nothing stands
  pub trims_past : (k i : ℕ) (xs : List Qualifier) → (i < length xs → ⊥) → (slice_index_or (trims k xs) i no_qual ≡ no_qual) × (slice_index_or xs i no_qual ≡ no_qual)
  trims_past k i [] n = (refl, refl)
  trims_past k zero (x ∷ xs) n = absurd (n (omega arith))
  trims_past k (suc i) (x ∷ xs) n = trims_past (k + 1) i xs (λ l. n (omega (arith, l)))

  trims_within : (k : ℕ) (xs : List Qualifier) → ((i : ℕ) → IsTrue (within (f (k + i) (slice_index_or xs i no_qual)) (slice_index_or xs i no_qual))) → QualsWithin (trims k xs) xs
  trims_within k [] h = tt
  trims_within k (x ∷ xs) h = (
    subst (λ n. IsTrue (within (f n x) x)) (let e : k + 0 ≡ k = omega arith in e) (h 0),
    trims_within (k + 1) xs (λ i. subst (λ n. IsTrue (within (f n (slice_index_or xs i no_qual)) (slice_index_or xs i no_qual))) (let e : k + suc i ≡ (k + 1) + i = omega arith in e) (h (suc i))),
  )

  above_trims : (k : ℕ) (as' xs : List Qualifier) → QualsWithin as' xs → ((i : ℕ) → i < length xs → IsTrue (within (slice_index_or as' i no_qual) (f (k + i) (slice_index_or xs i no_qual)))) → QualsWithin as' (trims k xs)
  above_trims k [] [] w h = tt
  above_trims k [] (x ∷ xs) w h = absurd w
  above_trims k (a ∷ as') [] w h = absurd w
  above_trims k (a ∷ as') (x ∷ xs) w h = (
    subst (λ n. IsTrue (within a (f n x))) (let e : k + 0 ≡ k = omega arith in e) (h 0 (omega arith)),
    above_trims (k + 1) as' xs w.1 (λ i l. subst (λ n. IsTrue (within (slice_index_or as' i no_qual) (f n (slice_index_or xs i no_qual)))) (let e : k + suc i ≡ (k + 1) + i = omega arith in e) (h (suc i) (omega (arith, l)))),
  )

pub body_inside : (b p : ℕ) (bodies : List Body) (pt : Point) → slice_get (points_of (slice_get bodies b)) p ≡ Some pt → b < length bodies
body_inside b p [] pt e = absurd cc
body_inside zero p (x ∷ bodies) pt e = omega arith
body_inside (suc b) p (x ∷ bodies) pt e = let h = body_inside b p bodies pt e in omega (arith, h)

module _ (P : Program) (can : IsInferable P) (s : List Qualifier) (is : IsLeastSignature P s) (f : ℕ → Qualifier → Qualifier) where
  abbrev now : ℕ → Qualifier
  now i = slice_index_or s i no_qual

  abbrev pub trimmed_signature : List Qualifier
  trimmed_signature = trims f 0 s

  -- what is taken away isn't what slots start with, nor what is sent
  pub record IsNeedless : Type 0 where
    pub low : (i : ℕ) → IsTrue (within (f i (now i)) (now i))
    pub starts : (i : ℕ) → i < length s → IsTrue (within (slice_index_or (start_signature P) i no_qual) (f i (now i)))
    pub sent : (b : ℕ) (x : ℕ × Qualifier) → IsSent x (least_sends P trimmed_signature b) → IsTrue (within x.1 (now x.0)) → IsTrue (within x.1 (f x.0 (now x.0)))
    pub sent_over : (m : ℕ) (x : ℕ × Qualifier) → IsSent x (pair_sends P trimmed_signature m) → IsTrue (within x.1 (now x.0)) → IsTrue (within x.1 (f x.0 (now x.0)))

  module _ (h : IsNeedless) where
    abbrev new : List Qualifier
    new = trimmed_signature

    new_below : QualsWithin new s
    new_below = trims_within f 0 s (λ i. subst (λ n. IsTrue (within (f n (now i)) (now i))) (let e : i ≡ 0 + i = omega arith in e) (h.low i))

    -- what is sent under the trimmed signature is within the signature
    below_old : (T : Table) (b : ℕ) → b < length P.bodies → IsLeastTable P new b T → (x : ℕ × Qualifier) → IsSent x (least_sends P new b) → IsTrue (within x.1 (now x.0))
    below_old T b lt tl x m =
        let inside = can.inside b lt in
        let U : Table = least_table P s b in
        let lu = least_is P s b inside in
        let body = subst (IsSent x) (least_sends_is P new b T inside tl) m in
        let cover = sent_above P b T U (tables_above P new s b new_below T U inside tl lu) x body in
        let o = of_a_point P b U (x.0, cover.qual) cover.there in
        let reached : env_in (slice_index_or (tables_of P can s) b []) o.place ≡ Some o.env = ap (λ (u : Table). env_in u o.place) (table_of-at P can s b lt) ∙ o.reached in
        let k : IsTrue (within cover.qual (now x.0)) = is.closed.bodies (tables_of P can s) (tables_least P can s) b o.place o.point o.env o.there reached (x.0, cover.qual) o.sent in
        within_trans x.1 cover.qual (now x.0) cover.above k

    below_pairs : (m : ℕ) (x : ℕ × Qualifier) → IsSent x (pair_sends P new m) → IsTrue (within x.1 (now x.0))
    below_pairs m x sent =
        let cover = pairs_grow P new s new_below x m sent in
        within_trans x.1 cover.qual (now x.0) cover.above (is.closed.pairs m (x.0, cover.qual) cover.there)

    -- and so within the trimmed one, if it is within what is left of its slot
    within_new : (x : ℕ × Qualifier) → IsTrue (within x.1 (now x.0)) → IsTrue (within x.1 (f x.0 (now x.0))) → IsTrue (within x.1 (slice_index_or new x.0 no_qual))
    within_new x a b = ⊎_elim
        (λ l. subst (λ z. IsTrue (within x.1 z)) (sym (trims_at f 0 x.0 s l)) (subst (λ n. IsTrue (within x.1 (f n (now x.0)))) (let e : x.0 ≡ 0 + x.0 = omega arith in e) b))
        (λ le. let past = trims_past f 0 x.0 s (λ l. omega (arith, l, le)) in subst (λ z. IsTrue (within x.1 z)) (past.1 ∙ sym past.0) a)
        (cases_lt x.0 (length s))

    new_closed : IsClosed P new
    new_closed = record {
      bodies = λ tables tl b p pt e at reached x m.
          let lt = body_inside b p P.bodies pt at in
          let T : Table = slice_index_or tables b [] in
          let body = of_the_body P b T x (record { place = p; point = pt; env = e; there = at; reached = reached; sent = m }) in
          let mine = subst (IsSent x) (sym (least_sends_is P new b T (can.inside b lt) (tl b))) body in
          let low = below_old T b lt (tl b) x mine in
          within_new x low (h.sent b x mine low);
      pairs = λ m x sent. let low = below_pairs m x sent in within_new x low (h.sent_over m x sent low);
    }

    new_starts : QualsWithin (start_signature P) new
    new_starts = above_trims f 0 (start_signature P) s is.starts (λ i l. subst (λ n. IsTrue (within (slice_index_or (start_signature P) i no_qual) (f n (now i)))) (let e : i ≡ 0 + i = omega arith in e) (h.starts i l))

    pub trimmed_below : QualsWithin s new
    trimmed_below = is.least new new_closed new_starts

    -- so the signature is the trimmed one
    pub trimmed : (i : ℕ) → i < length s → now i ≡ f i (now i)
    trimmed i l =
        let up = quals_at s new i trimmed_below in
        let there : slice_index_or new i no_qual ≡ f i (now i) = trims_at f 0 i s l ∙ ap (λ n. f n (now i)) (let e : 0 + i ≡ i = omega arith in e) in
        within_antisym (now i) (f i (now i)) (subst (λ z. IsTrue (within (now i) z)) there up) (h.low i)

-- a slot that isn't inferred has what it starts with
module _ (P : Program) (s : List Qualifier) (can : IsInferable P) (is : IsLeastSignature P s) where
  abbrev start_or : ℕ → Qualifier → Qualifier
  start_or i q = cond (is_inferred (slice_get P.slots i)) q (slice_index_or (start_signature P) i no_qual)

  or_low : (b : Bool) (a q : Qualifier) → IsTrue (within a q) → IsTrue (within (cond b q a) q)
  or_low true a q h = within_refl q
  or_low false a q h = h

  or_above : (b : Bool) (a q : Qualifier) → IsTrue (within a q) → IsTrue (within a (cond b q a))
  or_above true a q h = h
  or_above false a q h = within_refl a

  or_sent : (b : Bool) (x a q : Qualifier) → b ≡ true → IsTrue (within x q) → IsTrue (within x (cond b q a))
  or_sent true x a q e h = h
  or_sent false x a q e h = absurd (false≢true e)

  needless : IsNeedless P can s is start_or
  needless = record {
    low = λ i. or_low (is_inferred (slice_get P.slots i)) (slice_index_or (start_signature P) i no_qual) (slice_index_or s i no_qual) (quals_at (start_signature P) s i is.starts);
    starts = λ i l. or_above (is_inferred (slice_get P.slots i)) (slice_index_or (start_signature P) i no_qual) (slice_index_or s i no_qual) (quals_at (start_signature P) s i is.starts);
    sent = λ b x m h. or_sent (is_inferred (slice_get P.slots x.0)) x.1 (slice_index_or (start_signature P) x.0 no_qual) (slice_index_or s x.0 no_qual) (inferred_sent P (trims start_or 0 s) b x m) h;
    sent_over = λ m x sent h. or_sent (is_inferred (slice_get P.slots x.0)) x.1 (slice_index_or (start_signature P) x.0 no_qual) (slice_index_or s x.0 no_qual) (pairs_inferred P (trims start_or 0 s) m x sent) h;
  }

  pub written_stays : (i : ℕ) → i < length s → is_inferred (slice_get P.slots i) ≡ false → slice_index_or s i no_qual ≡ slice_index_or (start_signature P) i no_qual
  written_stays i l fixed = trimmed P can s is start_or needless i l ∙ ap (λ b. cond b (slice_index_or s i no_qual) (slice_index_or (start_signature P) i no_qual)) fixed
