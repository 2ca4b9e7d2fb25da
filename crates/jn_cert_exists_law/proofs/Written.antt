-- A least signature keeps what is written: with its written slots set back to their start it is closed still.
use Rattle.std.proofs.Common.{◌≡◌, ℕ, zero, suc, ◌<◌, Bool, true, false, cond, List, [], ◌∷◌, length, Some, refl, sym, ap, ◌∙◌, subst, arith}
use Rattle.std.specs.Prelude.{IsTrue, slice_get, slice_index_or}
use Rattle.jn_quals.specs.Qualifier.{Qualifier}
use Rattle.jn_quals.specs.Order.{no_qual, within}
use Rattle.jn_quals.proofs.Order.{within_antisym, within_refl, within_trans}
use Rattle.jn_points.specs.Lookup.{points_of}
use Rattle.jn_points.specs.Regular.{Regular}
use Rattle.jn_points.specs.declared.point.Point.{Point}
use Rattle.jn_points.specs.declared.program.Body.{Body}
use Rattle.jn_points.specs.declared.program.SlotInfo.{SlotInfo}
use Rattle.jn_points.specs.declared.program.Program.{Program}
use Rattle.jn_sigs.specs.Signature.{start_signature}
use Rattle.jn_sigs.proofs.Starts.{length-starts_from}
use Rattle.jn_env.specs.Order.{QualsWithin, env_in}
use Rattle.jn_env.proofs.Order.{quals_at}
use Rattle.jn_transfer.specs.Closing.{IsClosed, IsClosedUnderBodies}
use Rattle.jn_transfer.specs.Contributions.{IsSent, is_inferred}
use Rattle.jn_contrib.proofs.Sent.{of_a_point, of_the_body}
use Rattle.jn_tables_law.proofs.Sends.{sent_above}
use Rattle.jn_tables_law.proofs.Tables.{tables_above}
use Rattle.jn_tables_law.specs.Inferable.{least_table}
use Rattle.jn_inference_law.specs.Solution.{IsLeastSignature}
use Rattle.jn_inference_law.proofs.InferenceLaws.{inferred_sent}
use Rattle.jn_tables_law.proofs.LeastTables.{least_is, least_sends_is}
use Rattle.jn_tables_law.proofs.Inferring.{regular_inferable}
use Rattle.jn_tables_law.proofs.LeastTables.{table_of-at, tables_least, tables_of}
use Rattle.jn_inference_law.proofs.PairLaws.{pairs_grow, pairs_inferred}
use Rattle.jn_cert_law.specs.Holds.{KeepsWritten}

-- inferred slots as they are now, the others as they start
abbrev kept : List SlotInfo → List Qualifier → List Qualifier → List Qualifier
kept [] ps qs = []
kept (x ∷ xs) [] qs = []
kept (x ∷ xs) (p ∷ ps) [] = []
kept (x ∷ xs) (p ∷ ps) (q ∷ qs) = cond x.inferred q p ∷ kept xs ps qs

kept_below : (xs : List SlotInfo) (ps qs : List Qualifier) → length ps ≡ length xs → QualsWithin ps qs → QualsWithin (kept xs ps qs) qs
kept_below [] [] [] l w = tt
kept_below [] [] (q ∷ qs) l w = absurd w
kept_below [] (p ∷ ps) qs l w = absurd (omega (arith, l))
kept_below (x ∷ xs) [] qs l w = absurd (omega (arith, l))
kept_below (x ∷ xs) (p ∷ ps) [] l w = absurd w
kept_below (x ∷ xs) (p ∷ ps) (q ∷ qs) l w = (one x.inferred, kept_below xs ps qs (omega (arith, l)) w.1)
  where
    one : (c : Bool) → IsTrue (within (cond c q p) q)
    one true = within_refl q
    one false = w.0

kept_above : (xs : List SlotInfo) (ps qs : List Qualifier) → length ps ≡ length xs → QualsWithin ps qs → QualsWithin ps (kept xs ps qs)
kept_above [] [] qs l w = tt
kept_above [] (p ∷ ps) qs l w = absurd (omega (arith, l))
kept_above (x ∷ xs) [] qs l w = absurd (omega (arith, l))
kept_above (x ∷ xs) (p ∷ ps) [] l w = absurd w
kept_above (x ∷ xs) (p ∷ ps) (q ∷ qs) l w = (one x.inferred, kept_above xs ps qs (omega (arith, l)) w.1)
  where
    one : (c : Bool) → IsTrue (within p (cond c q p))
    one true = w.0
    one false = within_refl p

kept_inferred : (xs : List SlotInfo) (ps qs : List Qualifier) (n : ℕ) → length ps ≡ length xs → length qs ≡ length xs → is_inferred (slice_get xs n) ≡ true → slice_index_or (kept xs ps qs) n no_qual ≡ slice_index_or qs n no_qual
kept_inferred [] ps qs n l m e = absurd cc
kept_inferred (x ∷ xs) [] qs n l m e = absurd (omega (arith, l))
kept_inferred (x ∷ xs) (p ∷ ps) [] n l m e = absurd (omega (arith, m))
kept_inferred (x ∷ xs) (p ∷ ps) (q ∷ qs) zero l m e = ap (λ (c : Bool). cond c q p) e
kept_inferred (x ∷ xs) (p ∷ ps) (q ∷ qs) (suc n) l m e = kept_inferred xs ps qs n (omega (arith, l)) (omega (arith, m)) e

kept_written : (xs : List SlotInfo) (ps qs : List Qualifier) (n : ℕ) → length ps ≡ length xs → length qs ≡ length xs → n < length xs → is_inferred (slice_get xs n) ≡ false → slice_index_or (kept xs ps qs) n no_qual ≡ slice_index_or ps n no_qual
kept_written [] ps qs n l m lt e = absurd (omega (arith, lt))
kept_written (x ∷ xs) [] qs n l m lt e = absurd (omega (arith, l))
kept_written (x ∷ xs) (p ∷ ps) [] n l m lt e = absurd (omega (arith, m))
kept_written (x ∷ xs) (p ∷ ps) (q ∷ qs) zero l m lt e = ap (λ (c : Bool). cond c q p) e
kept_written (x ∷ xs) (p ∷ ps) (q ∷ qs) (suc n) l m lt e = kept_written xs ps qs n (omega (arith, l)) (omega (arith, m)) (omega (arith, lt)) e

pub length-within : (xs ys : List Qualifier) → QualsWithin xs ys → length ys ≡ length xs
length-within [] [] w = refl
length-within [] (y ∷ ys) w = absurd w
length-within (x ∷ xs) [] w = absurd w
length-within (x ∷ xs) (y ∷ ys) w = ap suc (length-within xs ys w.1)

body_inside : (b p : ℕ) (bodies : List Body) (pt : Point) → slice_get (points_of (slice_get bodies b)) p ≡ Some pt → b < length bodies
body_inside b p [] pt e = absurd cc
body_inside zero p (x ∷ bodies) pt e = omega arith
body_inside (suc b) p (x ∷ bodies) pt e = let h = body_inside b p bodies pt e in omega (arith, h)

module _ (P : Program) (R : Regular P) (s : List Qualifier) (is : IsLeastSignature P s) where
  abbrev starts : List Qualifier
  starts = start_signature P

  long_starts : length starts ≡ length P.slots
  long_starts = length-starts_from P 0 P.slots

  long_sig : length s ≡ length P.slots
  long_sig = length-within starts s is.starts ∙ long_starts

  abbrev settled : List Qualifier
  settled = kept P.slots starts s

  settled_below : QualsWithin settled s
  settled_below = kept_below P.slots starts s long_starts is.starts

  stands : (x : ℕ × Qualifier) → is_inferred (slice_get P.slots x.0) ≡ true → IsTrue (within x.1 (slice_index_or s x.0 no_qual)) → IsTrue (within x.1 (slice_index_or settled x.0 no_qual))
  stands x inferred h = subst (λ q. IsTrue (within x.1 q)) (sym (kept_inferred P.slots starts s x.0 long_starts long_sig inferred)) h

  settled_bodies : IsClosedUnderBodies P settled
  settled_bodies tables least b p pt e at reached x m =
      let can = regular_inferable P R in
      let inside = can.inside b (body_inside b p P.bodies pt at) in
      let T = slice_index_or tables b [] in
      let U = least_table P s b in
      let sent = of_the_body P b T x (record { place = p; point = pt; env = e; there = at; reached = reached; sent = m }) in
      let inferred = inferred_sent P settled b x (subst (IsSent x) (sym (least_sends_is P settled b T inside (least b))) sent) in
      let c = sent_above P b T U (tables_above P settled s b settled_below T U inside (least b) (least_is P s b inside)) x sent in
      let h = of_a_point P b U (x.0, c.qual) c.there in
      let there : env_in (slice_index_or (tables_of P can s) b []) h.place ≡ Some h.env = ap (λ u. env_in u h.place) (table_of-at P can s b (body_inside b p P.bodies pt at)) ∙ h.reached in
      let limit = is.closed.bodies (tables_of P can s) (tables_least P can s) b h.place h.point h.env h.there there (x.0, c.qual) h.sent in
      stands x inferred (within_trans x.1 c.qual (slice_index_or s x.0 no_qual) c.above limit)

  settled_closed : IsClosed P settled
  settled_closed = record {
    bodies = settled_bodies;
    pairs = λ m x sent.
        let c = pairs_grow P settled s settled_below x m sent in
        stands x (pairs_inferred P settled m x sent) (within_trans x.1 c.qual (slice_index_or s x.0 no_qual) c.above (is.closed.pairs m (x.0, c.qual) c.there));
  }

  pub keeps_written : KeepsWritten P s
  keeps_written n lt written =
      let first = slice_index_or starts n no_qual in
      let now = slice_index_or s n no_qual in
      let up = quals_at s settled n (is.least settled settled_closed (kept_above P.slots starts s long_starts is.starts)) in
      within_antisym now first (subst (λ q. IsTrue (within now q)) (kept_written P.slots starts s n long_starts long_sig lt written) up) (quals_at starts s n is.starts)
