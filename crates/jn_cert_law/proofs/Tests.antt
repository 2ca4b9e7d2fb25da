-- A signature and tables hold exactly where no test of them fails.
use Rattle.std.proofs.Common.{◌≡◌, ◌⊎◌, inl, inr, ⊎_elim, ℕ, zero, suc, ◌+◌, ◌<◌, List, [], ◌∷◌, ◌++◌, length, Option, Some, refl, sym, ap, ◌∙◌, subst, arith}
use Rattle.std.specs.Prelude.{IsTrue, slice_get, slice_index_or}
use Rattle.std.proofs.lemmas.Bool.{cases_lt}
use Rattle.std.proofs.lemmas.Option.{slice_get_within}
use Rattle.jn_quals.specs.Qualifier.{Qualifier}
use Rattle.jn_quals.specs.Order.{no_qual, within}
use Rattle.jn_points.specs.declared.point.Point.{Point}
use Rattle.jn_points.specs.declared.program.SlotInfo.{SlotInfo}
use Rattle.jn_points.specs.declared.program.Program.{Program}
use Rattle.jn_points.specs.Lookup.{points_of, body_at, method_in}
use Rattle.jn_points.specs.Members.{below}
use Rattle.jn_sigs.specs.Signature.{start_signature, starts_from}
use Rattle.jn_env.specs.Environment.{Env}
use Rattle.jn_env.specs.Order.{Table, QualsWithin, env_in}
use Rattle.jn_env.proofs.Order.{quals_at}
use Rattle.jn_transfer.specs.Rules.{rows_at, rows_from, ctor_rows, body_rows, bodies_rows, pairs_rows}
use Rattle.jn_cert_law.specs.Holds.{AllOk, BodyOk, Holds}
use Rattle.jn_cert_form.specs.Form.{AreParts}
use Rattle.jn_cert_law.proofs.Shrink.{no_left, no_right, none_both}

abbrev Each : (ℕ → Type 0) → List ℕ → Type 0
Each Q [] = Unit {0}
Each Q (x ∷ xs) = Q x × Each Q xs

each_append : (Q : ℕ → Type 0) (xs : List ℕ) (x : ℕ) → Each Q xs → Q x → Each Q (xs ++ x ∷ [])
each_append Q [] x h q = (q, tt)
each_append Q (y ∷ xs) x h q = (h.0, each_append Q xs x h.1 q)

each_below : (Q : ℕ → Type 0) (n : ℕ) → ((b : ℕ) → b < n → Q b) → Each Q (below n)
each_below Q zero f = tt
each_below Q (suc n) f = each_append Q (below n) n (each_below Q n (λ b lt. f b (omega (arith, lt)))) (f n (omega arith))

at_last : (Q : ℕ → Type 0) (xs : List ℕ) (x : ℕ) → Each Q (xs ++ x ∷ []) → Each Q xs × Q x
at_last Q [] x h = (tt, h.0)
at_last Q (y ∷ xs) x h = let r = at_last Q xs x h.1 in ((h.0, r.0), r.1)

quals_by : (xs ys : List Qualifier) → length xs ≡ length ys → ((n : ℕ) → n < length xs → IsTrue (within (slice_index_or xs n no_qual) (slice_index_or ys n no_qual))) → QualsWithin xs ys
quals_by [] [] e h = tt
quals_by [] (y ∷ ys) e h = absurd (omega (arith, e))
quals_by (x ∷ xs) [] e h = absurd (omega (arith, e))
quals_by (x ∷ xs) (y ∷ ys) e h = (h 0 (omega arith), quals_by xs ys (omega (arith, e)) (λ n lt. h (suc n) (omega (arith, lt))))

length-starts : (P : Program) (i : ℕ) (xs : List SlotInfo) → length (starts_from P i xs) ≡ length xs
length-starts P i [] = refl
length-starts P i (x ∷ xs) = ap suc (length-starts P (i + 1) xs)

module _ (P : Program) (s : List Qualifier) where
  -- point by point
  rows_are : (b : ℕ) (t : Table) (pts : List Point) (p : ℕ) → ((k : ℕ) (pt : Point) → slice_get pts k ≡ Some pt → rows_at P s b pt (env_in t (p + k)) ≡ []) → rows_from P s b pts p t ≡ []
  rows_are b t [] p h = refl
  rows_are b t (pt ∷ pts) p h =
      let here : p + 0 ≡ p = omega arith in
      none_both (rows_at P s b pt (env_in t p)) (rows_from P s b pts (p + 1) t)
      (subst (λ n. rows_at P s b pt (env_in t n) ≡ []) here (h 0 pt refl))
      (rows_are b t pts (p + 1) (λ k x at. let next : p + suc k ≡ (p + 1) + k = omega arith in subst (λ n. rows_at P s b x (env_in t n) ≡ []) next (h (suc k) x at)))

  row_at : (b : ℕ) (t : Table) (pts : List Point) (p k : ℕ) (pt : Point) → rows_from P s b pts p t ≡ [] → slice_get pts k ≡ Some pt → rows_at P s b pt (env_in t (p + k)) ≡ []
  row_at b t [] p k pt h at = cc
  row_at b t (x ∷ pts) p zero pt h at =
      let same : x ≡ pt = cc in
      let here : p ≡ p + 0 = omega arith in
      subst (λ n. rows_at P s b pt (env_in t n) ≡ []) here (subst (λ y. rows_at P s b y (env_in t p) ≡ []) same (no_left (rows_at P s b x (env_in t p)) (rows_from P s b pts (p + 1) t) h))
  row_at b t (x ∷ pts) p (suc k) pt h at =
      let next : (p + 1) + k ≡ p + suc k = omega arith in
      subst (λ n. rows_at P s b pt (env_in t n) ≡ []) next (row_at b t pts (p + 1) k pt (no_right (rows_at P s b x (env_in t p)) (rows_from P s b pts (p + 1) t) h) at)

  bodies_are : (tables : List (List (Option Env))) (bs : List ℕ) → Each (λ b. body_rows P s b (slice_index_or tables b []) ≡ []) bs → bodies_rows P s bs tables ≡ []
  bodies_are tables [] h = refl
  bodies_are tables (b ∷ bs) h = none_both (body_rows P s b (slice_index_or tables b [])) (bodies_rows P s bs tables) h.0 (bodies_are tables bs h.1)

  each_body : (tables : List (List (Option Env))) (bs : List ℕ) → bodies_rows P s bs tables ≡ [] → Each (λ b. body_rows P s b (slice_index_or tables b []) ≡ []) bs
  each_body tables [] h = tt
  each_body tables (b ∷ bs) h = (no_left (body_rows P s b (slice_index_or tables b [])) (bodies_rows P s bs tables) h, each_body tables bs (no_right (body_rows P s b (slice_index_or tables b [])) (bodies_rows P s bs tables) h))

  of_below : (Q : ℕ → Type 0) (n b : ℕ) → Each Q (below n) → b < n → Q b
  of_below Q zero b h lt = absurd (omega (arith, lt))
  of_below Q (suc n) b h lt = let r = at_last Q (below n) n h in ⊎_elim (λ low. of_below Q n b r.0 low) (λ e. subst Q e r.1) (last_or b n lt)
    where
      last_or : (b n : ℕ) → b < suc n → (b < n) ⊎ (n ≡ b)
      last_or b n lt = ⊎_elim (λ low. inl low) (λ high. inr (omega (arith, lt, high))) (cases_lt b n)

  module _ (tables : List (List (Option Env))) (parts : AreParts P s tables) where
    pub all_holds : AllOk P s tables → Holds P s tables
    all_holds a = record {
      starts = quals_by (start_signature P) s (starts_long ∙ sym parts.slots) (λ n lt. (a.slots n (omega (arith, lt, starts_long))).starts);
      written = λ n lt inferred. (a.slots n lt).written inferred;
      respects = λ b lt. let body = a.bodies b lt in record {
        entry = body.entry;
        edges = λ p pt e at reached x m. (body.points p (slice_get_within (points_of (body_at P b)) p pt at)).edges pt e at reached x m;
      };
      unbroken = none_both (bodies_rows P s (below (length P.bodies)) tables) (pairs_rows P s)
          (bodies_are tables (below (length P.bodies)) (each_below (λ b. body_rows P s b (slice_index_or tables b []) ≡ []) (length P.bodies) (λ b lt. no_rows b (a.bodies b lt))))
          a.pairs;
      closed = λ b p pt e at reached x m. (a.sent x.0).bodies b p pt e at reached x.1 m;
      pairs = λ m x sent. (a.sent x.0).pairs m x.1 sent;
    }
      where
        starts_long : length (start_signature P) ≡ length P.slots
        starts_long = length-starts P 0 P.slots

        no_rows : (b : ℕ) → BodyOk P s b (slice_index_or tables b []) → body_rows P s b (slice_index_or tables b []) ≡ []
        no_rows b body =
            let t = slice_index_or tables b [] in
            let pts = points_of (body_at P b) in
            none_both (rows_from P s b pts 0 t) (ctor_rows P s b (method_in P b) t)
            (rows_are b t pts 0 (λ k pt at. let here : k ≡ 0 + k = omega arith in subst (λ n. rows_at P s b pt (env_in t n) ≡ []) here ((body.points k (slice_get_within pts k pt at)).rules pt at)))
            body.end

    pub holds_all : Holds P s tables → AllOk P s tables
    holds_all h = record {
      slots = λ k lt. record { starts = quals_at (start_signature P) s k h.starts; written = h.written k lt };
      bodies = λ b lt. body b lt;
      sent = λ n. record { bodies = λ b p pt e at reached q m. h.closed b p pt e at reached (n, q) m; pairs = λ m q sent. h.pairs m (n, q) sent };
      pairs = no_right (bodies_rows P s (below (length P.bodies)) tables) (pairs_rows P s) h.unbroken;
    }
      where
        none : (b : ℕ) → b < length P.bodies → body_rows P s b (slice_index_or tables b []) ≡ []
        none b lt = of_below (λ b. body_rows P s b (slice_index_or tables b []) ≡ []) (length P.bodies) b (each_body tables (below (length P.bodies)) (no_left (bodies_rows P s (below (length P.bodies)) tables) (pairs_rows P s) h.unbroken)) lt

        body : (b : ℕ) → b < length P.bodies → BodyOk P s b (slice_index_or tables b [])
        body b lt =
            let t = slice_index_or tables b [] in
            let pts = points_of (body_at P b) in
            record {
              entry = (h.respects b lt).entry;
              points = λ p low. record {
                edges = λ pt e at reached x m. (h.respects b lt).edges p pt e at reached x m;
                rules = λ pt at. let here : 0 + p ≡ p = omega arith in subst (λ n. rows_at P s b pt (env_in t n) ≡ []) here (row_at b t pts 0 p pt (no_left (rows_from P s b pts 0 t) (ctor_rows P s b (method_in P b) t) (none b lt)) at);
              };
              end = no_right (rows_from P s b pts 0 t) (ctor_rows P s b (method_in P b) t) (none b lt);
            }
