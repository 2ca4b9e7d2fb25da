-- Accepted programs are solved: the least tables respect the edges, and slots that aren't inferred have what they start with.
use Rattle.std.proofs.Common.{◌≡◌, ℕ, zero, suc, ◌+◌, ◌<◌, false, cond, IsTrue, List, [], ◌∷◌, ◌++◌, length, Option, Some, refl, sym, ap, ◌∙◌, subst, arith}
use Rattle.std.specs.Prelude.{slice_get, slice_index_or}
use Rattle.std.proofs.lemmas.Option.{slice_get_within}
use Rattle.jn_quals.specs.Qualifier.{Qualifier}
use Rattle.jn_quals.specs.Order.{no_qual, committed_only, within}
use Rattle.jn_points.specs.declared.program.SlotInfo.{SlotInfo}
use Rattle.jn_points.specs.declared.program.Program.{Program}
use Rattle.jn_points.specs.BaseRows.{NoBaseRows}
use Rattle.jn_points.specs.BaseTyping.{BaseTyped}
use Rattle.jn_points.specs.Members.{below}
use Rattle.jn_points.specs.Regular.{Regular}
use Rattle.jn_points.specs.Shaped.{Shaped}
use Rattle.jn_sigs.specs.Signature.{uncalled_from, start_of, starts_from}
use Rattle.jn_env.specs.Environment.{Env}
use Rattle.jn_env.specs.Order.{QualsWithin, env_in}
use Rattle.jn_transfer.specs.Contributions.{FieldSlots}
use Rattle.jn_transfer.specs.Least.{IsLeastTable, Respects}
use Rattle.jn_transfer.specs.Rules.{bodies_rows, body_rows, pairs_rows}
use Rattle.jn_transfer.specs.Sized.{StaysInside}
use Rattle.jn_heap.specs.Runs.{NeverNull}
use Rattle.jn_soundness.specs.Accepting.{IsAccepted}
use Rattle.jn_soundness.specs.World.{World, table_at}
use Rattle.jn_soundness.specs.Solved.{Solved}
use Rattle.jn_soundness.proofs.Basics.{body_there}

start_there : (P : Program) (i : ℕ) (info : SlotInfo) (q : Qualifier) → info.inferred ≡ false → IsTrue (within (start_of P i info) q) → IsTrue (within info.start q)
start_there P i info q h w = subst (λ (t : _). IsTrue (within (cond t (cond (uncalled_from P i 0 P.methods) committed_only no_qual) info.start) q)) h w

starts_there : (P : Program) (i : ℕ) (slots : List SlotInfo) (s : List Qualifier) (n : ℕ) (info : SlotInfo) → QualsWithin (starts_from P i slots) s → slice_get slots n ≡ Some info → info.inferred ≡ false → IsTrue (within info.start (slice_index_or s n no_qual))
starts_there P i [] s n info w is h = cc
starts_there P i (x ∷ slots) [] n info w is h = absurd w
starts_there P i (x ∷ slots) (q ∷ s) zero info w is h = let same : x ≡ info = cc in start_there P i info q h (subst (λ y. IsTrue (within (start_of P i y) q)) same w.0)
starts_there P i (x ∷ slots) (q ∷ s) (suc n) info w is h = starts_there P (i + 1) slots s n info w.1 is h

-- tables that are the same for some bodies give the same rows of these
module _ (T U : List (List (Option Env))) where
  abbrev SameFor : List ℕ → Type 0
  SameFor [] = Unit {0}
  SameFor (b ∷ bs) = (slice_index_or T b [] ≡ slice_index_or U b []) × SameFor bs

  both_same : (bs cs : List ℕ) → SameFor bs → SameFor cs → SameFor (bs ++ cs)
  both_same [] cs h k = k
  both_same (b ∷ bs) cs h k = (h.0, both_same bs cs h.1 k)

  below_same : (n : ℕ) → ((b : ℕ) → b < n → slice_index_or T b [] ≡ slice_index_or U b []) → SameFor (below n)
  below_same zero h = tt
  below_same (suc n) h = both_same (below n) (n ∷ []) (below_same n (λ b lt. h b (omega (arith, lt)))) (h n (omega arith), tt)

  rows_same : (P : Program) (s : List Qualifier) (bs : List ℕ) → SameFor bs → bodies_rows P s bs T ≡ bodies_rows P s bs U
  rows_same P s [] h = refl
  rows_same P s (b ∷ bs) h =
      let here = ap (body_rows P s b) h.0 in
      let rest = rows_same P s bs h.1 in
      (λ i. here i ++ rest i)

module _ (respects : (P : Program) (s : List Qualifier) (b : ℕ) (t : List (Option Env)) → StaysInside P b → IsLeastTable P s b t → Respects P s b t)
    (shaped : (P : Program) → Regular P → Shaped P)
    (slots : (P : Program) → Regular P → FieldSlots P)
    (inside : (P : Program) → Regular P → (b : ℕ) → b < length P.bodies → StaysInside P b) where
  pub accepted_solved : (P : Program) (s : List Qualifier) (A : IsAccepted P s) → Solved (record { program = P; sig = s; tables = A.unbroken.tables })
  accepted_solved P s A =
      let tables = A.unbroken.tables in
      record {
        shaped = shaped P A.regular;
        slots = slots P A.regular;
        starts = λ n info is h. starts_there P 0 P.slots s n info A.starts is h;
        respects = λ b x is. respects P s b (slice_index_or tables b []) (inside P A.regular b (slice_get_within P.bodies b x is)) (A.unbroken.least b);
        closed = A.closed.bodies tables A.unbroken.least;
        none = sym A.unbroken.all;
      }

  -- so with all tables that are the least ones of the bodies
  module _ (unique : (P : Program) (s : List Qualifier) (b : ℕ) (t u : List (Option Env)) → IsLeastTable P s b t → IsLeastTable P s b u → t ≡ u) where
    with_tables : (P : Program) (s : List Qualifier) → IsAccepted P s → (tables : List (List (Option Env))) → ((b : ℕ) → b < length P.bodies → IsLeastTable P s b (slice_index_or tables b [])) → Solved (record { program = P; sig = s; tables = tables })
    with_tables P s A tables least =
        let own = A.unbroken.tables in
        let S = accepted_solved P s A in
        let same : (b : ℕ) → b < length P.bodies → slice_index_or own b [] ≡ slice_index_or tables b [] = λ b lt. unique P s b (slice_index_or own b []) (slice_index_or tables b []) (A.unbroken.least b) (least b lt) in
        let rows_are = rows_same own tables P s (below (length P.bodies)) (below_same own tables (length P.bodies) same) in
        record {
          shaped = S.shaped;
          slots = S.slots;
          starts = S.starts;
          respects = λ b x is. subst (Respects P s b) (same b (slice_get_within P.bodies b x is)) (S.respects b x is);
          closed = λ b p pt e at reached x sent.
              let body = body_there P b p pt at in
              S.closed b p pt e at (ap (λ t. env_in t p) (same b (slice_get_within P.bodies b body.0 body.1)) ∙ reached) x sent;
          none = sym (ap (λ rs. rs ++ pairs_rows P s) rows_are) ∙ S.none;
        }

    pub world_solved : (P : Program) (s : List Qualifier) → IsAccepted P s → (W : World) → W.program ≡ P → W.sig ≡ s → ((b : ℕ) → b < length P.bodies → IsLeastTable P s b (table_at W b)) → Solved W
    world_solved P s A W program sig least =
        with_tables W.program W.sig
        (subst (λ (t : List Qualifier). IsAccepted W.program t) (sym sig) (subst (λ (Q : Program). IsAccepted Q s) (sym program) A))
        W.tables
        (subst (λ (t : List Qualifier). (b : ℕ) → b < length W.program.bodies → IsLeastTable W.program t b (table_at W b)) (sym sig)
        (subst (λ (Q : Program). (b : ℕ) → b < length Q.bodies → IsLeastTable Q s b (table_at W b)) (sym program) least))

  pub accepted_never_null : ((W : World) → Solved W → BaseTyped W.program → NeverNull W.program) → ((P : Program) → Regular P → NoBaseRows P → BaseTyped P) → (P : Program) (s : List Qualifier) → IsAccepted P s → NeverNull P
  accepted_never_null law typed P s A = law (record { program = P; sig = s; tables = A.unbroken.tables }) (accepted_solved P s A) (typed P A.regular A.typed)
