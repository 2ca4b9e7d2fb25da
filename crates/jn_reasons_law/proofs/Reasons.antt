-- Each bit of the least signature and of the least tables under it has a chain.
use Rattle.std.proofs.Common.{◌≡◌, ℕ, zero, suc, ◌*◌, ◌<◌, ◌≤◌, Bool, true, false, ◌⊎◌, inl, inr, ⊎_elim, List, [], length, replicate, Option, Some, None, refl, sym, ap, subst}
use Rattle.std.specs.Prelude.{IsTrue, slice_index_or, slice_set}
use Rattle.std.proofs.lemmas.Bool.{cases_lt, ltb-true}
use Rattle.jn_fixpoint.specs.Climb.{rounds}
use Rattle.jn_quals.specs.Qualifier.{Qualifier}
use Rattle.jn_quals.specs.Order.{no_qual, within}
use Rattle.jn_quals.proofs.Order.{within_trans}
use Rattle.jn_points.specs.declared.point.Point.{Point}
use Rattle.jn_points.specs.declared.program.Program.{Program}
use Rattle.jn_points.specs.Lookup.{body_at, points_of}
use Rattle.jn_sigs.specs.Signature.{start_signature}
use Rattle.jn_env.specs.Environment.{Env}
use Rattle.jn_env.specs.Order.{QualsWithin, SlotWithin, Table, env_in}
use Rattle.jn_env.proofs.Order.{quals_at, quals_refl, table_at}
use Rattle.jn_transfer.specs.Contributions.{IsSent}
use Rattle.jn_transfer.specs.Pairs.{pair_sends}
use Rattle.jn_transfer.specs.Least.{IsLeastTable, all_edges, flow_all}
use Rattle.jn_transfer.specs.Transfer.{entry_env}
use Rattle.jn_tables_law.proofs.Climbing.{least_unique}
use Rattle.jn_contrib.specs.SentBy.{IsSentBy}
use Rattle.jn_contrib.proofs.Sent.{of_a_point}
use Rattle.jn_tables_law.proofs.Tables.{tables_above}
use Rattle.jn_tables_law.specs.Inferable.{IsInferable, least_sends, least_table}
use Rattle.jn_tables_law.specs.Tasks.{task_count, task_method, is_body_task}
use Rattle.jn_inference_law.specs.Solution.{IsLeastSignature}
use Rattle.jn_tables_law.proofs.LeastTables.{least_is, least_sends_is, past_points}
use Rattle.jn_inference_law.proofs.PairLaws.{pairs_grow}
use Rattle.jn_tables_law.proofs.TaskNumbers.{body_task, pair_task}
use Rattle.jn_reasons_law.specs.declared.item.Bit.{Bit}
use Rattle.jn_reasons_law.specs.declared.item.Item.{Item}
use Rattle.jn_reasons_law.specs.declared.item.Item.TheVariants.{AtSlot, AtRegister}
use Rattle.jn_reasons_law.specs.declared.item.Place.TheVariants.{OfSlot}
use Rattle.jn_reasons_law.specs.Items.{on, Stands, StandsAt}
use Rattle.jn_reasons_law.specs.Chains.{HasChain, starts}
use Rattle.jn_reasons_law.proofs.Bits.{on_within}
use Rattle.jn_reasons_law.proofs.Choosing.{link}
use Rattle.jn_reasons_law.proofs.Behind.{Supports}
use Rattle.jn_reasons_law.proofs.Sendings.{kinds_above}
use Rattle.jn_reasons_law.proofs.Greater.{TransferGrows}
use Rattle.jn_reasons_law.proofs.InBody.{table_explained, send_explained}
use Rattle.jn_reasons_law.proofs.Pairs.{pair_explained}
use Rattle.jn_reasons_law.proofs.Signatures.{first_sends, more, SentByOne, by_one, raise_all_least, raise_all_each, last_stage, last_starts, last_closed}

module _ (grows : TransferGrows) (P : Program) (s : List Qualifier) (tables : List Table) (can : IsInferable P) (is : IsLeastSignature P s) (final : (b : ℕ) → IsLeastTable P s b (slice_index_or tables b [])) where
  abbrev U : ℕ → Table
  U b = slice_index_or tables b []

  module _ (t : List Qualifier) (w : QualsWithin t s) where
    record SentByBody (x : ℕ × Qualifier) : Type 0 where
      pub body : ℕ
      pub below : body < length P.bodies
      pub sent : IsSent x (least_sends P t body)

    record SentByPair (x : ℕ × Qualifier) : Type 0 where
      pub method : ℕ
      pub sent : IsSent x (pair_sends P t method)

    -- a task is a body, or a method that overrides
    by_kind : (x : ℕ × Qualifier) → SentByOne P t (task_count P) x → SentByBody x ⊎ SentByPair x
    by_kind x h = by (is_body_task P h.task) refl
      where
        by : (c : Bool) → is_body_task P h.task ≡ c → SentByBody x ⊎ SentByPair x
        by true e = let lt = ltb-true h.task (length P.bodies) e in inl (record { body = h.task; below = lt; sent = subst (IsSent x) (body_task P t h.task lt) h.sent })
        by false e = inr (record { method = task_method P h.task; sent = subst (IsSent x) (pair_task P t h.task e) h.sent })

    -- what one body sends under its least table
    by_point : (x : ℕ × Qualifier) (h : SentByBody x) → IsSentBy P h.body (least_table P t h.body) x
    by_point x h = of_a_point P h.body (least_table P t h.body) x (subst (IsSent x) (least_sends_is P t h.body (least_table P t h.body) (can.inside h.body h.below) (least_is P t h.body (can.inside h.body h.below))) h.sent)

    -- stands in the least signature
    point_within : (b : ℕ) (x : ℕ × Qualifier) (y : IsSentBy P b (least_table P t b) x) (o : Option Env) → env_in (U b) y.place ≡ o → SlotWithin (Some y.env) o → IsTrue (within x.1 (slice_index_or s x.0 no_qual))
    point_within b x y None e v = absurd v
    point_within b x y (Some E) e v =
        let c = kinds_above P b y.place y.point y.env E y.there v x y.sent in
        within_trans x.1 c.qual (slice_index_or s x.0 no_qual) c.above (is.closed.bodies tables final b y.place y.point E y.there e (x.0, c.qual) c.there)

    body_within : (x : ℕ × Qualifier) → SentByBody x → IsTrue (within x.1 (slice_index_or s x.0 no_qual))
    body_within x h =
        let y = by_point x h in
        let inside = can.inside h.body h.below in
        let above = tables_above P t s h.body w (least_table P t h.body) (U h.body) inside (least_is P t h.body inside) (final h.body) in
        point_within h.body x y (env_in (U h.body) y.place) refl (subst (λ o. SlotWithin o (env_in (U h.body) y.place)) y.reached (table_at (least_table P t h.body) (U h.body) y.place above))

    pair_within : (x : ℕ × Qualifier) → SentByPair x → IsTrue (within x.1 (slice_index_or s x.0 no_qual))
    pair_within x h =
        let c = pairs_grow P t s w x h.method h.sent in
        within_trans x.1 c.qual (slice_index_or s x.0 no_qual) c.above (is.closed.pairs h.method (x.0, c.qual) c.there)

    sent_within : (x : ℕ × Qualifier) → SentByOne P t (task_count P) x → IsTrue (within x.1 (slice_index_or s x.0 no_qual))
    sent_within x h = ⊎_elim (λ a. body_within x a) (λ a. pair_within x a) (by_kind x h)

    more_within : QualsWithin (more P t) s
    more_within = raise_all_least (first_sends P (task_count P) t) t s w (λ x m. sent_within x (by_one P t (task_count P) x m))

    more_supports : Supports P s tables t → Supports P s tables (more P t)
    more_supports sup = raise_all_each (λ k bit. HasChain P s tables (AtSlot k bit)) (first_sends P (task_count P) t) t sup (λ x m bit h. sent x (by_one P t (task_count P) x m) bit h)
      where
        by_body : (x : ℕ × Qualifier) → SentByBody x → (bit : Bit) → on bit x.1 ≡ true → HasChain P s tables (AtSlot x.0 bit)
        by_body x h bit o =
            let inside = can.inside h.body h.below in
            send_explained grows P s tables h.body inside (final h.body) t w sup (least_table P t h.body) (least_is P t h.body inside) x.0 x.1 (by_point x h) bit o
            (on_within bit x.1 (slice_index_or s x.0 no_qual) (body_within x h) o)

        by_pair : (x : ℕ × Qualifier) → SentByPair x → (bit : Bit) → on bit x.1 ≡ true → HasChain P s tables (AtSlot x.0 bit)
        by_pair x h bit o = pair_explained P s tables t sup w h.method x h.sent bit o (on_within bit x.1 (slice_index_or s x.0 no_qual) (pair_within x h) o)

        sent : (x : ℕ × Qualifier) → SentByOne P t (task_count P) x → (bit : Bit) → on bit x.1 ≡ true → HasChain P s tables (AtSlot x.0 bit)
        sent x h bit o = ⊎_elim (λ a. by_body x a bit o) (λ a. by_pair x a bit o) (by_kind x h)

  start_supports : Supports P s tables (start_signature P)
  start_supports k bit h =
      link P s tables (AtSlot k bit) (OfSlot k) None (on_within bit (slice_index_or (start_signature P) k no_qual) (slice_index_or s k no_qual) (quals_at (start_signature P) s k is.starts) h) (starts k bit h) tt

  stages_within : (n : ℕ) → QualsWithin (rounds (more P) n (start_signature P)) s
  stages_within zero = is.starts
  stages_within (suc n) = more_within (rounds (more P) n (start_signature P)) (stages_within n)

  stages_support : (n : ℕ) → Supports P s tables (rounds (more P) n (start_signature P))
  stages_support zero = start_supports
  stages_support (suc n) = more_supports (rounds (more P) n (start_signature P)) (stages_within n) (stages_support n)

  pub slots_supported : Supports P s tables s
  slots_supported k bit h = stages_support (3 * length P.slots) k bit (on_within bit (slice_index_or s k no_qual) (slice_index_or (last_stage P) k no_qual) (quals_at s (last_stage P) k (is.least (last_stage P) (last_closed P can) (last_starts P))) h)

  -- a body that is not there has no points
  empty_is : (b : ℕ) → points_of (body_at P b) ≡ [] → IsLeastTable P s b []
  empty_is b e = record {
    turns = 0;
    made = sym (ap (λ (pts : List Point). slice_set (replicate (length pts) None) 0 (Some (entry_env P s b))) e);
    stable = ap (λ (pts : List Point). flow_all (all_edges P s b pts 0 []) []) e;
  }

  none_stands : (b p r : ℕ) (bit : Bit) → length P.bodies ≤ b → StandsAt (U b) p r bit → HasChain P s tables (AtRegister b p r bit)
  none_stands b p r bit le h =
      let e : U b ≡ [] = least_unique P s b (U b) [] (final b) (empty_is b (past_points b P.bodies le)) in
      absurd (no h.env (subst (λ T. env_in T p ≡ Some h.env) e h.reached))
    where
      no : (f : Env) → env_in [] p ≡ Some f → ⊥
      no f i = cc

  pub each_has_chain : (x : Item) → Stands s tables x → HasChain P s tables x
  each_has_chain (AtSlot k bit) h = slots_supported k bit h
  each_has_chain (AtRegister b p r bit) h = ⊎_elim
      (λ lt. table_explained grows P s tables b (can.inside b lt) (final b) s (quals_refl s) slots_supported (U b) (final b) p h.env h.reached r bit h.has)
      (λ le. none_stands b p r bit le h)
      (cases_lt b (length P.bodies))
