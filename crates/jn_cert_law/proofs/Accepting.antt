-- What holds of a program by some tables holds by the least ones.
use Rattle.std.proofs.Common.{◌≡◌, ⊎_elim, ℕ, ◌<◌, List, [], length, replicate, Option, Some, None, sym, ap, subst, arith}
use Rattle.std.specs.Prelude.{slice_index_or, slice_set}
use Rattle.std.proofs.lemmas.Bool.{cases_lt}
use Rattle.std.proofs.lemmas.List.{get_or_past}
use Rattle.jn_quals.specs.Qualifier.{Qualifier}
use Rattle.jn_quals.specs.Order.{no_qual}
use Rattle.jn_quals.proofs.Order.{within_trans}
use Rattle.jn_points.specs.declared.point.Point.{Point}
use Rattle.jn_points.specs.declared.program.Program.{Program}
use Rattle.jn_points.specs.Lookup.{points_of, body_at}
use Rattle.jn_points.specs.Members.{below}
use Rattle.jn_env.specs.Environment.{Env}
use Rattle.jn_env.specs.Order.{Table, TableWithin}
use Rattle.jn_env.proofs.Order.{table_refl}
use Rattle.jn_transfer.specs.Closing.{IsClosed, IsClosedUnderBodies, IsNotBelowStart}
use Rattle.jn_transfer.specs.Least.{IsLeastTable, all_edges, flow_all}
use Rattle.jn_transfer.specs.Transfer.{entry_env}
use Rattle.jn_transfer.specs.Rules.{Breaks, bodies_rows, pairs_rows}
use Rattle.jn_tables_law.proofs.Climbing.{least_least, least_respects, least_unique}
use Rattle.jn_contrib.proofs.Sent.{of_a_point, of_the_body}
use Rattle.jn_tables_law.proofs.Sends.{sent_above}
use Rattle.jn_tables_law.specs.Inferable.{IsInferable}
use Rattle.jn_tables_law.proofs.LeastTables.{past_points}
use Rattle.jn_tables_law.proofs.LeastTables.{tables_least, tables_of}
use Rattle.jn_cert_law.specs.Holds.{Holds, KeepsWritten}
use Rattle.jn_cert_form.specs.Form.{AreParts}
use Rattle.jn_cert_law.proofs.Shrink.{bodies_below, no_left, no_right, none_both}

-- the table of a body that isn't there
module _ (P : Program) (s : List Qualifier) where
  empty_is : (b : ℕ) → points_of (body_at P b) ≡ [] → IsLeastTable P s b []
  empty_is b e = record {
    turns = 0;
    made = sym (ap (λ (pts : List Point). slice_set (replicate (length pts) None) 0 (Some (entry_env P s b))) e);
    stable = ap (λ (pts : List Point). flow_all (all_edges P s b pts 0 []) []) e;
  }

module _ (P : Program) (can : IsInferable P) (s : List Qualifier) (tables : List (List (Option Env))) (parts : AreParts P s tables) (h : Holds P s tables) where
  -- the least table of each body is within the one given
  pub least_within : (b : ℕ) (t : Table) → IsLeastTable P s b t → TableWithin t (slice_index_or tables b [])
  least_within b t is = ⊎_elim
      (λ lt. least_least P s b (can.inside b lt) t (slice_index_or tables b []) is (parts.each b lt).long (h.respects b lt))
      (λ le.
      let mine : t ≡ [] = least_unique P s b t [] is (empty_is P s b (past_points b P.bodies le)) in
      let given : slice_index_or tables b [] ≡ [] = get_or_past tables b [] (let n = parts.bodies in omega (arith, le, n)) in
      subst (λ u. TableWithin t u) (sym given) (subst (λ u. TableWithin u []) (sym mine) tt))
      (cases_lt b (length P.bodies))

  -- so nothing more is sent under them
  bodies_closed : IsClosedUnderBodies P s
  bodies_closed ts least b p pt e at reached x m =
      let t = slice_index_or ts b [] in
      let u = slice_index_or tables b [] in
      let sent = of_the_body P b t x (record { place = p; point = pt; env = e; there = at; reached = reached; sent = m }) in
      let c = sent_above P b t u (least_within b t (least b)) x sent in
      let by = of_a_point P b u (x.0, c.qual) c.there in
      let limit = h.closed b by.place by.point by.env by.there by.reached (x.0, c.qual) by.sent in
      within_trans x.1 c.qual (slice_index_or s x.0 no_qual) c.above limit

  pub holds_closed : IsClosed P s
  holds_closed = record { bodies = bodies_closed; pairs = h.pairs }

  -- and no rule is broken under them
  pub holds_unbroken : Breaks P s []
  holds_unbroken =
      let ts = tables_of P can s in
      let numbers = below (length P.bodies) in
      let bodies : bodies_rows P s numbers ts ≡ [] = bodies_below P s ts tables (λ b. least_within b (slice_index_or ts b []) (tables_least P can s b)) numbers (no_left (bodies_rows P s numbers tables) (pairs_rows P s) h.unbroken) in
      let pairs : pairs_rows P s ≡ [] = no_right (bodies_rows P s numbers tables) (pairs_rows P s) h.unbroken in
      record { tables = ts; least = tables_least P can s; all = sym (none_both (bodies_rows P s numbers ts) (pairs_rows P s) bodies pairs) }

-- under a closed signature the least tables hold where no rule is broken under them
module _ (P : Program) (can : IsInferable P) (s : List Qualifier) (tables : List (List (Option Env))) (count : length tables ≡ length P.bodies) (least : (b : ℕ) → b < length P.bodies → IsLeastTable P s b (slice_index_or tables b [])) where
  least_all : (b : ℕ) → IsLeastTable P s b (slice_index_or tables b [])
  least_all b = ⊎_elim
      (λ lt. least b lt)
      (λ le.
      let past : slice_index_or tables b [] ≡ [] = get_or_past tables b [] (omega (arith, le, count)) in
      subst (IsLeastTable P s b) (sym past) (empty_is P s b (past_points b P.bodies le)))
      (cases_lt b (length P.bodies))

  pub least_holds : IsClosed P s → IsNotBelowStart P s → KeepsWritten P s → Breaks P s [] → Holds P s tables
  least_holds closed starts written breaks =
      let ts = breaks.tables in
      let numbers = below (length P.bodies) in
      let same : (b : ℕ) → TableWithin (slice_index_or tables b []) (slice_index_or ts b []) = λ b. subst (λ t. TableWithin t (slice_index_or ts b [])) (sym (least_unique P s b (slice_index_or tables b []) (slice_index_or ts b []) (least_all b) (breaks.least b))) (table_refl (slice_index_or ts b [])) in
      let none = sym breaks.all in
      record {
        starts = starts;
        written = written;
        respects = λ b lt. least_respects P s b (can.inside b lt) (slice_index_or tables b []) (least b lt);
        unbroken = none_both (bodies_rows P s numbers tables) (pairs_rows P s) (bodies_below P s tables ts same numbers (no_left (bodies_rows P s numbers ts) (pairs_rows P s) none)) (no_right (bodies_rows P s numbers ts) (pairs_rows P s) none);
        closed = closed.bodies tables least_all;
        pairs = closed.pairs;
      }
