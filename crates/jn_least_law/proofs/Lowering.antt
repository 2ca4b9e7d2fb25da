-- What is accepted under some signature that keeps what is written is accepted under the least one.
use Rattle.std.proofs.Common.{◌≡◌, ⊎_elim, ℕ, ◌<◌, ◌≤◌, false, List, [], length, sym, ◌∙◌, arith}
use Rattle.std.specs.Prelude.{slice_get, slice_index_or}
use Rattle.std.proofs.lemmas.Bool.{cases_lt}
use Rattle.std.proofs.lemmas.List.{get_or_past}
use Rattle.jn_quals.specs.Qualifier.{Qualifier}
use Rattle.jn_quals.specs.Order.{no_qual}
use Rattle.jn_points.specs.declared.program.Program.{Program}
use Rattle.jn_points.specs.Members.{below}
use Rattle.jn_env.specs.Order.{QualsWithin, TableWithin}
use Rattle.jn_transfer.specs.Contributions.{is_inferred}
use Rattle.jn_transfer.specs.Rules.{Breaks, bodies_rows, pairs_rows}
use Rattle.jn_soundness.specs.Accepting.{IsAccepted}
use Rattle.jn_tables_law.proofs.Inferring.{regular_inferable}
use Rattle.jn_tables_law.proofs.LeastTables.{tables_least, tables_of}
use Rattle.jn_inference_law.specs.Solution.{IsLeastSignature}
use Rattle.jn_inference_law.proofs.LeastSignature.{length-start}
use Rattle.jn_cert_law.specs.Holds.{KeepsWritten}
use Rattle.jn_cert_law.proofs.Shrink.{bodies_below, no_left, no_right, none_both}
use Rattle.jn_cert_exists_law.proofs.Written.{length-within}
use Rattle.jn_least_law.proofs.Narrowing.{bodies_none}
use Rattle.jn_least_law.proofs.Pairs.{pairs_none}
use Rattle.jn_least_law.proofs.Tables.{least_within}

module _ (P : Program) (s t : List Qualifier) (is : IsAccepted P s) (kept : KeepsWritten P s) (least : IsLeastSignature P t) (own : KeepsWritten P t) where
  less : QualsWithin t s
  less = least.least s is.closed is.starts

  -- both have what is written
  same : (n : ℕ) → is_inferred (slice_get P.slots n) ≡ false → slice_index_or s n no_qual ≡ slice_index_or t n no_qual
  same n written = ⊎_elim
      (λ (inside : n < length P.slots). kept n inside written ∙ sym (own n inside written))
      (λ (past : length P.slots ≤ n).
      let long = length-start P in
      let first = length-within _ s is.starts in
      let other = length-within _ t least.starts in
      get_or_past s n no_qual (omega (arith, past, long, first)) ∙ sym (get_or_past t n no_qual (omega (arith, past, long, other))))
      (cases_lt n (length P.slots))

  pub unbroken : Breaks P t []
  unbroken =
      let can = regular_inferable P is.regular in
      let tables = tables_of P can t in
      let others = is.unbroken.tables in
      let numbers = below (length P.bodies) in
      let none = sym is.unbroken.all in
      let fewer : (b : ℕ) → TableWithin (slice_index_or tables b []) (slice_index_or others b []) = λ b. least_within P can s t less b (slice_index_or tables b []) (slice_index_or others b []) (tables_least P can t b) (is.unbroken.least b) in
      let low : bodies_rows P s numbers tables ≡ [] = bodies_below P s tables others fewer numbers (no_left (bodies_rows P s numbers others) (pairs_rows P s) none) in
      let bodies = bodies_none P s t same tables (least.closed.bodies tables (tables_least P can t)) numbers low in
      let pairs = pairs_none P s t same less least.closed (no_right (bodies_rows P s numbers others) (pairs_rows P s) none) in
      record { tables = tables; least = tables_least P can t; all = sym (none_both (bodies_rows P t numbers tables) (pairs_rows P t) bodies pairs) }

  pub accepted_under : IsAccepted P t
  accepted_under = record { regular = is.regular; typed = is.typed; closed = least.closed; starts = least.starts; unbroken = unbroken }
