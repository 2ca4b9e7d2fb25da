-- Reusable bodies.
use Rattle.std.proofs.Common.{◌≡◌, ℕ}
use Rattle.jn_points.specs.Lookup.{body_at}
use Rattle.jn_env.specs.Order.{Table}
use Rattle.jn_transfer.specs.Least.{IsLeastTable}
use Rattle.jn_transfer.specs.Rules.{body_rows}
use Rattle.jn_recheck_law.specs.Reusable.{IsReusable, Solved}
use Rattle.jn_recheck_law.proofs.Seeing.{acts}
use Rattle.jn_recheck_law.proofs.RuleSlots.{least_kept}
use Rattle.jn_recheck_law.proofs.Rows.{rows_same}

module _ (old new : Solved) (b : ℕ) (t : Table) (r : IsReusable old new b) where
  pub table_kept : IsLeastTable old.program old.signature b t → IsLeastTable new.program new.signature b t
  table_kept l = least_kept old.names new.names old.program new.program old.signature new.signature r.declarations b (acts old.names new.names (body_at old.program b) (body_at new.program b) r.body) r.slots t l

  pub rows_kept : body_rows old.program old.signature b t ≡ body_rows new.program new.signature b t
  rows_kept = rows_same old.names new.names old.program new.program old.signature new.signature r.declarations b r.body r.slots t r.span
