-- A table that respects the edges under a greater signature does under a smaller one; so least tables grow with the signature.
use Rattle.std.proofs.Common.{ℕ, List, Some}
use Rattle.jn_quals.specs.Qualifier.{Qualifier}
use Rattle.jn_points.specs.declared.program.Program.{Program}
use Rattle.jn_env.specs.Order.{env_in, QualsWithin, Table, TableWithin}
use Rattle.jn_env.proofs.Order.{slot_trans}
use Rattle.jn_transfer.specs.Least.{IsLeastTable, Respects}
use Rattle.jn_transfer.specs.Sized.{StaysInside}
use Rattle.jn_transfer.specs.Transfer.{entry_env}
use Rattle.jn_tables_law.proofs.Climbing.{least_is_table, least_least, least_respects}
use Rattle.jn_tables_law.proofs.Signatures.{entry_above, edges_above}
use Rattle.jn_env.proofs.Order.{env_refl}

module _ (P : Program) (s t : List Qualifier) (b : ℕ) (w : QualsWithin s t) where
  respects_below : (U : Table) → Respects P t b U → Respects P s b U
  respects_below U R = record {
    entry = slot_trans (Some (entry_env P s b)) (Some (entry_env P t b)) (env_in U 0) (entry_above s t w P b) R.entry;
    edges = λ p pt e there reached x m.
        let c = edges_above s t w P b pt.kind p e e x (env_refl e) m in
        slot_trans (Some x.1) (Some c.env) (env_in U x.0) c.above (R.edges p pt e there reached (x.0, c.env) c.there);
  }

  pub tables_above : (T U : Table) → StaysInside P b → IsLeastTable P s b T → IsLeastTable P t b U → TableWithin T U
  tables_above T U inside lt lu = least_least P s b inside T U lt (least_is_table P t b inside U lu).long (respects_below U (least_respects P t b inside U lu))
