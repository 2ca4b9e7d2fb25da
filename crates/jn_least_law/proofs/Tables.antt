-- A lesser signature has lesser least tables, of bodies that are there and of those that aren't.
use Rattle.std.proofs.Common.{◌≡◌, ⊎_elim, ℕ, ◌<◌, ◌≤◌, List, [], length, replicate, sym, ap, subst}
use Rattle.std.specs.Prelude.{slice_set, Some, None}
use Rattle.std.proofs.lemmas.Bool.{cases_lt}
use Rattle.jn_quals.specs.Qualifier.{Qualifier}
use Rattle.jn_points.specs.declared.point.Point.{Point}
use Rattle.jn_points.specs.declared.program.Program.{Program}
use Rattle.jn_points.specs.Lookup.{body_at, points_of}
use Rattle.jn_env.specs.Order.{QualsWithin, Table, TableWithin}
use Rattle.jn_transfer.specs.Least.{IsLeastTable, all_edges, flow_all}
use Rattle.jn_transfer.specs.Transfer.{entry_env}
use Rattle.jn_tables_law.specs.Inferable.{IsInferable}
use Rattle.jn_tables_law.proofs.Climbing.{least_unique}
use Rattle.jn_tables_law.proofs.LeastTables.{past_points}
use Rattle.jn_tables_law.proofs.Tables.{tables_above}

-- the table of a body that isn't there
empty_is : (P : Program) (s : List Qualifier) (b : ℕ) → points_of (body_at P b) ≡ [] → IsLeastTable P s b []
empty_is P s b e = record {
  turns = 0;
  made = sym (ap (λ (points : List Point). slice_set (replicate (length points) None) 0 (Some (entry_env P s b))) e);
  stable = ap (λ (points : List Point). flow_all (all_edges P s b points 0 []) []) e;
}

pub least_within : (P : Program) → IsInferable P → (s t : List Qualifier) → QualsWithin t s → (b : ℕ) (T U : Table) → IsLeastTable P t b T → IsLeastTable P s b U → TableWithin T U
least_within P can s t less b T U low high = ⊎_elim
    (λ (inside : b < length P.bodies). tables_above P t s b less T U (can.inside b inside) low high)
    (λ (past : length P.bodies ≤ b).
    let none = past_points b P.bodies past in
    let mine : T ≡ [] = least_unique P t b T [] low (empty_is P t b none) in
    let other : U ≡ [] = least_unique P s b U [] high (empty_is P s b none) in
    subst (λ u. TableWithin T u) (sym other) (subst (λ u. TableWithin u []) (sym mine) tt))
    (cases_lt b (length P.bodies))
