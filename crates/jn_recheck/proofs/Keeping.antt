-- A reusable body has under its least table the rows that it had.
use Rattle.std.proofs.Common.{◌≡◌, ℕ, zero, suc, ◌<◌, List, [], ◌∷◌, length, Option, ap, ◌∙◌, arith}
use Rattle.std.specs.Prelude.{slice_get}
use Rattle.jn_base.specs.declared.place.Row.{Row}
use Rattle.jn_points.specs.declared.program.Body.{Body}
use Rattle.jn_points.specs.declared.program.Program.{Program}
use Rattle.jn_points.specs.Lookup.{body_at}
use Rattle.jn_points.specs.Regular.{Regular}
use Rattle.jn_tables_law.specs.Inferable.{IsInferable, least_table}
use Rattle.jn_tables_law.proofs.Climbing.{least_unique}
use Rattle.jn_tables_law.proofs.LeastTables.{least_is}
use Rattle.jn_system.specs.Rows.{least_rows}
use Rattle.jn_transfer.specs.Rules.{body_rows}
use Rattle.jn_recheck_law.specs.Reusable.{IsReusable, SameBodies, Solved}
use Rattle.jn_recheck_law.proofs.Reusing.{rows_kept, table_kept}

-- a body that is there has a number below how many there are
there : (b : ℕ) (bodies : List Body) (names more : List (List ℕ)) (o : Option Body) → SameBodies names more (slice_get bodies b) o → b < length bodies
there b [] names more o h = absurd h
there zero (x ∷ bodies) names more o h = omega arith
there (suc b) (x ∷ bodies) names more o h = let lt = there b bodies names more o h in omega (arith, lt)

pub reusable_there : (old new : Solved) (b : ℕ) → IsReusable old new b → b < length old.program.bodies
reusable_there old new b r = there b old.program.bodies old.names new.names (body_at new.program b) r.body

least_kept : (old new : Solved) (b : ℕ) → IsInferable old.program → IsInferable new.program → b < length new.program.bodies → IsReusable old new b → least_rows old.program old.signature b ≡ least_rows new.program new.signature b
unfolding least_rows
least_kept old new b can could lt r =
    let t = least_table old.program old.signature b in
    let is = least_is old.program old.signature b (can.inside b (reusable_there old new b r)) in
    rows_kept old new b t r
    ∙ ap (body_rows new.program new.signature b) (least_unique new.program new.signature b t (least_table new.program new.signature b) (table_kept old new b t r is) (least_is new.program new.signature b (could.inside b lt)))

-- rows that are kept
pub reusable_rows : ((P : Program) → Regular P → IsInferable P) → (old new : Solved) (b : ℕ) (rows : List Row) → Regular old.program → IsInferable new.program → b < length new.program.bodies → IsReusable old new b → (b < length old.program.bodies → rows ≡ least_rows old.program old.signature b) → rows ≡ least_rows new.program new.signature b
reusable_rows inferable old new b rows regular could lt r are = are (reusable_there old new b r) ∙ least_kept old new b (inferable old.program regular) could lt r
