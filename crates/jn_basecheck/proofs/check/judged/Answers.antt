use Rattle.std.proofs.Common.{◌≡◌, ◌<◌, ◌↔◌, List, length, arith, rules, Contains}
use Rattle.jn_base.specs.declared.place.Row.{Row}
use Rattle.jn_points.specs.declared.program.Program.{Program}
use Rattle.jn_points.specs.BaseRows.{IsBaseRow, NoBaseRows}
use Rattle.jn_basecheck.proofs.check.judged.Goals as goal

no_rows : (P : Program) (rows : List Row) → ((row : Row) → Contains rows row ↔ IsBaseRow P row) → length rows ≡ 0 → NoBaseRows P
no_rows P rows all empty row base = let h = (all row).1 base in let lt : h.0 < length rows = h.1 in absurd (omega arith)

pub of-requires-clause-typed : goal.of-requires-clause-typed
of-requires-clause-typed c =
    let empty : length c.args.rows.items ≡ 0 = search rules in
    no_rows c.args.program c.args.rows.items c.requires.rows empty

pub returns-then-is_empty-clause-typed : goal.returns-then-is_empty-clause-typed
returns-then-is_empty-clause-typed c =
    let empty : length c.args.rows.items ≡ 0 = search rules in
    no_rows c.args.program c.args.rows.items c.requires.rows empty
