-- Rows of types, and their order.
use Rattle.std.proofs.Common.{◌≡◌, ◌↔◌, List, [], ◌∷◌, refl, arith}
use Rattle.std.specs.Prelude.{Contains}
use Rattle.jn_base.specs.declared.place.Row.{Row}
use Rattle.jn_points.specs.declared.program.Program.{Program}
use Rattle.jn_points.specs.BaseRows.{IsBaseRow, NoBaseRows}
use Rattle.jn_diag.specs.Order.{IsOrderOf}

-- some row
pub first_row : (rows : List Row) → (rows ≡ [] → ⊥) → (row : Row) × Contains rows row
first_row [] some = absurd (some refl)
first_row (row ∷ rows) some = (row, (0, omega arith, refl))

-- a program with a row of types has some
pub never_typed : (P : Program) (rows : List Row) → (rows ≡ [] → ⊥) → ((row : Row) → Contains rows row ↔ IsBaseRow P row) → NoBaseRows P → ⊥
never_typed P rows some are none =
    let r = first_row rows some in
    none r.0 ((are r.0).0 r.1)

-- lists with the same rows have one order
pub same_order : (ordered : (old one other : List Row) → IsOrderOf old one → IsOrderOf old other → one ≡ other) (Meant : Row → Type 0) (old more one other : List Row) → ((row : Row) → Contains old row ↔ Meant row) → ((row : Row) → Contains more row ↔ Meant row) → IsOrderOf old one → IsOrderOf more other → one ≡ other
same_order ordered Meant old more one other are those x y = ordered old one other x (record {
  sorted = y.sorted;
  same = λ row. (λ h. (are row).1 ((those row).0 ((y.same row).0 h)), λ h. (y.same row).1 ((those row).1 ((are row).0 h)));
})
