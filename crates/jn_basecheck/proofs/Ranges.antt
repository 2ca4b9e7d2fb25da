-- Rows of ranges of bodies, one after the other.
use Rattle.std.proofs.Common.{ℕ, ◌+◌, ◌≡◌, ◌<◌, ◌≤◌, ◌↔◌, inl, inr, true, false, Bool, List, [], ◌++◌, length, get_or, ap, ◌∙◌, subst, arith, Contains}
use Rattle.std.proofs.lemmas.List.Elements.{Contains-append_left, Contains-append_right, Contains-append_cases}
use Rattle.jn_base.specs.declared.place.Row.{Row}
use Rattle.jn_points.specs.declared.program.Program.{Program}
use Rattle.jn_points.specs.BaseRows.{IsBaseRow}
use Rattle.jn_basecheck.specs.Rows.{Adds, AreTyped, BodyRow, AreRowsOf}
use Rattle.jn_basecheck.proofs.Gather.{last_or}
use Rattle.jn_basecheck.proofs.Meant.{none_in, below_or, base_rows}

pub no_rows_yet : (P : Program) (from : ℕ) → AreRowsOf P from from []
no_rows_yet P from row = (
  λ h. absurd (none_in row h),
  λ q. let le : from ≤ q.0 = q.1 in let lt : q.0 < from = q.2 in absurd (omega arith),
)

pub rows_of_more : (P : Program) (from n : ℕ) (old new : List Row) → from ≤ n → AreRowsOf P from n old → Adds (BodyRow P n) old new → AreRowsOf P from (n + 1) new
rows_of_more P from n old new le here more row = (
  λ h. elim ((more row).0 h) [
    | inl o ↦ let q = (here row).0 o in let lt : q.0 < n = q.2 in (q.0, q.1, omega arith, q.3)
    | inr r ↦ (n, le, omega arith, r)
  ],
  λ q. (more row).1 (elim (last_or q.0 n q.2) [
    | inl lt ↦ inl ((here row).1 (q.0, q.1, lt, q.3))
    | inr same ↦ inr (subst (λ b. BodyRow P b row) same q.3)
  ]),
)

-- a body that is told to have no row has none
pub no_rows_told : (P : Program) (typed : List Bool) (b : ℕ) (rows : List Row) → AreTyped P typed → get_or typed b false ≡ true → rows ≡ [] → AreRowsOf P b (b + 1) rows
no_rows_told P typed b rows are told none row = (
  λ h. absurd (none_in row (subst (λ rs. Contains rs row) none h)),
  λ q. let low : b ≤ q.0 = q.1 in let high : q.0 < b + 1 = q.2 in let same : q.0 ≡ b = omega (arith, low, high) in absurd (are q.0 row (ap (λ n. get_or typed n false) same ∙ told) q.3),
)

pub behind_each_other : (P : Program) (from middle to : ℕ) (front back : List Row) → from ≤ middle → middle ≤ to → AreRowsOf P from middle front → AreRowsOf P middle to back → AreRowsOf P from to (front ++ back)
behind_each_other P from middle to front back low high first second row = (
  λ h. elim (Contains-append_cases front back row h) [
    | inl f ↦ let q = (first row).0 f in let lt : q.0 < middle = q.2 in (q.0, q.1, omega (arith, lt, high), q.3)
    | inr g ↦ let q = (second row).0 g in let le : middle ≤ q.0 = q.1 in (q.0, omega (arith, low, le), q.2, q.3)
  ],
  λ q. elim (below_or middle q.0) [
    | inl lt ↦ Contains-append_left front back row ((first row).1 (q.0, q.1, lt, q.3))
    | inr le ↦ Contains-append_right front back row ((second row).1 (q.0, le, q.2, q.3))
  ],
)

pub all_bodies : (P : Program) (n : ℕ) (rows : List Row) → n ≡ length P.bodies → AreRowsOf P 0 n rows → (row : Row) → Contains rows row ↔ IsBaseRow P row
all_bodies P n rows all here = base_rows P rows (λ row. (
  λ h. let q = (here row).0 h in inr (q.0, subst (λ m. q.0 < m) all q.2, q.3),
  λ h. elim h [
    | inl none ↦ absurd (none_in row none)
    | inr q ↦ let lt : q.0 < length P.bodies = q.1 in (here row).1 (q.0, omega arith, omega (arith, lt, all), q.2)
  ],
))
