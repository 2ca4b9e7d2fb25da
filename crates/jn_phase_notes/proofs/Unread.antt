-- Types are read of rows J7 alone.
use Rattle.std.proofs.Common.{◌≡◌, ℕ, Bool, true, false, ◌||◌, List, [], ◌∷◌, refl, ap, ◌∙◌, map}
use Rattle.jn_base.specs.declared.code.Code.{Code}
use Rattle.jn_base.specs.declared.code.Code.TheVariants.{J1, J2, J5, J7}
use Rattle.jn_base.specs.declared.place.Row.{Row}
use Rattle.jn_base.specs.declared.place.Span.{Span}
use Rattle.jn_points.specs.declared.program.Program.{Program}
use Rattle.jn_points.specs.Members.{some_of}
use Rattle.jn_places.specs.Placed.{PlacedFile}
use Rattle.jn_heads.specs.declared.head.ClassHead.{ClassHead}
use Rattle.jn_heads.specs.Extract.{heads}
use Rattle.jn_classtable.specs.Table.{table}
use Rattle.jn_type_notes.specs.Mismatched.{is_of_types, is_type_row}
use Rattle.jn_phase_notes.specs.declared.trees.Gathered.{Gathered}
use Rattle.jn_phase_notes.specs.Trees.{gathered, notes_by, row_notes}

never : false ≡ true → ⊥
never e = cc

front : (a b : Bool) → a ≡ true → (a || b) ≡ true
front a b e = ap (λ x. x || b) e

back : (a b : Bool) → b ≡ true → (a || b) ≡ true
back true b e = refl
back false b e = e

module _ (names : List (List ℕ)) (hs : List ClassHead) (P : Program) (trees : List PlacedFile) where
  code_same : (typed : Bool) (span : Span) (code : Code) → (is_of_types code ≡ true → typed ≡ true) → notes_by names hs P (gathered typed names trees) span code ≡ notes_by names hs P (gathered true names trees) span code
  code_same true span code h = refl
  code_same false span J7 h = absurd (never (h refl))
  code_same false span J1 h = refl
  code_same false span J2 h = refl
  code_same false span J5 h = refl
  code_same false span code h = refl

  rows_same : (typed : Bool) (rows : List Row) → (some_of is_type_row rows ≡ true → typed ≡ true) → map (λ (row : Row). notes_by names hs P (gathered typed names trees) row.span row.code) rows ≡ map (λ (row : Row). notes_by names hs P (gathered true names trees) row.span row.code) rows
  rows_same typed [] h = refl
  rows_same typed (row ∷ rows) h = λ i. code_same typed row.span row.code (λ e. h (front (is_type_row row) (some_of is_type_row rows) e)) i ∷ rows_same typed rows (λ e. h (back (is_type_row row) (some_of is_type_row rows) e)) i

-- so notes by what was read where some row is J7 are those by all of it
pub all_same : (names : List (List ℕ)) (trees : List PlacedFile) (rows : List Row) (hs : List ClassHead) (x : Gathered) (typed : Bool) → hs ≡ heads trees → x ≡ gathered typed names trees → typed ≡ some_of is_type_row rows → map (λ (row : Row). notes_by names hs (table hs) x row.span row.code) rows ≡ map (row_notes names trees) rows
all_same names trees rows hs x typed d g t =
    ap (λ (ys : List ClassHead). map (λ (row : Row). notes_by names ys (table ys) x row.span row.code) rows) d
    ∙ ap (λ (y : Gathered). map (λ (row : Row). notes_by names (heads trees) (table (heads trees)) y row.span row.code) rows) g
    ∙ rows_same names (heads trees) (table (heads trees)) trees typed rows (λ some. t ∙ some)
