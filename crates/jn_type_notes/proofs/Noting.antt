-- Each row J7 of files has a note at its place.
use Rattle.std.proofs.Common.{◌≡◌, ◌+◌, ◌⊎◌, ◌↔◌, inl, inr, ⊎_elim, ℕ, zero, suc, Bool, true, false, cond, List, [], ◌∷◌, ◌++◌, Option, Some, None, refl, sym, ap, ◌∙◌, subst, arith, map}
use Rattle.std.specs.Prelude.{Contains, filter, flat_map, slice_get}
use Rattle.std.proofs.lemmas.List.{map-append}
use Rattle.std.proofs.lemmas.List.Elements.{Contains-append_left, Contains-append_right}
use Rattle.jn_base.specs.declared.code.Code.{Code}
use Rattle.jn_base.specs.declared.code.Code.TheVariants.{J7, J8, J9}
use Rattle.jn_base.specs.declared.infer.Infer.{Infer}
use Rattle.jn_base.specs.declared.infer.Infer.TheVariants.{Private}
use Rattle.jn_base.specs.declared.place.Row.{Row}
use Rattle.jn_base.specs.declared.place.Span.{Span}
use Rattle.jn_points.specs.declared.point.Point.{Point}
use Rattle.jn_points.specs.declared.point.PointKind.{PointKind}
use Rattle.jn_points.specs.declared.point.PointKind.TheVariants.{Return}
use Rattle.jn_points.specs.declared.program.Body.{Body}
use Rattle.jn_points.specs.declared.program.Method.{Method}
use Rattle.jn_points.specs.declared.program.Program.{Program}
use Rattle.jn_points.specs.Lookup.{body_at, method_in, point_at, points_of, result_base_of}
use Rattle.jn_points.specs.BaseRows.{IsBaseRow, ResultRow, TypeRow, UnassignedRow, is_void, name_of, result_rows, rows_with, type_rows}
use Rattle.jn_places.specs.Placed.{PlacedFile}
use Rattle.jn_classtable.specs.Rows.{t_rows}
use Rattle.jn_heads.specs.Extract.{heads}
use Rattle.jn_note_words.specs.declared.note.Note.{Note}
use Rattle.jn_program_law.specs.FileProgram.{inferring, j_rows, program_of_files}
use Rattle.jn_type_notes.specs.declared.mismatch.Mismatch.{Mismatch}
use Rattle.jn_type_notes.specs.Mismatched.{bodies_found, is_of_types, is_type_row, kind_found, points_found, program_found, row_of}
use Rattle.jn_type_notes.specs.Wording.{mismatch_note, note_span, notes_if, program_notes, type_notes}
use Rattle.jn_type_notes.proofs.Containing.{in_filter, in_map, none_in}
use Rattle.jn_type_notes.proofs.Same.{kind_same}

-- the row of one of them
abbrev Has : List Mismatch → Row → Type 0
Has ms row = Contains (map row_of ms) row

has_left : (ms ns : List Mismatch) (row : Row) → Has ms row → Has (ms ++ ns) row
has_left ms ns row h = subst (λ xs. Contains xs row) (sym (map-append row_of ms ns)) (Contains-append_left (map row_of ms) (map row_of ns) row h)

has_right : (ms ns : List Mismatch) (row : Row) → Has ns row → Has (ms ++ ns) row
has_right ms ns row h = subst (λ xs. Contains xs row) (sym (map-append row_of ms ns)) (Contains-append_right (map row_of ms) (map row_of ns) row h)

none_is : {A : Type 0} (x : A) → None ≡ Some x → ⊥
none_is x e = cc

some_is : {A : Type 0} (x y : A) → Some x ≡ Some y → x ≡ y
some_is x y e = cc

module _ (P : Program) (row : Row) where
  in_points : (b : ℕ) (points : List Point) (p : ℕ) (pt : Point) → slice_get points p ≡ Some pt → Has (kind_found P b pt.kind) row → Has (points_found P b points) row
  in_points b [] p pt e h = absurd (none_is pt e)
  in_points b (x ∷ xs) zero pt e h = has_left (kind_found P b x.kind) (points_found P b xs) row (subst (λ (z : Point). Has (kind_found P b z.kind) row) (sym (some_is x pt e)) h)
  in_points b (x ∷ xs) (suc p) pt e h = has_right (kind_found P b x.kind) (points_found P b xs) row (in_points b xs p pt e h)

  in_bodies : (n : ℕ) (bodies : List Body) (b : ℕ) (body : Body) → slice_get bodies b ≡ Some body → Has (points_found P (n + b) body.points) row → Has (bodies_found P n bodies) row
  in_bodies n [] b body e h = absurd (none_is body e)
  in_bodies n (x ∷ xs) zero body e h =
      let same : n + 0 ≡ n = omega arith in
      has_left (points_found P n x.points) (bodies_found P (suc n) xs) row (subst (λ k. Has (points_found P k x.points) row) same (subst (λ (z : Body). Has (points_found P (n + 0) z.points) row) (sym (some_is x body e)) h))
  in_bodies n (x ∷ xs) (suc b) body e h =
      let same : n + suc b ≡ suc n + b = omega arith in
      has_right (points_found P n x.points) (bodies_found P (suc n) xs) row (in_bodies (suc n) xs b body e (subst (λ k. Has (points_found P k body.points) row) same h))

  -- the point's body
  in_program : (b p : ℕ) (pt : Point) → point_at P b p ≡ Some pt → Has (kind_found P b pt.kind) row → Has (program_found P) row
  in_program b p pt e h = go (body_at P b) refl
    where
      go : (o : Option Body) → body_at P b ≡ o → Has (program_found P) row
      go None is = absurd (none_is pt (ap (λ (z : Option Body). slice_get (points_of z) p) (sym is) ∙ e))
      go (Some body) is =
          let same : b ≡ 0 + b = omega arith in
          in_bodies 0 P.bodies b body is (subst (λ k. Has (points_found P k body.points) row) same (in_points b body.points p pt (ap (λ (z : Option Body). slice_get (points_of z) p) (sym is) ∙ e) h))

  of_type : TypeRow P row → row.code ≡ J7 → Has (program_found P) row
  of_type t c = in_program t.b t.p t.pt t.there (subst (λ xs. Contains xs row) (kind_same P t.b t.pt.kind) (in_filter is_type_row (type_rows P t.b t.pt.kind) row t.broken (ap is_of_types c)))

never : true ≡ false → ⊥
never e = cc

module _ (P : Program) where
  names_none : (o : Option Method) → filter is_type_row (rows_with P J9 (name_of P o)) ≡ []
  names_none None = refl
  names_none (Some m) = refl

  result_none : (b : ℕ) (k : PointKind) → filter is_type_row (result_rows P b k) ≡ []
  result_none b (Return None) = go (is_void (result_base_of (method_in P b)))
    where
      go : (v : Bool) → filter is_type_row (cond v [] (rows_with P J9 (name_of P (method_in P b)))) ≡ []
      go true = refl
      go false = names_none (method_in P b)
  result_none b (Return (Some value)) = go (is_void (result_base_of (method_in P b)))
    where
      go : (v : Bool) → filter is_type_row (cond v (record { span = value.span; code = J9 } ∷ []) []) ≡ []
      go true = refl
      go false = refl
  result_none b k = refl

  not_unassigned : (row : Row) → UnassignedRow P row → row.code ≡ J7 → ⊥
  not_unassigned row u c = never (sym (ap is_of_types c) ∙ ap is_type_row u.is)

  not_result : (row : Row) → ResultRow P row → row.code ≡ J7 → ⊥
  not_result row r c = none_in row (subst (λ xs. Contains xs row) (result_none r.b r.pt.kind) (in_filter is_type_row (result_rows P r.b r.pt.kind) row r.broken (ap is_of_types c)))

  of_base : (row : Row) → IsBaseRow P row → row.code ≡ J7 → Has (program_found P) row
  of_base row base c = ⊎_elim (λ t. of_type P row t c) (λ o. ⊎_elim (λ u. absurd (not_unassigned row u c)) (λ r. absurd (not_result row r c)) o) base

abbrev span_of : Row → Span
span_of row = row.span

module _ (names : List (List ℕ)) (P : Program) where
  spans : (ms : List Mismatch) → map note_span (map (mismatch_note names P) ms) ≡ map span_of (map row_of ms)
  spans [] = refl
  spans (m ∷ ms) = ap (λ xs. m.span ∷ xs) (spans ms)

  noted : (row : Row) → Has (program_found P) row → Contains (map note_span (program_notes names P)) row.span
  noted row h = subst (λ (xs : List Span). Contains xs row.span) (sym (spans (program_found P))) (in_map span_of (map row_of (program_found P)) row h)

-- of files without a row before
pub all_noted : (names : List (List ℕ)) (infer : Infer) (trees : List PlacedFile) (row : Row) → (IsBaseRow (inferring infer trees) row ↔ IsBaseRow (program_of_files trees) row) → t_rows (heads trees) ≡ [] → j_rows trees ≡ [] → IsBaseRow (inferring infer trees) row → row.code ≡ J7 → Contains (map note_span (type_notes names trees)) row.span
all_noted names infer trees row same t j base c =
    let notes : List Note = program_notes names (program_of_files trees) in
    subst (λ xs. Contains (map note_span (notes_if xs (j_rows trees) notes)) row.span) (sym t)
    (subst (λ xs. Contains (map note_span (notes_if [] xs notes)) row.span) (sym j)
    (noted names (program_of_files trees) row (of_base (program_of_files trees) row (same.0 base) c)))

-- what the notes are where no row stands before, and where one does
pub notes_there : (ts js : List Row) (ns notes : List Note) → ts ≡ [] → js ≡ [] → notes ≡ ns → notes ≡ notes_if ts js ns
notes_there ts js ns notes t j e = e ∙ ap (λ xs. notes_if [] xs ns) (sym j) ∙ ap (λ xs. notes_if xs js ns) (sym t)

pub no_notes_by_bodies : (ts js : List Row) (ns notes : List Note) → ts ≡ [] → (js ≡ [] → ⊥) → notes ≡ [] → notes ≡ notes_if ts js ns
no_notes_by_bodies ts js ns notes t j e = e ∙ some js j ∙ ap (λ xs. notes_if xs js ns) (sym t)
  where
    some : (xs : List Row) → (xs ≡ [] → ⊥) → [] ≡ notes_if [] xs ns
    some [] no' = absurd (no' refl)
    some (x ∷ xs) no' = refl

pub no_notes_by_types : (ts js : List Row) (ns notes : List Note) → (ts ≡ [] → ⊥) → notes ≡ [] → notes ≡ notes_if ts js ns
no_notes_by_types ts js ns notes t e = e ∙ some ts t
  where
    some : (xs : List Row) → (xs ≡ [] → ⊥) → [] ≡ notes_if xs js ns
    some [] no' = absurd (no' refl)
    some (x ∷ xs) no' = refl
