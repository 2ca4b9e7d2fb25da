-- Rows of files, as a reader sees them.
use Rattle.std.proofs.Common.{◌≡◌, ℕ, zero, suc, ◌<◌, ◌≤◌, List, [], ◌∷◌, ◌++◌, length, take, drop, get_or, Option, Some, None, Result, Ok, Err, inl, inr, refl, sym, ap, ◌∙◌, subst, arith}
use Rattle.std.specs.Prelude.{◌⊎◌, IfOk, slice_get, slice_set}
use Rattle.jn_base.specs.declared.place.Row.{Row}
use Rattle.jn_diag.specs.declared.shown.RowText.{RowText}
use Rattle.jn_diag.specs.Shown.{row_shown}
use Rattle.jn_front.specs.declared.source.SourceFile.{SourceFile}
use Rattle.jn_diag.specs.declared.sweep.Position.{Position}
use Rattle.jn_diag.specs.Sweep.{IsPosition}
use Rattle.jn_command.specs.declared.show.Place.{Place}
use Rattle.jn_command.specs.Shown.{row_of_file}
use Rattle.jn_command.proofs.Showing.{start_is}
use Rattle.jn_recheck.specs.Places.{IsPlaceIn, text_of}
use Rattle.jn_recheck.specs.Sessions.{text_of_row}
use Rattle.jn_recheck.specs.Files.{AllFit, place_of, put_at, removed_at, with_file, without_file}
use Rattle.std.specs.List.{remove}

pub fits_at : (files : List SourceFile) (i : ℕ) (d : SourceFile) → AllFit files → i < length files → length (get_or files i d).bytes ≤ 1048577
fits_at [] i d fit lt = absurd (omega (arith, lt))
fits_at (file ∷ files) zero d fit lt = fit.0
fits_at (file ∷ files) (suc i) d fit lt = fits_at files i d fit.1 (omega (arith, lt))

file_there : (files : List SourceFile) (i : ℕ) (d : SourceFile) → i < length files → slice_get files i ≡ Some (get_or files i d)
file_there [] i d lt = absurd (omega (arith, lt))
file_there (file ∷ files) zero d lt = refl
file_there (file ∷ files) (suc i) d lt = file_there files i d (omega (arith, lt))

no_file : (files : List SourceFile) (i : ℕ) → length files ≤ i → slice_get files i ≡ None
no_file [] i le = refl
no_file (file ∷ files) zero le = absurd (omega (arith, le))
no_file (file ∷ files) (suc i) le = no_file files i (omega (arith, le))

-- a row of a file that is there
pub row_there : {E : Type 0} (files : List SourceFile) (i : ℕ) (file : SourceFile) (row : Row) (r : Result RowText E) → i ≡ row.span.file.0 → i < length files → file ≡ get_or files i file → IfOk r (λ t. t ≡ row_shown file.name file.bytes row) → IfOk r (λ t. t ≡ text_of_row files row)
row_there files i file row (Ok t) number lt is h =
    h ∙ ap (λ (f : Option SourceFile). (row_of_file f row).text) (sym (ap (slice_get files) (sym number) ∙ file_there files i file lt ∙ ap Some (sym is)))
row_there files i file row (Err e) number lt is h = tt

pub row_nowhere : {E : Type 0} (files : List SourceFile) (row : Row) (r : Result RowText E) → length files ≤ row.span.file.0 → IfOk r (λ t. t ≡ record { name = []; line = 1; col = 1; code = row.code }) → IfOk r (λ t. t ≡ text_of_row files row)
row_nowhere files row (Ok t) le is = is ∙ ap (λ (f : Option SourceFile). (row_of_file f row).text) (sym (no_file files row.span.file.0 le))
row_nowhere files row (Err e) le is = tt

-- ---- places

abbrev start : Position
start = record { before = 0; line = 1; column = 1 }

text_there : (files : List SourceFile) (i : ℕ) (file : SourceFile) → i < length files → file ≡ get_or files i file → text_of (slice_get files i) ≡ file.bytes
text_there files i file lt is = ap text_of (file_there files i file lt) ∙ ap (λ (f : SourceFile). f.bytes) (sym is)

-- the place stays, or is the beginning of another file
pub turned : (files : List SourceFile) (old new : Place) (i : ℕ) (file : SourceFile) → IsPlaceIn files old → ((new ≡ old) × (old.file ≡ i)) ⊎ (new ≡ record { file = i; position = start }) → i < length files → file ≡ get_or files i file → IsPosition file.bytes new.position
turned files old new i file is (inl (same, number)) lt at =
    subst (λ (p : Place). IsPosition file.bytes p.position) (sym same) (subst (λ text. IsPosition text old.position) (ap (λ n. text_of (slice_get files n)) number ∙ text_there files i file lt at) is)
turned files old new i file is (inr other) lt at = subst (λ (p : Place). IsPosition file.bytes p.position) (sym other) (start_is file.bytes)

turned_file : (old new : Place) (i : ℕ) → ((new ≡ old) × (old.file ≡ i)) ⊎ (new ≡ record { file = i; position = start }) → new.file ≡ i
turned_file old new i (inl (same, number)) = ap (λ (p : Place). p.file) same ∙ number
turned_file old new i (inr other) = ap (λ (p : Place). p.file) other

-- it goes on in the file
pub moved : (files : List SourceFile) (old turn new : Place) (i : ℕ) (file : SourceFile) → ((turn ≡ old) × (old.file ≡ i)) ⊎ (turn ≡ record { file = i; position = start }) → new.file ≡ turn.file → i < length files → file ≡ get_or files i file → IsPosition file.bytes new.position → IsPlaceIn files new
moved files old turn new i file turn_is stays lt at is =
    subst (λ text. IsPosition text new.position) (sym (ap (λ n. text_of (slice_get files n)) (stays ∙ turned_file old turn i turn_is) ∙ text_there files i file lt at)) is

-- the first file from its beginning
pub first_place : (files : List SourceFile) → IsPlaceIn files (record { file = 0; position = start })
first_place files = start_is (text_of (slice_get files 0))

-- ---- files that fit stay so when they are edited

fit_last : (files : List SourceFile) (file : SourceFile) → AllFit files → length file.bytes ≤ 1048577 → AllFit (files ++ file ∷ [])
fit_last [] file fit le = (le, tt)
fit_last (f ∷ fs) file fit le = (fit.0, fit_last fs file fit.1 le)

fit_set : (files : List SourceFile) (i : ℕ) (file : SourceFile) → AllFit files → length file.bytes ≤ 1048577 → AllFit (slice_set files i file)
fit_set [] i file fit le = tt
fit_set (f ∷ fs) zero file fit le = (le, fit.1)
fit_set (f ∷ fs) (suc i) file fit le = (fit.0, fit_set fs i file fit.1 le)

fit_put : (place : Option ℕ) (files : List SourceFile) (file : SourceFile) → AllFit files → length file.bytes ≤ 1048577 → AllFit (put_at place file files)
fit_put None files file fit le = fit_last files file fit le
fit_put (Some i) files file fit le = fit_set files i file fit le

pub fit_with : (name text : List ℕ) (files more : List SourceFile) → AllFit files → length text ≤ 1048577 → more ≡ with_file name text files → AllFit more
fit_with name text files more fit le e = subst AllFit (sym e) (fit_put (place_of name files) files (record { name = name; bytes = text }) fit le)

fit_take : (files : List SourceFile) (i : ℕ) → AllFit files → AllFit (take i files)
fit_take [] zero fit = tt
fit_take [] (suc i) fit = tt
fit_take (f ∷ fs) zero fit = tt
fit_take (f ∷ fs) (suc i) fit = (fit.0, fit_take fs i fit.1)

fit_drop : (files : List SourceFile) (i : ℕ) → AllFit files → AllFit (drop i files)
fit_drop [] zero fit = tt
fit_drop [] (suc i) fit = tt
fit_drop (f ∷ fs) zero fit = fit
fit_drop (f ∷ fs) (suc i) fit = fit_drop fs i fit.1

fit_both : (xs ys : List SourceFile) → AllFit xs → AllFit ys → AllFit (xs ++ ys)
fit_both [] ys a b = b
fit_both (x ∷ xs) ys a b = (a.0, fit_both xs ys a.1 b)

fit_remove : (files : List SourceFile) (i : ℕ) → AllFit files → AllFit (remove files i)
fit_remove files i fit = fit_both (take i files) (drop (suc i) files) (fit_take files i fit) (fit_drop files (suc i) fit)

fit_at : (place : Option ℕ) (files : List SourceFile) → AllFit files → AllFit (removed_at place files)
fit_at None files fit = fit
fit_at (Some i) files fit = fit_remove files i fit

pub fit_without : (name : List ℕ) (files more : List SourceFile) → AllFit files → more ≡ without_file name files → AllFit more
fit_without name files more fit e = subst AllFit (sym e) (fit_at (place_of name files) files fit)
