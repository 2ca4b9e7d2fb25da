-- Rows and files that are gone through.
use Rattle.std.proofs.Common.{◌≡◌, ℕ, zero, suc, ◌+◌, ◌<◌, Bool, true, false, List, [], ◌∷◌, ◌++◌, cond, drop, length, get_or, Some, append_assoc, refl, sym, ap, ◌∙◌, arith}
use Rattle.std.specs.Prelude.{bytes_eq}
use Rattle.std.specs.List.{position_from}
use Rattle.std.proofs.lemmas.List.{drop_more}
use Rattle.jn_base.specs.declared.place.Row.{Row}
use Rattle.jn_front.specs.declared.source.SourceFile.{SourceFile}
use Rattle.jn_lsp_text.specs.declared.encoding.Encoding.{Encoding}
use Rattle.jn_lsp_text.specs.declared.reply.Diagnostic.{Diagnostic}
use Rattle.jn_note_words.specs.declared.note.Note.{Note}
use Rattle.jn_note_words.specs.declared.note.Notes.{Notes}
use Rattle.jn_recheck.specs.Files.{is_named}
use Rattle.jn_lsp.specs.declared.diagnostics.Told.{Told}
use Rattle.jn_lsp.specs.Telling.{diagnostics_at, diagnostics_of, diagnostics_of_place, diagnostics_of_row, notes_behind, shown_at, told_from, told_of}

behind_suc : (notes : List Notes) (i : ℕ) → notes_behind (drop i notes) ≡ drop (suc i) notes
behind_suc [] zero = refl
behind_suc [] (suc i) = refl
behind_suc (first ∷ notes) zero = refl
behind_suc (first ∷ notes) (suc i) = behind_suc notes i

behind_drop : (notes : List Notes) (i : ℕ) → notes_behind (drop i notes) ≡ drop (i + 1) notes
behind_drop notes i = let e : suc i ≡ i + 1 = omega arith in behind_suc notes i ∙ ap (λ n. drop n notes) e

module _ (encoding : Encoding) (files : List SourceFile) (rows : List Row) (notes : List Notes) where
  -- the diagnostics from a row on: the row's, and those after
  opened : (file i : ℕ) (d : Row) → i < length rows → diagnostics_at encoding files (drop i rows) (drop i notes) file ≡ diagnostics_of_row encoding files (get_or rows i d) (shown_at notes i) file ++ diagnostics_at encoding files (drop (i + 1) rows) (drop (i + 1) notes) file
  opened file i d lt =
      ap (λ rs. diagnostics_at encoding files rs (drop i notes) file) (drop_more rows i d lt)
      ∙ ap (λ ns. diagnostics_of_row encoding files (get_or rows i d) (shown_at notes i) file ++ diagnostics_at encoding files (drop (i + 1) rows) ns file) (behind_drop notes i)

  pub row_more : (file i : ℕ) (item : Row) (shown : List Note) (found more : List Diagnostic) → i < length rows → item ≡ get_or rows i item → shown ≡ shown_at notes i → found ++ diagnostics_at encoding files (drop i rows) (drop i notes) file ≡ diagnostics_at encoding files rows notes file → more ≡ found ++ diagnostics_of_row encoding files item shown file → more ++ diagnostics_at encoding files (drop (i + 1) rows) (drop (i + 1) notes) file ≡ diagnostics_at encoding files rows notes file
  row_more file i item shown found more lt is told was e =
      let rest = diagnostics_at encoding files (drop (i + 1) rows) (drop (i + 1) notes) file in
      let here = diagnostics_of_row encoding files (get_or rows i item) (shown_at notes i) file in
      let same : diagnostics_of_row encoding files item shown file ≡ here = ap (λ r. diagnostics_of_row encoding files r shown file) is ∙ ap (λ ns. diagnostics_of_row encoding files (get_or rows i item) ns file) told in
      ap (λ l. l ++ rest) (e ∙ ap (λ l. found ++ l) same) ∙ append_assoc found here rest ∙ ap (λ l. found ++ l) (sym (opened file i item lt)) ∙ was

-- ---- files

module _ (files : List SourceFile) (diagnostics : ℕ → List Diagnostic) where
  pub told_more : (i : ℕ) (item : SourceFile) (found : List Diagnostic) (one : Told) (told more : List Told) → i < length files → item ≡ get_or files i item → found ≡ diagnostics i → one ≡ record { name = item.name; diagnostics = found } → told ++ told_from diagnostics i (drop i files) ≡ told_from diagnostics 0 files → more ≡ told ++ one ∷ [] → more ++ told_from diagnostics (i + 1) (drop (i + 1) files) ≡ told_from diagnostics 0 files
  told_more i item found one told more lt is same are was e =
      let rest = told_from diagnostics (i + 1) (drop (i + 1) files) in
      let make : List ℕ → List Diagnostic → Told = λ n ds. record { name = n; diagnostics = ds } in
      let here = make (get_or files i item).name (diagnostics i) in
      let alike : one ≡ here = are ∙ ap (λ (f : SourceFile). make f.name found) is ∙ ap (make (get_or files i item).name) same in
      ap (λ l. l ++ rest) (e ∙ ap (λ x. told ++ x ∷ []) alike) ∙ append_assoc told (here ∷ []) rest ∙ ap (λ l. told ++ l) (sym (ap (told_from diagnostics i) (drop_more files i item lt))) ∙ was

-- ---- what is told of a name

module _ (diagnostics : ℕ → List Diagnostic) where
  told_at : (at : ℕ) (files : List SourceFile) (name : List ℕ) → told_of (told_from diagnostics at files) name ≡ diagnostics_of_place diagnostics (position_from (is_named name) at files)
  told_at at [] name = refl
  told_at at (file ∷ files) name = case (bytes_eq file.name name) (told_at (at + 1) files name)
    where
      case : (b : Bool) → told_of (told_from diagnostics (at + 1) files) name ≡ diagnostics_of_place diagnostics (position_from (is_named name) (at + 1) files) → cond b (diagnostics at) (told_of (told_from diagnostics (at + 1) files) name) ≡ diagnostics_of_place diagnostics (cond b (Some at) (position_from (is_named name) (at + 1) files))
      case true r = refl
      case false r = r

  pub told_named : (files : List SourceFile) (name : List ℕ) → told_of (told_from diagnostics 0 files) name ≡ diagnostics_of diagnostics files name
  told_named files name = told_at 0 files name
