-- Notes by what was read are those of the files.
use Rattle.std.proofs.Common.{◌≡◌, ◌<◌, ℕ, zero, suc, Bool, true, false, inl, inr, List, [], ◌∷◌, length, map, Some, None, Option, Result, refl, sym, ap, ◌∙◌, subst, arith}
use Rattle.std.specs.Prelude.{IfOk, Vec, slice_get}
use Rattle.std.specs.declared.alloc.Global.{Global}
use Rattle.jn_base.specs.declared.code.Code.{Code}
use Rattle.jn_base.specs.declared.code.Code.TheVariants.{B1, S1}
use Rattle.jn_base.specs.declared.place.Row.{Row}
use Rattle.jn_base.specs.declared.place.Span.{Span}
use Rattle.jn_command.specs.Stands.{StandsIn, StandIn}
use Rattle.jn_command.proofs.Standing.{many_limit}
use Rattle.jn_diag.specs.Order.{code_place}
use Rattle.jn_front.specs.declared.source.SourceFile.{SourceFile}
use Rattle.jn_front.specs.declared.source.SourceRead.{SourceRead}
use Rattle.jn_front.specs.Files.{AreReads, IsReadOf, files_of_reads, most_files}
use Rattle.jn_front.specs.Limits.{row_at}
use Rattle.jn_note_words.specs.declared.note.Notes.{Notes}
use Rattle.jn_phases.specs.Phases.{AreTreesOrNone, NoneParsed}
use Rattle.jn_places.specs.Placed.{PlacedFile}
use Rattle.jn_reporters.specs.Excerpts.{is_limit}
use Rattle.jn_phase_notes.specs.Phases.{AreNotesBy, PhaseNotes}
use Rattle.jn_phase_notes.specs.Stops.{AreStops, AreStopsBy, AreStopsIn, is_syntax}
use Rattle.jn_phase_notes.specs.Trees.{row_notes}

true_false : true ≡ false → ⊥
true_false e = cc

false_true : false ≡ true → ⊥
false_true e = cc

-- ---- what was read of a file with a syntax row is the file

syntax_is_no_limit : is_limit S1 ≡ false
unfolding code_place
syntax_is_no_limit = refl

no_limit : (code : Code) → is_syntax code ≡ true → is_limit code ≡ true → ⊥
no_limit S1 is limit = true_false (sym limit ∙ syntax_is_no_limit)
no_limit code is limit = false_true is

one_file : (read : SourceRead) (file : SourceFile) (row : Row) → IsReadOf read file → is_syntax row.code ≡ true → StandsIn (Some read) row → read.file ≡ file
one_file read file row (inl whole) is stands = whole.1
one_file read file row (inr part) is (inl whole) = absurd (true_false (sym whole ∙ part.0))
one_file read file row (inr part) is (inr start) = absurd (no_limit row.code is start.1)

pub same_file : (reads : List SourceRead) (files : List SourceFile) (k : ℕ) (row : Row) → AreReads reads files → is_syntax row.code ≡ true → StandsIn (slice_get reads k) row → slice_get (files_of_reads reads) k ≡ slice_get files k
same_file [] [] k row are is stands = refl
same_file [] (file ∷ files) k row are is stands = absurd are
same_file (read ∷ reads) [] k row are is stands = absurd are
same_file (read ∷ reads) (file ∷ files) zero row are is stands = ap (λ f. Some f) (one_file read file row are.0 is stands)
same_file (read ∷ reads) (file ∷ files) (suc k) row are is stands = same_file reads files k row are.1 is stands

by_same : (some other : Option SourceFile) (b : Bool) (span : Span) (notes : Notes) → (b ≡ true → some ≡ other) → AreStopsBy b some span notes → AreStopsBy b other span notes
by_same some other false span notes same is = is
by_same some other true span notes same is = subst (λ f. AreStopsIn f span notes) (same refl) is

all_stops : (reads : List SourceRead) (files : List SourceFile) (rows : List Row) (notes : List Notes) → AreReads reads files → StandIn reads rows → AreStops (files_of_reads reads) rows notes → AreStops files rows notes
all_stops reads files [] [] are stand h = tt
all_stops reads files [] (n ∷ notes) are stand h = absurd h
all_stops reads files (row ∷ rows) [] are stand h = absurd h
all_stops reads files (row ∷ rows) (n ∷ notes) are stand h = (
  by_same (slice_get (files_of_reads reads) row.span.file.0) (slice_get files row.span.file.0) (is_syntax row.code) row.span n (λ is. same_file reads files row.span.file.0 row are is stand.0) h.0,
  all_stops reads files rows notes are stand.1 h.1,
)

-- ---- by what is known of the files

module _ (files : List SourceFile) (trees : List PlacedFile) (rows : List Row) where
  pub by_texts : {E : Type 0} (names : List (List ℕ)) (r : Result (Vec Notes Global) E) → length names ≡ 0 → IfOk r (λ notes. AreStops files rows notes.items) → IfOk r (λ notes. AreNotesBy files names trees rows notes.items)
  by_texts [] r none h = h
  by_texts (name ∷ names) r none h = absurd (omega (arith, none))

  pub by_trees : {E : Type 0} (names : List (List ℕ)) (r : Result (Vec Notes Global) E) → (length names ≡ 0 → ⊥) → IfOk r (λ notes. notes.items ≡ map (row_notes names trees) rows) → IfOk r (λ notes. AreNotesBy files names trees rows notes.items)
  by_trees [] r some h = absurd (some refl)
  by_trees (name ∷ names) r some h = h

pub notes_of : (reads : List SourceRead) (files : List SourceFile) (names : List (List ℕ)) (trees : List PlacedFile) (rows : List Row) (notes : List Notes) → AreReads reads files → StandIn reads rows → AreTreesOrNone files names trees → AreNotesBy (files_of_reads reads) names trees rows notes → PhaseNotes files rows notes
notes_of reads files [] trees rows notes are stand none h = inl (record { unparsed = none; are = all_stops reads files rows notes are stand h })
notes_of reads files (name ∷ names) trees rows notes are stand some h = inr (record { names = name ∷ names; tokens = some.0; trees = trees; parsed = some.1; are = h })

-- ---- too many files

-- they have no trees
pub many_unparsed : (files : List SourceFile) → most_files < length files → NoneParsed files
many_unparsed files many names tokens trees parsed = never (many_limit files many ∙ parsed.within)
  where
    never : row_at most_files B1 ∷ [] ≡ [] → ⊥
    never e = cc

-- their one row has no note
no_stops : (some others : List SourceFile) (notes : List Notes) → AreStops some (row_at most_files B1 ∷ []) notes → AreStops others (row_at most_files B1 ∷ []) notes
no_stops some others [] h = absurd h
no_stops some others (n ∷ []) h = (h.0, tt)
no_stops some others (n ∷ m ∷ notes) h = absurd h.1

pub notes_of_many : (some files : List SourceFile) (rows : List Row) (notes : List Notes) → most_files < length files → row_at most_files B1 ∷ [] ≡ rows → AreStops some rows notes → PhaseNotes files rows notes
notes_of_many some files rows notes many is h = inl (record { unparsed = many_unparsed files many; are = subst (λ xs. AreStops files xs notes) is (no_stops some files notes (subst (λ xs. AreStops some xs notes) (sym is) h)) })
