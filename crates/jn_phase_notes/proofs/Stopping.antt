-- The notes of rows of files that have no trees.
use Rattle.std.proofs.Common.{◌≡◌, ◌≤◌, ◌<◌, ◌+◌, ℕ, zero, suc, Bool, true, false, List, [], ◌∷◌, ◌++◌, length, take, get_or, Option, Some, None, Result, Ok, Err, refl, sym, ap, ◌∙◌, subst, arith}
use Rattle.std.specs.Prelude.{IfOk, slice_get}
use Rattle.std.proofs.lemmas.List.{take_more}
use Rattle.jn_base.specs.declared.number.FileNo.{FileNo}
use Rattle.jn_base.specs.declared.place.Row.{Row}
use Rattle.jn_base.specs.declared.place.Span.{Span}
use Rattle.jn_follow.specs.declared.noting.StopNote.{StopNote}
use Rattle.jn_follow.specs.StopNotes.{NoteBeside}
use Rattle.jn_front.specs.declared.source.SourceFile.{SourceFile}
use Rattle.jn_front.specs.declared.source.SourceRead.{SourceRead}
use Rattle.jn_front.specs.Files.{files_of_reads}
use Rattle.jn_note_words.specs.declared.note.Notes.{Notes}
use Rattle.jn_notes.specs.Noted.{no_notes}
use Rattle.jn_phase_notes.specs.Stops.{AreStops, AreStopsBy, AreStopsIn, is_syntax, stop_notes}

-- ---- the notes of so many rows

none_in : (reads : List SourceRead) (i : ℕ) → length reads ≤ i → slice_get (files_of_reads reads) i ≡ None
none_in [] i le = refl
none_in (read ∷ reads) zero le = absurd (omega (arith, le))
none_in (read ∷ reads) (suc i) le = none_in reads i (omega (arith, le))

some_in : (reads : List SourceRead) (i : ℕ) (d : SourceRead) → i < length reads → slice_get (files_of_reads reads) i ≡ Some (get_or reads i d).file
some_in [] i d lt = absurd (omega (arith, lt))
some_in (read ∷ reads) zero d lt = refl
some_in (read ∷ reads) (suc i) d lt = some_in reads i d (omega (arith, lt))

module _ {E : Type 0} (reads : List SourceRead) (span : Span) where
  -- of a place in a file that was read
  pub stops_there : (read : SourceRead) (r : Result Notes E) → span.file.0 < length reads → read ≡ get_or reads span.file.0 read → IfOk r (λ notes. AreStopsIn (Some read.file) span notes) → IfOk r (λ notes. AreStopsIn (slice_get (files_of_reads reads) span.file.0) span notes)
  stops_there read (Ok notes) lt is h = subst (λ f. AreStopsIn f span notes) (ap (λ (x : SourceRead). Some x.file) is ∙ sym (some_in reads span.file.0 read lt)) h
  stops_there read (Err e) lt is h = tt

  -- of one in no file
  pub stops_nowhere : (r : Result Notes E) → length reads ≤ span.file.0 → IfOk r (λ notes. notes ≡ no_notes) → IfOk r (λ notes. AreStopsIn (slice_get (files_of_reads reads) span.file.0) span notes)
  stops_nowhere (Ok notes) le is = subst (λ f. AreStopsIn f span notes) (sym (none_in reads span.file.0 le)) is
  stops_nowhere (Err e) le is = tt

-- the note as the one of a row
pub noted_in : {E : Type 0} (file : SourceFile) (text : List ℕ) (span : Span) (found : Option StopNote) (r : Result Notes E) → text ≡ file.bytes → NoteBeside span.file text span found → IfOk r (λ notes. notes ≡ stop_notes found) → IfOk r (λ notes. AreStopsIn (Some file) span notes)
noted_in file text span found (Ok notes) same beside is = (found, subst (λ bytes. NoteBeside span.file bytes span found) same beside, is)
noted_in file text span found (Err e) same beside is = tt

module _ (files : List SourceFile) where
  abbrev pub IsStop : Row → Notes → Type 0
  IsStop row notes = AreStopsBy (is_syntax row.code) (slice_get files row.span.file.0) row.span notes

  both_more : (rows : List Row) (row : Row) (notes : List Notes) (n : Notes) → AreStops files rows notes → IsStop row n → AreStops files (rows ++ row ∷ []) (notes ++ n ∷ [])
  both_more [] row [] n h g = (g, tt)
  both_more [] row (m ∷ notes) n h g = absurd h
  both_more (r ∷ rows) row [] n h g = absurd h
  both_more (r ∷ rows) row (m ∷ notes) n h g = (h.0, both_more rows row notes n h.1 g)

  pub row_more : (rows : List Row) (i : ℕ) (d : Row) (n : Notes) (old new : List Notes) → i < length rows → IsStop (get_or rows i d) n → new ≡ old ++ n ∷ [] → AreStops files (take i rows) old → AreStops files (take (i + 1) rows) new
  row_more rows i d n old new lt g h e =
      subst (AreStops files (take (i + 1) rows)) (sym h)
      (subst (λ (rs : List Row). AreStops files rs (old ++ n ∷ [])) (sym (take_more rows i d lt))
      (both_more (take i rows) (get_or rows i d) old n e g))

-- ---- one list of notes

module _ (alone : (file : FileNo) (text : List ℕ) (row : Span) (one other : Option StopNote) → NoteBeside file text row one → NoteBeside file text row other → one ≡ other) where
  in_once : (file : Option SourceFile) (span : Span) (n m : Notes) → AreStopsIn file span n → AreStopsIn file span m → n ≡ m
  in_once None span n m x y = x ∙ sym y
  in_once (Some file) span n m (a, x, p) (b, y, q) = p ∙ ap stop_notes (alone span.file file.bytes span a b x y) ∙ sym q

  by_once : (b : Bool) (file : Option SourceFile) (span : Span) (n m : Notes) → AreStopsBy b file span n → AreStopsBy b file span m → n ≡ m
  by_once false file span n m x y = x ∙ sym y
  by_once true file span n m x y = in_once file span n m x y

  pub each_once : (files : List SourceFile) (rows : List Row) (ns ms : List Notes) → AreStops files rows ns → AreStops files rows ms → ns ≡ ms
  each_once files [] [] [] x y = refl
  each_once files [] [] (m ∷ ms) x y = absurd y
  each_once files [] (n ∷ ns) ms x y = absurd x
  each_once files (row ∷ rows) [] ms x y = absurd x
  each_once files (row ∷ rows) (n ∷ ns) [] x y = absurd y
  each_once files (row ∷ rows) (n ∷ ns) (m ∷ ms) x y =
      ap (λ k. k ∷ ns) (by_once (is_syntax row.code) (slice_get files row.span.file.0) row.span n m x.0 y.0) ∙ ap (λ ks. m ∷ ks) (each_once files rows ns ms x.1 y.1)
