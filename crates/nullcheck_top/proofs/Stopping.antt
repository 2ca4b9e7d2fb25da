-- The notes of rows of a phase that are shown.
use Rattle.std.proofs.Common.{◌≡◌, ◌<◌, ℕ, zero, suc, Bool, true, false, inl, inr, List, [], ◌∷◌, length, map, Option, Some, None, Result, refl, sym, ap, ◌∙◌, subst, arith}
use Rattle.std.specs.Prelude.{IfOk, Vec, slice_get}
use Rattle.std.specs.declared.alloc.Global.{Global}
use Rattle.jn_base.specs.declared.code.Code.{Code}
use Rattle.jn_base.specs.declared.code.Code.TheVariants.{B1, S1}
use Rattle.jn_base.specs.declared.infer.Infer.{Infer}
use Rattle.jn_base.specs.declared.number.FileNo.{FileNo}
use Rattle.jn_base.specs.declared.place.Row.{Row}
use Rattle.jn_base.specs.declared.place.Span.{Span}
use Rattle.jn_follow.specs.declared.noting.StopNote.{StopNote}
use Rattle.jn_follow.proofs.Noted.{note_file}
use Rattle.jn_front.specs.declared.source.SourceFile.{SourceFile}
use Rattle.jn_front.specs.declared.source.SourceRead.{SourceRead}
use Rattle.jn_front.specs.Files.{AreReads, IsReadOf, files_of_reads, most_files}
use Rattle.jn_front.specs.Limits.{row_at}
use Rattle.jn_places.specs.Placed.{PlacedFile}
use Rattle.jn_command.specs.declared.noted.Noted.{Noted}
use Rattle.jn_command.specs.declared.report.Report.{Report}
use Rattle.jn_command.specs.declared.report.Report.TheVariants.{Refused}
use Rattle.nullcheck_top.specs.CommandAnswer.{AreShownNotes}
use Rattle.jn_command.specs.Reports.{rows_of}
use Rattle.jn_command.specs.Shown.{note_of_file}
use Rattle.jn_command.specs.Stands.{StandsIn, StandIn}
use Rattle.jn_command.proofs.Standing.{many_limit, whole_files}
use Rattle.jn_diag.specs.Order.{code_place}
use Rattle.jn_reporters.specs.Excerpts.{is_limit}
use Rattle.jn_note_words.specs.declared.note.Notes.{Notes}
use Rattle.jn_phase_notes.specs.Stops.{AreStops, AreStopsBy, AreStopsIn, is_syntax, stop_notes}
use Rattle.jn_phase_notes.specs.Phases.{AreNotesBy, PhaseNotes as AreOfPhase}
use Rattle.jn_phase_notes.specs.Trees.{row_notes}
use Rattle.jn_phase_notes.proofs.Reading.{notes_of as by_reads, same_file}
use Rattle.jn_phases.specs.Phases.{AreTreesOrNone, NoneParsed}
use Rattle.jn_phases.proofs.OneTyping.{OneReading}
use Rattle.nullcheck_top.specs.Found.{AreAtHand}
use Rattle.nullcheck_top.specs.Report.{AreNotes, PhaseNotes, placed}

true_false : true ≡ false → ⊥
true_false e = cc

false_true : false ≡ true → ⊥
false_true e = cc

-- ---- the places of notes

module _ (some others : List SourceFile) where
  note_same : (span : Span) (note : StopNote) → note.span.file ≡ span.file → slice_get some span.file.0 ≡ slice_get others span.file.0 → placed some (stop_notes (Some note)) ≡ placed others (stop_notes (Some note))
  note_same span note file same =
      let at : slice_get some note.span.file.0 ≡ slice_get others note.span.file.0 =
      ap (λ (f : FileNo). slice_get some f.0) file ∙ same ∙ sym (ap (λ (f : FileNo). slice_get others f.0) file) in
      ap (λ f. record { notes = note_of_file f false false note.words note.span ∷ []; more = 0 }) at

  stops_same : (file : Option SourceFile) (span : Span) (notes : Notes) → AreStopsIn file span notes → slice_get some span.file.0 ≡ slice_get others span.file.0 → placed some notes ≡ placed others notes
  stops_same None span notes is same = ap (placed some) is ∙ sym (ap (placed others) is)
  stops_same (Some file) span notes (None, beside, is) same = ap (placed some) is ∙ sym (ap (placed others) is)
  stops_same (Some file) span notes (Some note, beside, is) same = ap (placed some) is ∙ note_same span note (note_file span.file file.bytes span note beside) same ∙ sym (ap (placed others) is)

  by_same : (b : Bool) (span : Span) (notes : Notes) → (b ≡ true → slice_get some span.file.0 ≡ slice_get others span.file.0) → AreStopsBy b (slice_get some span.file.0) span notes → placed some notes ≡ placed others notes
  by_same false span notes same is = ap (placed some) is ∙ sym (ap (placed others) is)
  by_same true span notes same is = stops_same (slice_get some span.file.0) span notes is (same refl)

-- where notes by what was read stand, they stand in the files
stops_placed : (reads : List SourceRead) (files : List SourceFile) (rows : List Row) (notes : List Notes) → AreReads reads files → StandIn reads rows → AreStops (files_of_reads reads) rows notes → map (placed (files_of_reads reads)) notes ≡ map (placed files) notes
stops_placed reads files [] [] are stand h = refl
stops_placed reads files [] (n ∷ notes) are stand h = absurd h
stops_placed reads files (row ∷ rows) [] are stand h = absurd h
stops_placed reads files (row ∷ rows) (n ∷ notes) are stand h =
    let first = by_same (files_of_reads reads) files (is_syntax row.code) row.span n (λ is. same_file reads files row.span.file.0 row are is stand.0) h.0 in
    ap (λ x. x ∷ map (placed (files_of_reads reads)) notes) first ∙ ap (λ xs. placed files n ∷ xs) (stops_placed reads files rows notes are stand.1 h.1)

-- the places of notes in what was read are those in the files
same_places : (reads : List SourceRead) (files : List SourceFile) (names : List (List ℕ)) (trees : List PlacedFile) (rows : List Row) (notes : List Notes) → AreReads reads files → StandIn reads rows → AreTreesOrNone files names trees → AreNotesBy (files_of_reads reads) names trees rows notes → map (placed (files_of_reads reads)) notes ≡ map (placed files) notes
same_places reads files [] trees rows notes are stand none h = stops_placed reads files rows notes are stand h
same_places reads files (name ∷ names) trees rows notes are stand some h = ap (λ fs. map (placed fs) notes) (whole_files reads files are some.1.within)

-- the notes by what was read are those of the files
notes_of : (reads : List SourceRead) (files : List SourceFile) (names : List (List ℕ)) (trees : List PlacedFile) (rows : List Row) (notes : List Notes) → AreReads reads files → StandIn reads rows → AreTreesOrNone files names trees → AreNotesBy (files_of_reads reads) names trees rows notes → PhaseNotes files rows (map (placed (files_of_reads reads)) notes)
notes_of reads files names trees rows notes are stand hand h = record {
  notes = notes;
  are = by_reads reads files names trees rows notes are stand hand h;
  places = same_places reads files names trees rows notes are stand hand h;
}

pub phase_shown : (b : Bool) (infer : Infer) (reads : List SourceRead) (files : List SourceFile) (names : List (List ℕ)) (trees : List PlacedFile) (report : Report) (rows : List Row) (notes : List Notes) → b ≡ true → report ≡ Refused rows → AreReads reads files → StandIn reads (rows_of report) → AreAtHand reads report names trees → AreNotesBy (files_of_reads reads) names trees rows notes → AreShownNotes AreNotes b infer files report (map (placed (files_of_reads reads)) notes)
phase_shown false infer reads files names trees report rows notes b is are stand hand h = absurd (false_true b)
phase_shown true infer reads files names trees report rows notes b is are stand hand h =
    subst (λ r. AreNotes infer files r (map (placed (files_of_reads reads)) notes)) (sym is)
    (notes_of reads files names trees rows notes are (subst (λ r. StandIn reads (rows_of r)) is stand) (hand rows is files are) h)

-- ---- one list of notes

module _ (alone : (files : List SourceFile) (rows : List Row) (ns ms : List Notes) → AreStops files rows ns → AreStops files rows ms → ns ≡ ms) (parsed : OneReading) (files : List SourceFile) (rows : List Row) (one other : List Noted) where
  one_list : (ns ms : List Notes) → AreOfPhase files rows ns → AreOfPhase files rows ms → ns ≡ ms
  one_list ns ms (inl x) (inl y) = alone files rows ns ms x.are y.are
  one_list ns ms (inl x) (inr y) = absurd (x.unparsed y.names y.tokens y.trees y.parsed)
  one_list ns ms (inr x) (inl y) = absurd (y.unparsed x.names x.tokens x.trees x.parsed)
  one_list ns ms (inr x) (inr y) =
      let same = parsed files x.names y.names x.tokens y.tokens x.trees y.trees x.parsed y.parsed in
      x.are
      ∙ ap (λ names. map (row_notes names x.trees) rows) same.0
      ∙ ap (λ trees. map (row_notes y.names trees) rows) same.2
      ∙ sym y.are

  pub one_list_of_phase : PhaseNotes files rows one → PhaseNotes files rows other → one ≡ other
  one_list_of_phase x y = x.places ∙ ap (map (placed files)) (one_list x.notes y.notes x.are y.are) ∙ sym y.places
