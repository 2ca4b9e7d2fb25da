-- The notes of a report's rows.
use Rattle.std.proofs.Common.{◌≡◌, ◌≤◌, ◌<◌, ℕ, zero, suc, Bool, true, false, List, [], ◌∷◌, ◌++◌, length, map, get_or, Some, None, Result, Ok, Err, refl, sym, ap, ◌∙◌, subst, arith}
use Rattle.std.specs.Prelude.{IfOk}
use Rattle.std.proofs.lemmas.Result.{IfOk-weaker}
use Rattle.jn_base.specs.declared.infer.Infer.{Infer}
use Rattle.jn_base.specs.declared.place.Row.{Row}
use Rattle.jn_base.specs.declared.place.Span.{Span}
use Rattle.jn_places.specs.Placed.{PlacedFile}
use Rattle.jn_quals.specs.Qualifier.{Qualifier}
use Rattle.jn_points.specs.declared.program.Program.{Program}
use Rattle.jn_inference_law.specs.Solution.{IsLeastSignature}
use Rattle.jn_front.specs.declared.source.SourceFile.{SourceFile}
use Rattle.jn_front.specs.declared.source.SourceRead.{SourceRead}
use Rattle.jn_front.specs.Files.{AreReads, files_of_reads}
use Rattle.jn_command.specs.declared.noted.Noted.{Noted}
use Rattle.jn_command.specs.declared.report.Report.{Report}
use Rattle.jn_command.specs.declared.report.Report.TheVariants.{Refused, Checked}
use Rattle.nullcheck_top.specs.CommandAnswer.{AreShownNotes}
use Rattle.jn_command.specs.Stands.{StandIn}
use Rattle.jn_command.specs.Reports.{rows_of}
use Rattle.jn_command.specs.Shown.{no_notes, note_of, noted_at, row_of, rows_with}
use Rattle.jn_command.proofs.Showing.{none_noted, note_nowhere}
use Rattle.jn_reporters.specs.declared.shown.ShownNote.{ShownNote}
use Rattle.jn_reporters.specs.declared.shown.ShownRow.{ShownRow}
use Rattle.jn_note_words.specs.declared.note.Notes.{Notes}
use Rattle.jn_notes.specs.Noted.{AreNotesOf}
use Rattle.nullcheck_top.specs.declared.found.Found.{Found}
use Rattle.jn_phase_notes.specs.Phases.{AreNotesBy}
use Rattle.nullcheck_top.specs.Found.{AreAtHand, AreLeft, AreWhole, IsBroken, IsFinding, IsGiven, IsLeft}
use Rattle.jn_phase_notes.specs.Stops.{AreStops}
use Rattle.nullcheck_top.specs.Report.{AreNotes, RuleNotes, placed}
use Rattle.nullcheck_top.proofs.Stopping.{one_list_of_phase, phase_shown}
use Rattle.jn_phases.proofs.OneTyping.{OneReading, one_program}

-- ---- the notes at a place

module _ (f : Notes → Noted) where
  there : (notes : List Notes) (at : ℕ) (d : Notes) → at < length notes → noted_at (map f notes) at ≡ f (get_or notes at d)
  there [] at d lt = absurd (omega (arith, lt))
  there (n ∷ notes) zero d lt = refl
  there (n ∷ notes) (suc at) d lt = there notes at d (omega (arith, lt))

  behind : (notes : List Notes) (at : ℕ) → length notes ≤ at → noted_at (map f notes) at ≡ no_notes
  behind [] at le = refl
  behind (n ∷ notes) zero le = absurd (omega (arith, le))
  behind (n ∷ notes) (suc at) le = behind notes at (omega (arith, le))

  pub noted_there : {E : Type 0} (notes : List Notes) (at : ℕ) (n : Notes) (r : Result Noted E) → at < length notes → n ≡ get_or notes at n → IfOk r (λ noted. noted ≡ f n) → IfOk r (λ noted. noted ≡ noted_at (map f notes) at)
  noted_there notes at n (Ok noted) lt is h = h ∙ ap f is ∙ sym (there notes at n lt)
  noted_there notes at n (Err e) lt is h = tt

pub noted_behind_last : (f : Notes → Noted) (notes : List Notes) (at : ℕ) (noted : Noted) → length notes ≤ at → noted ≡ no_notes → noted ≡ noted_at (map f notes) at
noted_behind_last f notes at noted le is = is ∙ sym (behind f notes at le)

-- ---- files with marks

-- a note of no file is the same among any files that don't have it
pub note_in_none : {E : Type 0} (reads : List SourceRead) (joined ends : Bool) (words : List ℕ) (span : Span) (r : Result ShownNote E) → length reads ≤ span.file.0 → IfOk r (λ n. n ≡ note_of (files_of_reads []) joined ends words span) → IfOk r (λ n. n ≡ note_of (files_of_reads reads) joined ends words span)
note_in_none reads joined ends words span r le is = note_nowhere reads joined ends words span r le (IfOk-weaker r _ _ (λ n h s. h) is)

-- ---- which notes are shown

-- no phase refused the files
abbrev pub NoneRefused : Report → Type 0
NoneRefused report = (rows : List Row) → report ≡ Refused rows → ⊥

pub none_shown : (b : Bool) (infer : Infer) (files : List SourceFile) (report : Report) → (b ≡ true → NoneRefused report) → (b ≡ true → IsBroken report → ⊥) → AreShownNotes AreNotes b infer files report []
none_shown false infer files report checked whole = refl
none_shown true infer files report checked whole = by report (checked refl) (whole refl)
  where
    by : (report : Report) → NoneRefused report → (IsBroken report → ⊥) → AreNotes infer files report []
    by (Refused rows) checked whole = absurd (checked rows refl)
    by (Checked []) checked whole = refl
    by (Checked (row ∷ rows)) checked whole = absurd (whole tt)

checked_rows : (report : Report) → IsBroken report → (rows : List Row) × (report ≡ Checked rows)
checked_rows (Refused rows) broken = absurd broken
checked_rows (Checked rows) broken = (rows, refl)

rule_notes : (infer : Infer) (files : List SourceFile) (report : Report) (noted : List Noted) → IsBroken report → RuleNotes infer files (rows_of report) noted → AreNotes infer files report noted
rule_notes infer files (Refused rows) noted broken by = absurd broken
rule_notes infer files (Checked []) noted broken by = absurd broken
rule_notes infer files (Checked (row ∷ rows)) noted broken by = by

-- what is told of the rows, by the program that is left, is what the files' report has
pub some_shown : (b : Bool) (infer : Infer) (reads : List SourceRead) (files : List SourceFile) (names : List (List ℕ)) (report : Report) (left : Program × List Qualifier) (notes : List Notes) → b ≡ true → IsLeft infer files names report left → AreWhole report reads → AreReads reads files → AreNotesOf left.0 names left.1 (rows_of report) notes → AreShownNotes AreNotes b infer files report (map (placed (files_of_reads reads)) notes)
some_shown false infer reads files names report left notes b is whole are noted = absurd (never b)
  where
    never : false ≡ true → ⊥
    never e = cc
some_shown true infer reads files names report left notes b is whole are noted =
    let rows = checked_rows report is.broken in
    rule_notes infer files report (map (placed (files_of_reads reads)) notes) is.broken
    (record { names = names; P = left.0; of_files = is.of_files; signature = left.1; least = is.least; notes = notes; are = noted; places = ap (λ fs. map (placed fs) notes) (whole rows.0 rows.1 files are) })

-- the signature that is left is the least
pub least_left : (reads : List SourceRead) (names : List (List ℕ)) (found : Found) (left : Program × List Qualifier) → ((files : List SourceFile) × AreReads reads files) → ((infer : Infer) × ((files : List SourceFile) → AreReads reads files → IsFinding infer files names found)) → found.rejected ≡ Some left → IsLeastSignature left.0 left.1
least_left reads names found left some finding is = (subst (AreLeft finding.0 some.0 names found.report) is (finding.1 some.0 some.1).rejected).least

-- ---- the rows that a reporter was given

module _ {T E : Type 0} (f : T → List ShownRow) (had : List ShownRow) (reads : List SourceRead) (names : List (List ℕ)) (found : Found) (b n : Bool) (same : b ≡ n) where
  abbrev pub Given : Result T E → Type 0
  Given r = IfOk r (λ t. (infer : Infer) (files : List SourceFile) → AreReads reads files → IsFinding infer files names found → IsGiven n had infer reads files found.report (f t))

  pub given_none : (r : Result T E) → (n ≡ true → NoneRefused found.report) → (b ≡ true → found.rejected ≡ None) → IfOk r (λ t. f t ≡ had ++ map (row_of (files_of_reads reads)) (rows_of found.report)) → Given r
  given_none (Ok t) checked none is = λ infer files are finding.
      ([], none_shown n infer files found.report checked (λ on. subst (AreLeft infer files names found.report) (none (same ∙ on)) finding.rejected), is ∙ ap (λ rs. had ++ rs) (sym (none_noted (files_of_reads reads) (rows_of found.report))))
  given_none (Err e) checked none is = tt

  -- with those of the rows of a phase
  pub given_phase : (r : Result T E) (trees : List PlacedFile) (rows : List Row) (notes : List Notes) (told : List Noted) → b ≡ true → found.report ≡ Refused rows → StandIn reads (rows_of found.report) → AreAtHand reads found.report names trees → AreNotesBy (files_of_reads reads) names trees rows notes → told ≡ map (placed (files_of_reads reads)) notes → IfOk r (λ t. f t ≡ had ++ rows_with (files_of_reads reads) told (rows_of found.report)) → Given r
  given_phase (Ok t) trees rows notes told on refused stand hand by placed_is is = λ infer files are finding.
      (map (placed (files_of_reads reads)) notes, phase_shown n infer reads files names trees found.report rows notes (sym same ∙ on) refused are stand hand by, is ∙ ap (λ ns. had ++ rows_with (files_of_reads reads) ns (rows_of found.report)) placed_is)
  given_phase (Err e) trees rows notes told on refused stand hand by placed_is is = tt

  pub given_some : (r : Result T E) (left : Program × List Qualifier) (notes : List Notes) (told : List Noted) → b ≡ true → found.rejected ≡ Some left → AreWhole found.report reads → AreNotesOf left.0 names left.1 (rows_of found.report) notes → told ≡ map (placed (files_of_reads reads)) notes → IfOk r (λ t. f t ≡ had ++ rows_with (files_of_reads reads) told (rows_of found.report)) → Given r
  given_some (Ok t) left notes told on left_is whole noted placed_is is = λ infer files are finding.
      let there = subst (AreLeft infer files names found.report) left_is finding.rejected in
      (map (placed (files_of_reads reads)) notes, some_shown n infer reads files names found.report left notes (sym same ∙ on) there whole are noted, is ∙ ap (λ ns. had ++ rows_with (files_of_reads reads) ns (rows_of found.report)) placed_is)
  given_some (Err e) left notes told on left_is whole noted placed_is is = tt

-- ---- one list of notes

module _ (infer : Infer) (alone : (files : List SourceFile) (rows : List Row) (one other : List Notes) → AreStops files rows one → AreStops files rows other → one ≡ other) (parsed : OneReading) (least : (P : Program) (s t : List Qualifier) → IsLeastSignature P s → IsLeastSignature P t → s ≡ t) (listed : (P : Program) (names : List (List ℕ)) (s : List Qualifier) (rows : List Row) (one other : List Notes) → AreNotesOf P names s rows one → AreNotesOf P names s rows other → one ≡ other) where
  one_rule_notes : (files : List SourceFile) (rows : List Row) (one other : List Noted) → RuleNotes infer files rows one → RuleNotes infer files rows other → one ≡ other
  one_rule_notes files rows one other x y =
      let same = one_program infer parsed files x.names y.names x.P y.P x.of_files.of_files y.of_files.of_files in
      let signed = least y.P x.signature y.signature (subst (λ P. IsLeastSignature P x.signature) same.1 x.least) y.least in
      let are = subst (λ s. AreNotesOf y.P y.names s rows x.notes) signed (subst (λ P. AreNotesOf P y.names x.signature rows x.notes) same.1 (subst (λ ns. AreNotesOf x.P ns x.signature rows x.notes) same.0 x.are)) in
      x.places ∙ ap (map (placed files)) (listed y.P y.names y.signature rows x.notes y.notes are y.are) ∙ sym y.places

  pub one_list : (files : List SourceFile) (report : Report) (one other : List Noted) → AreNotes infer files report one → AreNotes infer files report other → one ≡ other
  one_list files (Refused rows) one other x y = one_list_of_phase alone parsed files rows one other x y
  one_list files (Checked []) one other x y = x ∙ sym y
  one_list files (Checked (row ∷ rows)) one other x y = one_rule_notes files (row ∷ rows) one other x y
