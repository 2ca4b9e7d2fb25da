-- What is written answers the command, by the files that are checked.
use Rattle.std.proofs.Common.{◌≡◌, ℕ, zero, suc, ◌<◌, inl, Bool, true, false, List, [], ◌∷◌, ◌++◌, length, Result, Ok as Made, Err, refl, sym, ap, ◌∙◌, subst, arith}
use Rattle.std.specs.Prelude.{IfOk, Option, None, slice_get}
use Rattle.std.proofs.lemmas.Result.{IfOk-weaker}
use Rattle.jn_base.specs.declared.infer.Infer.{Infer}
use Rattle.jn_base.specs.declared.refusal.OutOfMemory.{OutOfMemory as NoMemory}
use Rattle.jn_base.specs.declared.place.Row.{Row}
use Rattle.jn_front.specs.declared.source.SourceFile.{SourceFile}
use Rattle.jn_front.specs.declared.source.SourceRead.{SourceRead}
use Rattle.jn_front.specs.Files.{names_of, most_files, ReadFrom}
use Rattle.jn_outside.specs.declared.given.Given.{Given}
use Rattle.jn_outside.specs.Files.{Holding}
use Rattle.jn_command.specs.declared.output.Output.{Output}
use Rattle.jn_command.specs.declared.report.Report.TheVariants.{Refused, Checked}
use Rattle.jn_command.specs.declared.status.Status.{Status}
use Rattle.jn_asked.specs.Asked.{Asked}
use Rattle.jn_command.specs.Answer.{Reading, reading, AreFiles}
use Rattle.nullcheck_top.specs.CommandAnswer.{AreChecked, AreShownNotes}
use Rattle.jn_command.specs.Made.{front_of, made_file, made_text}
use Rattle.jn_command.specs.Outputs.{IfMade}
use Rattle.jn_command.specs.Shown.{no_notes, shown_noted}
use Rattle.jn_command.specs.declared.noted.Noted.{Noted}
use Rattle.jn_diag.specs.declared.shown.Verdict.{Verdict}
use Rattle.jn_reporters.specs.declared.shown.ShownRow.{ShownRow}
use Rattle.jn_command.proofs.Showing.{shown_is_noted}
use Rattle.nullcheck_top.specs.Found.{IsRefusalOf}
use Rattle.jn_report.specs.Report.{IsReport}
use Rattle.jn_safe_files.specs.Safe.{IsSafe}
use Rattle.jn_phase_notes.specs.Stops.{AreStopsBy, is_syntax, stop_notes}
use Rattle.jn_phases.specs.Phases.{NoneParsed}
use Rattle.nullcheck_top.specs.Report.{AreNotes, RunsTo, Prints}
use Rattle.nullcheck_top.specs.Answers.{AnswersFiles}
use Rattle.jn_command.proofs.Ending.{Ends, Written}
use Rattle.nullcheck_top.proofs.Written.{MadeFor, answers_files, report_shown, files_named, named_are}

never_checked : (rows others : List Row) → Refused rows ≡ Checked others → ⊥
never_checked rows others e = cc

-- a row that isn't of a file's syntax has no notes
abbrev refused_noted : Bool → List Noted
refused_noted false = []
refused_noted true = no_notes ∷ []

no_stop : (files : List SourceFile) (row : Row) (b : Bool) → b ≡ false → AreStopsBy b (slice_get files row.span.file.0) row.span (stop_notes None)
no_stop files row false other = refl
no_stop files row true other = absurd (never other)
  where
    never : true ≡ false → ⊥
    never e = cc

refused_notes : (b : Bool) (infer : Infer) (files : List SourceFile) (row : Row) → is_syntax row.code ≡ false → NoneParsed files → AreShownNotes AreNotes b infer files (Refused (row ∷ [])) (refused_noted b)
refused_notes false infer files row other none = refl
refused_notes true infer files row other none = record { notes = stop_notes None ∷ []; are = inl (record { unparsed = none; are = (no_stop files row (is_syntax row.code) other, tt) }); places = refl }

refused_shown : (b : Bool) (show : List ShownRow → Option Verdict → List ℕ) (files : List SourceFile) (row : Row) → shown_noted show files (Refused (row ∷ [])) [] ≡ shown_noted show files (Refused (row ∷ [])) (refused_noted b)
refused_shown false show files row = refl
refused_shown true show files row = refl

-- files that are refused, with no line before their report
refusal_made : (a : Asked) (files : List SourceFile) (made : Result Output NoMemory) → a.command.classes ≡ 0 → IfOk made (λ o. IsRefusalOf a.show a.command.infer files o.status o.bytes) → MadeFor IsReport AreNotes IsSafe RunsTo Prints a files made
refusal_made a files (Made o) none r =
    let rows = r.row ∷ [] in
    let noted = refused_noted a.notes in
    report_shown IsReport AreNotes IsSafe RunsTo Prints a files (Refused rows) o.status o.bytes r.is noted (refused_notes a.notes a.command.infer files r.row r.other r.unparsed) r.ends
    (r.shows ∙ shown_is_noted a.show files (Refused rows) ∙ refused_shown a.notes a.show files r.row ∙ ap (λ n. front_of a.document n ++ shown_noted a.show files (Refused rows) noted) (sym none)) (λ e. absurd (never_checked rows [] e)) (λ run e. never_checked rows [] e)
refusal_made a files (Err e) none r = tt

refusal_written : (a : Asked) (files : List SourceFile) (made : Result Output NoMemory) → IfOk made (λ o. IsRefusalOf a.show a.command.infer files o.status o.bytes) → IfMade made (λ status bytes. Written status) (Unit {0})
refusal_written a files (Made o) r = subst Written (sym r.ends) tt
refusal_written a files (Err e) r = tt

-- the output of more files than there may be
abbrev IsMany : Asked → List (List ℕ) → Result Output NoMemory → Type 0
IsMany a names made = IfOk made (λ o. (infer : Infer) (files : List SourceFile) → names_of files ≡ names → IsRefusalOf a.show infer files o.status o.bytes)

many_refused : (a : Asked) (names : List (List ℕ)) (made : Result Output NoMemory) → IsMany a names made → IfOk made (λ o. IsRefusalOf a.show a.command.infer (files_named names) o.status o.bytes)
many_refused a names made many = IfOk-weaker made _ _ (λ o h. h a.command.infer (files_named names) (named_are names)) many

pub many_written : (a : Asked) (names : List (List ℕ)) (made : Result Output NoMemory) → IsMany a names made → IfMade made (λ status bytes. Written status) (Unit {0})
many_written a names made many = refusal_written a (files_named names) made (many_refused a names made many)

pub many_answers : (a : Asked) (names : List (List ℕ)) (old new : Option (List ℕ)) (before now : ℕ) (result : Status) (made : Result Output NoMemory) → a.command.classes ≡ 0 → IsMany a names made → Ends old new before now result made → AnswersFiles a (files_named names) old new result
many_answers a names old new before now result made none many ends =
    answers_files IsReport AreNotes IsSafe RunsTo Prints a (files_named names) old new before now result made (refusal_made a (files_named names) made none (many_refused a names made many)) ends

-- ---- the files that are checked

checked_named : (read : Reading) (a : Asked) (names : List (List ℕ)) (files : List SourceFile) → a.command.classes ≡ 0 → names ≡ a.command.files → AreFiles read names files → AreChecked read a.command.classes a.command.files files
checked_named read a names files none named are = subst (λ n. AreChecked read n a.command.files files) (sym none) (subst (λ ns. AreFiles read ns files) named are)

-- too many to be read
pub checked_many : (read : Reading) (a : Asked) (names : List (List ℕ)) → a.command.classes ≡ 0 → names ≡ a.command.files → most_files < length names → AreChecked read a.command.classes a.command.files (files_named names)
checked_many read a names none named many =
    checked_named read a names (files_named names) none named (record { named = named_are names; told = λ few. absurd (omega (arith, few, many)); given = λ few. absurd (omega (arith, few, many)) })

-- read
pub checked_read : (held : Option Holding) (before now : List Given) (a : Asked) (names : List (List ℕ)) (reads : List SourceRead) → a.command.classes ≡ 0 → names ≡ a.command.files → (from : ReadFrom held names before now reads) → AreChecked (reading held before now) a.command.classes a.command.files from.files
checked_read held before now a names reads none named from =
    checked_named (reading held before now) a names from.files none named (record { named = from.named; told = λ few. from.told; given = λ few. from.given })

-- made
pub checked_made : (read : Reading) (n : ℕ) (names : List (List ℕ)) → (n ≡ 0 → ⊥) → AreChecked read n names (made_file (made_text n) ∷ [])
checked_made read zero names some = absurd (some refl)
checked_made read (suc n) names some = refl
