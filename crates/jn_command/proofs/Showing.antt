-- Rows of files that were read, as a reader sees them.
use Rattle.std.proofs.Common.{◌≡◌, ℕ, zero, suc, ◌+◌, ◌<◌, ◌≤◌, true, false, List, [], ◌∷◌, ◌++◌, length, map, take, get_or, Option, Some, None, Result, Ok, Err, inl, inr, refl, sym, ap, ◌∙◌, subst, arith, length-take-le}
use Rattle.std.specs.Prelude.{◌⊎◌, Bool, IfOk, slice_get, string_bytes, if◌then◌else◌}
use Rattle.std.specs.declared.string.String.{String}
use Rattle.std.specs.declared.alloc.Global.{Global}
use Rattle.std.proofs.lemmas.List.{take_more}
use Rattle.jn_base.specs.declared.place.Row.{Row}
use Rattle.jn_base.specs.declared.place.Span.{Span}
use Rattle.jn_base.specs.declared.code.Code.TheVariants.{B1}
use Rattle.jn_base.specs.Place.{place_behind}
use Rattle.jn_diag.specs.declared.shown.RowText.{RowText}
use Rattle.jn_diag.specs.declared.shown.Verdict.{Verdict}
use Rattle.jn_diag.specs.declared.shown.Verdict.TheVariants.{Refused as RefusedVerdict}
use Rattle.jn_diag.specs.declared.sweep.Position.{Position}
use Rattle.jn_diag.specs.Shown.{row_shown}
use Rattle.jn_diag.specs.Sweep.{IsPosition}
use Rattle.jn_front.specs.declared.source.SourceFile.{SourceFile}
use Rattle.jn_front.specs.declared.source.SourceRead.{SourceRead}
use Rattle.jn_front.specs.Files.{names_of, files_of_reads, AreReads, IsReadOf, most_files}
use Rattle.jn_front.specs.Limits.{row_at}
use Rattle.jn_command.specs.declared.noted.Noted.{Noted}
use Rattle.jn_command.specs.declared.report.Report.{Report}
use Rattle.jn_command.specs.declared.report.Report.TheVariants.{Refused}
use Rattle.jn_command.specs.declared.show.Place.{Place}
use Rattle.jn_command.specs.Reporters.{shown_behind}
use Rattle.jn_command.specs.Reports.{rows_of, verdict_of}
use Rattle.jn_command.specs.Shown.{no_notes, note_of_file, note_of, noted_at, noted_behind, row_of, row_of_file, rows_with, shown, shown_noted, with_notes}
use Rattle.jn_command.specs.Stands.{StandsIn, StandIn, IsPlace, bytes_of}
use Rattle.jn_reporters.specs.Excerpts.{extract_at, extract_for, is_limit}
use Rattle.jn_reporters.specs.declared.shown.Extract.{Extract}
use Rattle.jn_base.specs.declared.place.Place.{Place as Ending}
use Rattle.jn_reporters.specs.Views.{end_in, end_of, row_view}
use Rattle.jn_reporters.specs.declared.shown.ShownNote.{ShownNote}
use Rattle.jn_reporters.specs.declared.shown.ShownRow.{ShownRow}
use Rattle.jn_reporters.proofs.Limits.{b1_is_limit}

read_at : (reads : List SourceRead) (i : ℕ) (d : SourceRead) → i < length reads → slice_get reads i ≡ Some (get_or reads i d)
read_at [] i d lt = absurd (omega (arith, lt))
read_at (read ∷ reads) zero d lt = refl
read_at (read ∷ reads) (suc i) d lt = read_at reads i d (omega (arith, lt))

file_at : (reads : List SourceRead) (i : ℕ) (d : SourceRead) → i < length reads → slice_get (files_of_reads reads) i ≡ Some (get_or reads i d).file
file_at [] i d lt = absurd (omega (arith, lt))
file_at (read ∷ reads) zero d lt = refl
file_at (read ∷ reads) (suc i) d lt = file_at reads i d (omega (arith, lt))

no_file_at : (reads : List SourceRead) (i : ℕ) → length reads ≤ i → slice_get (files_of_reads reads) i ≡ None
no_file_at [] i le = refl
no_file_at (read ∷ reads) zero le = absurd (omega (arith, le))
no_file_at (read ∷ reads) (suc i) le = no_file_at reads i (omega (arith, le))

-- the file of a number that is in reach
here : (reads : List SourceRead) (i n : ℕ) (read : SourceRead) → i ≡ n → i < length reads → read ≡ get_or reads i read → slice_get (files_of_reads reads) n ≡ Some read.file
here reads i n read number lt is = ap (λ m. slice_get (files_of_reads reads) m) (sym number) ∙ file_at reads i read lt ∙ ap (λ (x : SourceRead). Some x.file) (sym is)

pub row_there : {E : Type 0} (reads : List SourceRead) (i : ℕ) (read : SourceRead) (row : Row) (noted : Noted) (r : Result ShownRow E) → i ≡ row.span.file.0 → i < length reads → read ≡ get_or reads i read → IfOk r (λ t. t ≡ with_notes (row_view read.file.name read.file.bytes row) noted) → IfOk r (λ t. t ≡ with_notes (row_of (files_of_reads reads) row) noted)
row_there reads i read row noted (Ok t) number lt is h = h ∙ ap (λ f. with_notes (row_of_file f row) noted) (sym (here reads i row.span.file.0 read number lt is))
row_there reads i read row noted (Err e) number lt is h = tt

pub row_nowhere : {E : Type 0} (reads : List SourceRead) (row : Row) (noted : Noted) (r : Result ShownRow E) → length reads ≤ row.span.file.0 → IfOk r (λ t. t ≡ with_notes (row_of_file None row) noted) → IfOk r (λ t. t ≡ with_notes (row_of (files_of_reads reads) row) noted)
row_nowhere reads row noted (Ok t) le is = is ∙ ap (λ f. with_notes (row_of_file f row) noted) (sym (no_file_at reads row.span.file.0 le))
row_nowhere reads row noted (Err e) le is = tt

-- ---- notes

pub note_there : {E : Type 0} (reads : List SourceRead) (i : ℕ) (read : SourceRead) (joined ends : Bool) (words : List ℕ) (span : Span) (r : Result ShownNote E) → i ≡ span.file.0 → i < length reads → read ≡ get_or reads i read → IfOk r (λ n. n ≡ note_of_file (Some read.file) joined ends words span) → IfOk r (λ n. n ≡ note_of (files_of_reads reads) joined ends words span)
note_there reads i read joined ends words span (Ok n) number lt is h = h ∙ ap (λ f. note_of_file f joined ends words span) (sym (here reads i span.file.0 read number lt is))
note_there reads i read joined ends words span (Err e) number lt is h = tt

pub note_nowhere : {E : Type 0} (reads : List SourceRead) (joined ends : Bool) (words : List ℕ) (span : Span) (r : Result ShownNote E) → length reads ≤ span.file.0 → IfOk r (λ n. (s : Span) → n ≡ note_of_file None joined ends words s) → IfOk r (λ n. n ≡ note_of (files_of_reads reads) joined ends words span)
note_nowhere reads joined ends words span (Ok n) le is = is span ∙ ap (λ f. note_of_file f joined ends words span) (sym (no_file_at reads span.file.0 le))
note_nowhere reads joined ends words span (Err e) le is = tt

noted_next : (noted : List Noted) (at : ℕ) → noted_at (noted_behind noted) at ≡ noted_at noted (suc at)
noted_next [] at = refl
noted_next (first ∷ noted) at = refl

-- a row after others has the notes at its place
row_behind : (files : List SourceFile) (noted : List Noted) (before : List Row) (row : Row) → rows_with files noted (before ++ row ∷ []) ≡ rows_with files noted before ++ with_notes (row_of files row) (noted_at noted (length before)) ∷ []
row_behind files noted [] row = refl
row_behind files noted (first ∷ before) row =
    ap (λ rs. with_notes (row_of files first) (noted_at noted 0) ∷ rs) (row_behind files (noted_behind noted) before row)
    ∙ ap (λ n. with_notes (row_of files first) (noted_at noted 0) ∷ rows_with files (noted_behind noted) before ++ with_notes (row_of files row) n ∷ []) (noted_next noted (length before))

pub rows_more : (files : List SourceFile) (noted : List Noted) (rows : List Row) (at : ℕ) (row : Row) → at < length rows → row ≡ get_or rows at row → rows_with files noted (take (at + 1) rows) ≡ rows_with files noted (take at rows) ++ with_notes (row_of files row) (noted_at noted at) ∷ []
rows_more files noted rows at row within is =
    let long : length (take at rows) ≡ at = length-take-le at rows (omega (arith, within)) in
    ap (rows_with files noted) (take_more rows at row within ∙ ap (λ r. take at rows ++ r ∷ []) (sym is))
    ∙ row_behind files noted (take at rows) row
    ∙ ap (λ n. rows_with files noted (take at rows) ++ with_notes (row_of files row) (noted_at noted n) ∷ []) long

no_more : (file : Option SourceFile) (row : Row) → with_notes (row_of_file file row) no_notes ≡ row_of_file file row
no_more None row = refl
no_more (Some file) row = refl

pub none_noted : (files : List SourceFile) (rows : List Row) → rows_with files [] rows ≡ map (row_of files) rows
none_noted files [] = refl
none_noted files (row ∷ rows) = ap (λ r. r ∷ rows_with files [] rows) (no_more (slice_get files row.span.file.0) row) ∙ ap (λ rs. row_of files row ∷ rs) (none_noted files rows)

pub plain_rows : {T E : Type 0} (f : T → List ShownRow) (taken : List ShownRow) (files : List SourceFile) (rows : List Row) (noted : List Noted) (r : Result T E) → noted ≡ [] → IfOk r (λ x. f x ≡ taken ++ rows_with files noted rows) → IfOk r (λ x. f x ≡ taken ++ map (row_of files) rows)
plain_rows f taken files rows noted (Ok x) none is = is ∙ ap (λ rs. taken ++ rs) (ap (λ n. rows_with files n rows) none ∙ none_noted files rows)
plain_rows f taken files rows noted (Err e) none is = tt

-- the text of a file that was read
pub bytes_there : (reads : List SourceRead) (i : ℕ) (read : SourceRead) → i < length reads → read ≡ get_or reads i read → bytes_of (slice_get reads i) ≡ read.file.bytes
bytes_there reads i read lt is = ap bytes_of (read_at reads i read lt) ∙ ap (λ (x : SourceRead). x.file.bytes) (sym is)

none_taken : (n : ℕ) (text : List ℕ) → n ≡ 0 → take n text ≡ []
none_taken n text e = ap (λ m. take m text) e ∙ none text
  where
    none : (text : List ℕ) → take 0 text ≡ []
    none [] = refl
    none (byte ∷ rest) = refl

abbrev pub start : Position
start = record { before = 0; line = 1; column = 1 }

-- each text is swept from its beginning
pub start_is : (text : List ℕ) → IsPosition text start
start_is [] = record { within = omega arith; line = refl; column = refl }
start_is (byte ∷ rest) = record { within = omega arith; line = refl; column = refl }

-- the place stays, or is the beginning of another file
pub turned : (reads : List SourceRead) (old new : Place) (i : ℕ) (read : SourceRead) → IsPlace reads old → ((new ≡ old) × (old.file ≡ i)) ⊎ (new ≡ record { file = i; position = start }) → i < length reads → read ≡ get_or reads i read → IsPosition read.file.bytes new.position
turned reads old new i read is (inl (same, file)) lt at =
    subst (λ (p : Place). IsPosition read.file.bytes p.position) (sym same) (subst (λ text. IsPosition text old.position) (ap (λ n. bytes_of (slice_get reads n)) file ∙ bytes_there reads i read lt at) is)
turned reads old new i read is (inr other) lt at = subst (λ (p : Place). IsPosition read.file.bytes p.position) (sym other) (start_is read.file.bytes)

pub turned_file : (old new : Place) (i : ℕ) → ((new ≡ old) × (old.file ≡ i)) ⊎ (new ≡ record { file = i; position = start }) → new.file ≡ i
turned_file old new i (inl (same, file)) = ap (λ (p : Place). p.file) same ∙ file
turned_file old new i (inr other) = ap (λ (p : Place). p.file) other

-- ---- what was read shows what the files are

-- a row at the first byte shows no byte
pub at_start : (name one other : List ℕ) (row : Row) → row.span.from ≡ 0 → row_shown name one row ≡ row_shown name other row
at_start name one other row e =
    ap (λ before. record { name = name; line = (place_behind before row.span).line; col = (place_behind before row.span).col; code = row.code }) (none_taken row.span.from one e ∙ sym (none_taken row.span.from other e))

-- and ends there, where it is one of a limit
end_at_start : (one other : List ℕ) (row : Row) → row.span.from ≡ 0 → is_limit row.code ≡ true → end_in row.code one row.span ≡ end_in row.code other row.span
end_at_start one other row from limit =
    let here : end_of row.code row.span ≡ 0 = ap (λ (b : Bool). if b then row.span.from else row.span.to) limit ∙ from in
    ap (λ before. place_behind before (record row.span { from = end_of row.code row.span })) (none_taken (end_of row.code row.span) one here ∙ sym (none_taken (end_of row.code row.span) other here))

-- and shows no line
pub view_at_start : (name one other : List ℕ) (row : Row) → row.span.from ≡ 0 → is_limit row.code ≡ true → row_view name one row ≡ row_view name other row
view_at_start name one other row from limit =
    let end = end_in row.code one row.span in
    let same = end_in row.code other row.span in
    ap (λ (t : RowText). record { text = t; end_line = end.line; end_col = end.col; extract = extract_for row.code one row.span; notes = []; more = 0 }) (at_start name one other row from)
    ∙ ap (λ (p : Ending). record { text = row_shown name other row; end_line = p.line; end_col = p.col; extract = extract_for row.code one row.span; notes = []; more = 0 }) (end_at_start one other row from limit)
    ∙ ap (λ (x : Option Extract). record { text = row_shown name other row; end_line = same.line; end_col = same.col; extract = x; notes = []; more = 0 }) (none one ∙ sym (none other))
  where
    none : (bytes : List ℕ) → extract_for row.code bytes row.span ≡ None
    none bytes = ap (λ (b : Bool). if b then None else Some (extract_at bytes row.span.from row.span.to)) limit

never_both : (read : SourceRead) → read.whole ≡ true → read.whole ≡ false → ⊥
never_both read all part = no_flag (sym all ∙ part)
  where
    no_flag : true ≡ false → ⊥
    no_flag e = cc

same_file : (read : SourceRead) (file : SourceFile) (row : Row) → IsReadOf read file → StandsIn (Some read) row → row_view read.file.name read.file.bytes row ≡ row_view file.name file.bytes row
same_file read file row (inl w) stands = ap (λ (f : SourceFile). row_view f.name f.bytes row) w.1
same_file read file row (inr l) (inl whole) = absurd (never_both read whole l.0)
same_file read file row (inr l) (inr stands) = ap (λ (f : SourceFile). row_view f.name f.bytes row) l.1 ∙ view_at_start file.name [] file.bytes row stands.0 stands.1

same_at : (reads : List SourceRead) (files : List SourceFile) (k : ℕ) (row : Row) → AreReads reads files → StandsIn (slice_get reads k) row → row_of_file (slice_get (files_of_reads reads) k) row ≡ row_of_file (slice_get files k) row
same_at [] [] k row are stands = refl
same_at [] (file ∷ files) k row are stands = absurd are
same_at (read ∷ reads) [] k row are stands = absurd are
same_at (read ∷ reads) (file ∷ files) zero row are stands = same_file read file row are.0 stands
same_at (read ∷ reads) (file ∷ files) (suc k) row are stands = same_at reads files k row are.1 stands

same_rows : (reads : List SourceRead) (files : List SourceFile) (rows : List Row) → AreReads reads files → StandIn reads rows → map (row_of (files_of_reads reads)) rows ≡ map (row_of files) rows
same_rows reads files [] are stand = refl
same_rows reads files (row ∷ rows) are stand =
    ap (λ r. r ∷ map (row_of (files_of_reads reads)) rows) (same_at reads files row.span.file.0 row are stand.0) ∙ ap (λ rs. row_of files row ∷ rs) (same_rows reads files rows are stand.1)

rows_with_same : (reads : List SourceRead) (files : List SourceFile) (noted : List Noted) (rows : List Row) → AreReads reads files → StandIn reads rows → rows_with (files_of_reads reads) noted rows ≡ rows_with files noted rows
rows_with_same reads files noted [] are stand = refl
rows_with_same reads files noted (row ∷ rows) are stand =
    ap (λ r. with_notes r (noted_at noted 0) ∷ rows_with (files_of_reads reads) (noted_behind noted) rows) (same_at reads files row.span.file.0 row are stand.0)
    ∙ ap (λ rs. with_notes (row_of files row) (noted_at noted 0) ∷ rs) (rows_with_same reads files (noted_behind noted) rows are stand.1)

-- what is shown of a report: the function of the rows and the verdict
abbrev Shows : Type 0
Shows = List ShownRow → Option Verdict → List ℕ

pub same_text : (show kept : Shows) (taken : List ShownRow) (reads : List SourceRead) (files : List SourceFile) (report : Report) (rows : List ShownRow) (verdict : Option Verdict) → kept ≡ show → AreReads reads files → StandIn reads (rows_of report) → rows ≡ taken ++ map (row_of (files_of_reads reads)) (rows_of report) → verdict ≡ Some (verdict_of report) → kept rows verdict ≡ shown (shown_behind taken show) files report
same_text show kept taken reads files report rows verdict same are stand lines end =
    ap (λ (f : Shows). f rows verdict) same
    ∙ ap (λ rs. show rs verdict) (lines ∙ ap (λ rs. taken ++ rs) (same_rows reads files (rows_of report) are stand)) ∙ ap (λ v. show (taken ++ map (row_of files) (rows_of report)) v) end

-- the same with notes
pub noted_text : (show kept : Shows) (taken : List ShownRow) (reads : List SourceRead) (files : List SourceFile) (report : Report) (noted : List Noted) (rows : List ShownRow) (verdict : Option Verdict) → kept ≡ show → AreReads reads files → StandIn reads (rows_of report) → rows ≡ taken ++ rows_with (files_of_reads reads) noted (rows_of report) → verdict ≡ Some (verdict_of report) → kept rows verdict ≡ shown_noted (shown_behind taken show) files report noted
noted_text show kept taken reads files report noted rows verdict same are stand lines end =
    ap (λ (f : Shows). f rows verdict) same
    ∙ ap (λ rs. show rs verdict) (lines ∙ ap (λ rs. taken ++ rs) (rows_with_same reads files noted (rows_of report) are stand))
    ∙ ap (λ v. show (taken ++ rows_with files noted (rows_of report)) v) end

-- a report without notes is one of which no row is given any
pub shown_is_noted : (show : Shows) (files : List SourceFile) (report : Report) → shown show files report ≡ shown_noted show files report []
shown_is_noted show files report = ap (λ rs. show rs (Some (verdict_of report))) (sym (none_noted files (rows_of report)))

-- ---- more files than there may be

pub length_is : (files : List SourceFile) → length (names_of files) ≡ length files
length_is [] = refl
length_is (file ∷ files) = ap suc (length_is files)

name_of_file : (files : List SourceFile) (k : ℕ) (name : List ℕ) (row : Row) → slice_get (names_of files) k ≡ Some name → row.span.from ≡ 0 → is_limit row.code ≡ true → row_view name [] row ≡ row_of_file (slice_get files k) row
name_of_file [] k name row is from limit = absurd (no_name is)
  where
    no_name : None ≡ Some name → ⊥
    no_name e = cc
name_of_file (file ∷ files) zero name row is from limit = ap (λ n. row_view n [] row) (sym (same_name is)) ∙ view_at_start file.name [] file.bytes row from limit
  where
    same_name : Some file.name ≡ Some name → file.name ≡ name
    same_name e = cc
name_of_file (file ∷ files) (suc k) name row is from limit = name_of_file files k name row is from limit

pub number_text : (show kept : Shows) (taken : List ShownRow) (files : List SourceFile) (names : List (List ℕ)) (name : List ℕ) (report : Report) (rows : List ShownRow) (verdict : Option Verdict) → kept ≡ show → names_of files ≡ names → slice_get names most_files ≡ Some name → report ≡ Refused (row_at most_files B1 ∷ []) → rows ≡ taken ++ row_view name [] (row_at 64 B1) ∷ [] → verdict ≡ Some (RefusedVerdict 1) → kept rows verdict ≡ shown (shown_behind taken show) files report
number_text show kept taken files names name report rows verdict same named is refused lines end =
    ap (λ (f : Shows). f rows verdict) same
    ∙ ap (λ rs. show rs verdict) (lines ∙ ap (λ r. taken ++ r ∷ []) (name_of_file files most_files name (row_at most_files B1) (ap (λ ns. slice_get ns most_files) named ∙ is) refl b1_is_limit))
    ∙ ap (λ v. show (taken ++ row_of files (row_at most_files B1) ∷ []) v) end
    ∙ ap (shown (shown_behind taken show) files) (sym refused)

-- the name at a place
pub name_there : (words : List (String Global)) (i : ℕ) (d : String Global) (text : List ℕ) → i < length words → d ≡ get_or words i d → text ≡ string_bytes d → slice_get (map string_bytes words) i ≡ Some text
name_there words i d text lt is value = there words i d lt ∙ ap (λ w. Some (string_bytes w)) (sym is) ∙ ap Some (sym value)
  where
    there : (words : List (String Global)) (i : ℕ) (d : String Global) → i < length words → slice_get (map string_bytes words) i ≡ Some (string_bytes (get_or words i d))
    there [] i d lt = absurd (omega (arith, lt))
    there (word ∷ words) zero d lt = refl
    there (word ∷ words) (suc i) d lt = there words i d (omega (arith, lt))
