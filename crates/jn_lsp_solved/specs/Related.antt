-- Rows and notes at the files where they stand, as a client shows them (Language Server Protocol 3.17, Diagnostic and DiagnosticRelatedInformation).
use Rattle.std.specs.Prelude.{ℕ, ◌-◌, List, [], codes, length, map, nat_eq, nat_lt, slice_index_or, take, if◌then◌else◌}
use Rattle.std.specs.List.{ends_with}
use Rattle.std.specs.Str.Lossy.{utf8_lossy}
use Rattle.jn_base.specs.declared.place.Row.{Row}
use Rattle.jn_base.specs.declared.place.Span.{Span}
use Rattle.jn_front.specs.declared.source.SourceFile.{SourceFile}
use Rattle.jn_lsp_text.specs.declared.encoding.Encoding.{Encoding}
use Rattle.jn_lsp_text.specs.declared.range.Range.{Range}
use Rattle.jn_lsp_text.specs.Ranges.{range_at}
use Rattle.jn_lsp_text.specs.declared.reply.Diagnostic.{Diagnostic}
use Rattle.jn_lsp_text.specs.declared.reply.Related.{Related}
use Rattle.jn_lsp_text.specs.declared.reply.Said.TheVariants as said
use Rattle.jn_note_words.specs.declared.note.Note.{Note}

-- the number of the file where a span stands: of no file, the first
abbrev pub home : List SourceFile → Span → ℕ
home files span = if nat_lt span.file.0 (length files) then span.file.0 else 0

-- what stands for a file that isn't there
abbrev pub no_file : SourceFile
no_file = record { name = []; bytes = [] }

-- that file
abbrev pub home_of : List SourceFile → Span → SourceFile
home_of files span = slice_index_or files (home files span) no_file

-- the range of a span in the file where it stands
abbrev pub range_in : Encoding → List SourceFile → Span → Range
range_in encoding files span = range_at encoding (home_of files span).bytes span.from span.to

-- a text without this ending, where it has it
abbrev pub without_ending : List ℕ → List ℕ → List ℕ
without_ending ending text = if ends_with nat_eq text ending then take (length text - length ending) text else text

-- a note's words without what leads to the place that a report has after them
abbrev pub without_lead : List ℕ → List ℕ
without_lead words = without_ending (codes ":") (without_ending (codes " at") words)

-- a note at its file and its range; what is no UTF-8 in its words is replaced
abbrev pub related_of : Encoding → List SourceFile → Note → Related
related_of encoding files note = record { name = (home_of files note.span).name; range = range_in encoding files note.span; words = utf8_lossy (without_lead note.words) }

-- a row at its range, with these notes
abbrev pub diagnostic_of : Encoding → List SourceFile → Row → List Note → Diagnostic
diagnostic_of encoding files row shown = record { range = range_in encoding files row.span; said = said.Row row.code; related = map (related_of encoding files) shown }
