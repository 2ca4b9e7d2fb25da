-- The rows that are asked for: those that stand in the file of a name, and meet a range of it (Language Server Protocol 3.17, "Code Action Request").
use Rattle.std.specs.Prelude.{ℕ, ◌==◌, Bool, false, not, ◌&&◌, ◌||◌, nat_lt, bytes_eq, List, Option, Some, None, slice_get}
use Rattle.jn_base.specs.declared.place.Span.{Span}
use Rattle.jn_front.specs.declared.source.SourceFile.{SourceFile}
use Rattle.jn_lsp_text.specs.declared.encoding.Encoding.{Encoding}
use Rattle.jn_lsp_text.specs.declared.position.Position.{Position}
use Rattle.jn_lsp_text.specs.declared.range.Range.{Range}
use Rattle.jn_lsp_text.specs.Ranges.{range_at}

abbrev pub is_before : Position → Position → Bool
is_before one other = nat_lt one.line other.line || (one.line == other.line && nat_lt one.character other.character)

-- they have a position in common; an end is one, since a cursor is a range without characters
abbrev pub meets : Range → Range → Bool
meets one other = not (is_before one.end other.start) && not (is_before other.end one.start)

abbrev pub is_asked_in : Encoding → List ℕ → Range → Span → Option SourceFile → Bool
is_asked_in encoding name range span None = false
is_asked_in encoding name range span (Some file) = bytes_eq file.name name && meets (range_at encoding file.bytes span.from span.to) range

abbrev pub is_asked : Encoding → List SourceFile → List ℕ → Range → Span → Bool
is_asked encoding files name range span = is_asked_in encoding name range span (slice_get files span.file.0)
