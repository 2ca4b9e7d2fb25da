-- The report with the lines of the files: for each row its message, its place, the line on which it begins with a mark below, its cure, and its notes.
use Rattle.std.specs.Prelude.{ℕ, zero, suc, ◌==◌, ◌++◌, ◌||◌, Bool, List, [], ◌∷◌, Option, Some, None, chars, codes, decimal, encode_utf8, if◌then◌else◌}
use Rattle.std.specs.Char.{is_control}
use Rattle.std.specs.Int.{is_in_range}
use Rattle.std.specs.List.{flat_map}
use Rattle.std.specs.Str.Lossy.{utf8_lossy}
use Rattle.jn_base.specs.Codes.{code_name}
use Rattle.jn_base.specs.Messages.{code_cure, code_message}
use Rattle.jn_diag.specs.declared.shown.RowText.{RowText}
use Rattle.jn_diag.specs.declared.shown.Verdict.{Verdict}
use Rattle.jn_reporters.specs.declared.shown.Extract.{Extract}
use Rattle.jn_reporters.specs.Reports.{rows_shown}
use Rattle.jn_reporters.specs.declared.shown.ShownNote.{ShownNote}
use Rattle.jn_reporters.specs.declared.shown.ShownRow.{ShownRow}
use Rattle.jn_reporters.specs.Words.{note_words}
use Rattle.jn_reporters.specs.declared.look.Look.{Look}
use Rattle.jn_reporters.specs.declared.look.Look.TheVariants.{Itself, Blank, Mark}

-- ---- characters

-- the embeddings, overrides and isolates of the bidirectional algorithm (Unicode Standard Annex 9, 2), which show a line in another order
abbrev pub is_turning : ℕ → Bool
is_turning c = is_in_range 0x202A 0x202E c || is_in_range 0x2066 0x2069 c

-- a character that is shown: a tab as four spaces, and as a question mark what is no mark on paper
abbrev pub shown_char : ℕ → List ℕ
shown_char c = if c == 9 then codes "    " else if is_control c || is_turning c then codes "?" else encode_utf8 c

-- a column is left free for each column of it, or marked
abbrev pub look_char : Look → ℕ → List ℕ
look_char Itself c = shown_char c
look_char Blank c = if c == 9 then codes "    " else codes " "
look_char Mark c = if c == 9 then codes "^^^^" else codes "^"

-- the characters of a text, where bytes that begin none stand for U+FFFD
abbrev pub characters_of : List ℕ → List ℕ
characters_of text = chars (utf8_lossy text)

abbrev pub looked : Look → List ℕ → List ℕ
looked look text = flat_map (look_char look) (characters_of text)

-- ---- a row

-- as wide as the line's number
abbrev pub margin : RowText → List ℕ
margin row = looked Blank (decimal row.line)

-- error[CODE]: MESSAGE
abbrev pub head_line : RowText → List ℕ
head_line row = codes "error[" ++ code_name row.code ++ codes "]: " ++ code_message row.code ++ codes "\n"

-- --> FILE:LINE:COL
abbrev pub place_line : RowText → List ℕ
place_line row = margin row ++ codes "--> " ++ row.name ++ codes ":" ++ decimal row.line ++ codes ":" ++ decimal row.col ++ codes "\n"

-- two points stand for what a line has before and after
abbrev pub cut_before : Extract → List ℕ
cut_before e = if e.begins then [] else codes ".. "

abbrev pub cut_behind : Extract → List ℕ
cut_behind e = if e.ends then [] else codes " .."

abbrev pub text_line : RowText → Extract → List ℕ
text_line row e =
    decimal row.line ++ codes " | " ++ cut_before e ++ looked Itself e.before ++ looked Itself e.marked ++ looked Itself e.behind ++ cut_behind e ++ codes "\n"

-- one column is marked where nothing of the row stands on the line
abbrev pub marks : List ℕ → List ℕ
marks [] = codes "^"
marks (byte ∷ rest) = looked Mark (byte ∷ rest)

abbrev pub mark_line : RowText → Extract → List ℕ
mark_line row e = margin row ++ codes " | " ++ looked Blank (cut_before e) ++ looked Blank e.before ++ marks e.marked ++ codes "\n"

-- the line on which the row begins, and the mark; nothing where no line is shown
abbrev pub source_lines : RowText → Option Extract → List ℕ
source_lines row None = []
source_lines row (Some e) = margin row ++ codes " |\n" ++ text_line row e ++ mark_line row e

abbrev pub cure_line : RowText → List ℕ
cure_line row = margin row ++ codes " = cure: " ++ code_cure row.code

-- what stands before a note's words on a line of its own, after the line before
abbrev pub line_begin : RowText → List ℕ
line_begin row = codes "\n" ++ margin row ++ codes " = note: "

-- a note that goes on with the one before it stands on that one's line
abbrev pub note_begin : RowText → ShownNote → List ℕ
note_begin row note = if note.joined then codes ", " else line_begin row

-- = note: TEXT FILE:LINE:COL
unfoldable pub note_line : RowText → ShownNote → List ℕ
note_line row note = note_begin row note ++ note_words note

-- how many notes were left out; nothing where none were
unfoldable pub more_line : RowText → ℕ → List ℕ
more_line row zero = []
more_line row (suc n) = line_begin row ++ codes ".. and " ++ decimal (suc n) ++ codes " more"

abbrev pub note_lines : RowText → List ShownNote → ℕ → List ℕ
note_lines row notes more = flat_map (note_line row) notes ++ more_line row more

-- after a row stands an empty line
abbrev pub long_row : ShownRow → List ℕ
long_row row = head_line row.text ++ place_line row.text ++ source_lines row.text row.extract ++ cure_line row.text ++ note_lines row.text row.notes row.more ++ codes "\n\n"

abbrev pub long_shown : List ShownRow → Option Verdict → List ℕ
long_shown = rows_shown long_row
