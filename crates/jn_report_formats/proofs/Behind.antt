-- Rows after a row, one row more; bytes after two bytes, one byte more; and notes, one note more.
use Rattle.std.proofs.Common.{◌≡◌, ◌<◌, ℕ, ◌+◌, List, ◌∷◌, ◌++◌, length, get_or, drop, append_assoc, sym, ap, ◌∙◌}
use Rattle.std.proofs.lemmas.List.{drop_more}
use Rattle.jn_report_formats.specs.Escapes.{xml_behind, xml_from}
use Rattle.jn_report_formats.specs.Checkstyle.{error_element, file_change, rows_behind}
use Rattle.jn_report_formats.specs.Sarif.{next_related, related_from}
use Rattle.jn_report_formats.specs.declared.kept.KeptRow.{KeptRow}
use Rattle.jn_reporters.specs.declared.shown.ShownNote.{ShownNote}

regrouped : (new out piece left rest whole : List ℕ) → new ≡ out ++ piece → left ≡ piece ++ rest → out ++ left ≡ whole → new ++ rest ≡ whole
regrouped new out piece left rest whole is parts all =
    ap (λ xs. xs ++ rest) is ∙ append_assoc out piece rest ∙ ap (λ xs. out ++ xs) (sym parts) ∙ all

-- the next row is put after a row of the file of this name
pub row_more : (new out whole name : List ℕ) (rows : List KeptRow) (i : ℕ) (row : KeptRow) → i < length rows → row ≡ get_or rows i row
    → new ≡ out ++ (file_change name row.name ++ error_element row) → out ++ rows_behind name (drop i rows) ≡ whole
    → new ++ rows_behind row.name (drop (i + 1) rows) ≡ whole
row_more new out whole name rows i row within at is all =
    let next : drop i rows ≡ row ∷ drop (i + 1) rows = drop_more rows i row within ∙ ap (λ x. x ∷ drop (i + 1) rows) (sym at) in
    regrouped new out (file_change name row.name ++ error_element row) (rows_behind name (drop i rows)) (rows_behind row.name (drop (i + 1) rows)) whole is (ap (rows_behind name) next) all

-- the next byte is put after these two
pub byte_more : (new out whole : List ℕ) (second last : ℕ) (text : List ℕ) (i d : ℕ) → i < length text
    → new ≡ out ++ xml_behind second last (get_or text i d) → out ++ xml_from second last (drop i text) ≡ whole
    → new ++ xml_from last (get_or text i d) (drop (i + 1) text) ≡ whole
byte_more new out whole second last text i d within is all =
    regrouped new out (xml_behind second last (get_or text i d)) (xml_from second last (drop i text)) (xml_from last (get_or text i d) (drop (i + 1) text)) whole is (ap (xml_from second last) (drop_more text i d within)) all

-- the next note is put after the notes before it
pub note_more : (new out whole : List ℕ) (notes : List ShownNote) (i : ℕ) (note : ShownNote) → i < length notes → note ≡ get_or notes i note
    → new ≡ out ++ next_related (i + 1) note → out ++ related_from (i + 1) (drop i notes) ≡ whole
    → new ++ related_from (i + 1 + 1) (drop (i + 1) notes) ≡ whole
note_more new out whole notes i note within at is all =
    let next : drop i notes ≡ note ∷ drop (i + 1) notes = drop_more notes i note within ∙ ap (λ x. x ∷ drop (i + 1) notes) (sym at) in
    regrouped new out (next_related (i + 1) note) (related_from (i + 1) (drop i notes)) (related_from (i + 1 + 1) (drop (i + 1) notes)) whole is (ap (related_from (i + 1)) next) all
