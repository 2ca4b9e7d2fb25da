-- Marks of the texts of files.
use Rattle.std.proofs.Common.{◌≡◌, ℕ, zero, suc, ◌+◌, ◌<◌, List, [], ◌∷◌, ◌++◌, length, take, get_or, map, Some, sym, ap, subst, ◌∙◌}
use Rattle.std.specs.Prelude.{slice_get, slice_index_or}
use Rattle.std.proofs.lemmas.List.{take_more, map_push}
use Rattle.jn_front.specs.declared.source.SourceFile.{SourceFile}
use Rattle.jn_lsp_text.specs.declared.encoding.Encoding.{Encoding}
use Rattle.jn_lsp_text.specs.declared.range.Range.{Range}
use Rattle.jn_lsp_text.specs.Marking.{CountedText}
use Rattle.jn_lsp_text.specs.Ranges.{range_at}
use Rattle.jn_lsp_solved.specs.Marking.{AreMarks, CountedFiles, counted_text}
use Rattle.jn_lsp_solved.specs.Related.{no_file}

there : (encoding : Encoding) (files : List SourceFile) (at : ℕ) (mark : CountedText) → slice_get (map (counted_text encoding) files) at ≡ Some mark → mark ≡ counted_text encoding (slice_index_or files at no_file)
there encoding [] at mark e = absurd (cc)
there encoding (file ∷ files) zero mark e = let same : counted_text encoding file ≡ mark = cc in sym same
there encoding (file ∷ files) (suc at) mark e = there encoding files at mark e

-- those of all files
pub are_marks : (encoding : Encoding) (files : List SourceFile) (marks : List CountedText) → marks ≡ map (counted_text encoding) files → AreMarks encoding files marks
are_marks encoding files marks is = record { each = λ at mark e. there encoding files at mark (subst (λ (ms : List CountedText). slice_get ms at ≡ Some mark) is e) }

nowhere : (encoding : Encoding) (files : List SourceFile) (marks : List CountedText) (at : ℕ) (mark : CountedText) → marks ≡ [] → slice_get marks at ≡ Some mark → mark ≡ counted_text encoding (slice_index_or files at no_file)
nowhere encoding files [] at mark is e = absurd (cc)
nowhere encoding files (first ∷ marks) at mark is e = absurd (cc)

-- none
pub no_marks : (encoding : Encoding) (files : List SourceFile) (marks : List CountedText) → marks ≡ [] → AreMarks encoding files marks
no_marks encoding files marks is = record { each = λ at mark e. nowhere encoding files marks at mark is e }

-- those of a file more
pub mark_more : (encoding : Encoding) (files : List SourceFile) (i : ℕ) (file : SourceFile) (mark : CountedText) (before after : List CountedText) → i < length files → file ≡ get_or files i file → mark ≡ counted_text encoding file → before ≡ map (counted_text encoding) (take i files) → after ≡ before ++ mark ∷ []
    → after ≡ map (counted_text encoding) (take (i + 1) files)
mark_more encoding files i file mark before after lt at is so more =
    more
    ∙ ap (λ (ms : List CountedText). ms ++ mark ∷ []) so
    ∙ ap (λ (m : CountedText). map (counted_text encoding) (take i files) ++ m ∷ []) (is ∙ ap (counted_text encoding) at)
    ∙ sym (map_push (counted_text encoding) (take i files) (get_or files i file))
    ∙ sym (ap (map (counted_text encoding)) (take_more files i file lt))

-- a range by a mark
pub range_there : (encoding : Encoding) (files : List SourceFile) (marks : List CountedText) (file from to : ℕ) (mark : CountedText) (range : Range) (value : CountedFiles) → AreMarks encoding files marks → slice_get marks file ≡ Some mark → range ≡ range_at mark.encoding mark.text from to → record { encoding = encoding; files = files } ≡ value
    → range ≡ range_at value.encoding (slice_index_or value.files file no_file).bytes from to
range_there encoding files marks file from to mark range value are e is same =
    subst (λ (v : CountedFiles). range ≡ range_at v.encoding (slice_index_or v.files file no_file).bytes from to) same
    (is ∙ ap (λ (m : CountedText). range_at m.encoding m.text from to) (are.each file mark e))
