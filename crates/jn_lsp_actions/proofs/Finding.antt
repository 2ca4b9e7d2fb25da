-- A file that is found by its number.
use Rattle.std.proofs.Common.{◌≡◌, ℕ, zero, suc, List, [], ◌∷◌, Some, ap, ◌∙◌}
use Rattle.std.specs.Prelude.{slice_get, slice_index_or}
use Rattle.std.proofs.lemmas.Option.{none-some, same_Some}
use Rattle.jn_front.specs.declared.source.SourceFile.{SourceFile}
use Rattle.jn_lsp_solved.specs.Related.{no_file}
use Rattle.jn_lsp_text.specs.declared.encoding.Encoding.{Encoding}
use Rattle.jn_lsp_text.specs.declared.range.Range.{Range}
use Rattle.jn_lsp_text.specs.Ranges.{range_at}

found : (files : List SourceFile) (at : ℕ) (file : SourceFile) → slice_get files at ≡ Some file → slice_index_or files at no_file ≡ file
found [] at file e = absurd (none-some file e)
found (first ∷ files) zero file e = same_Some first file e
found (first ∷ files) (suc at) file e = found files at file e

-- the range is in that file
pub range_found : (encoding : Encoding) (files : List SourceFile) (at from to : ℕ) (file : SourceFile) (range : Range) → slice_get files at ≡ Some file → range ≡ range_at encoding (slice_index_or files at no_file).bytes from to → range ≡ range_at encoding file.bytes from to
range_found encoding files at from to file range e is = is ∙ ap (λ (f : SourceFile). range_at encoding f.bytes from to) (found files at file e)
