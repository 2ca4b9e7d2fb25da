-- Files among which places are asked for.
use Rattle.std.specs.Prelude.{ℕ, ◌≡◌, List, Some, slice_get, slice_index_or}
use Rattle.jn_front.specs.declared.source.SourceFile.{SourceFile}
use Rattle.jn_lsp_text.specs.declared.encoding.Encoding.{Encoding}
use Rattle.jn_lsp_text.specs.Marking.{CountedText}
use Rattle.jn_lsp_solved.specs.Related.{no_file}

-- files, and the encoding in whose units positions in them count
pub record CountedFiles : Type 0 where
  pub encoding : Encoding
  pub files : List SourceFile

-- a file's text, whose positions count in these units
abbrev pub counted_text : Encoding → SourceFile → CountedText
counted_text encoding file = record { encoding = encoding; text = file.bytes }

-- each mark is of the text of the file at its place
pub record AreMarks (encoding : Encoding) (files : List SourceFile) (marks : List CountedText) : Type 0 where
  pub each : (at : ℕ) (mark : CountedText) → slice_get marks at ≡ Some mark → mark ≡ counted_text encoding (slice_index_or files at no_file)
