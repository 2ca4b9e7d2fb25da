-- A text whose places are asked for.
use Rattle.std.specs.Prelude.{ℕ, List}
use Rattle.jn_lsp_text.specs.declared.encoding.Encoding.{Encoding}

-- a text, and the encoding in whose units its positions count
pub record CountedText : Type 0 where
  pub encoding : Encoding
  pub text : List ℕ
