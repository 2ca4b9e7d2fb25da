-- Ranges of a text, and a text with a range replaced (Language Server Protocol 3.17, "Range" and "TextDocumentContentChangeEvent").
use Rattle.std.specs.Prelude.{ℕ, ◌≡◌, min, max, List, ◌++◌, take, drop}
use Rattle.jn_lsp_text.specs.Positions.{position_at, IsOffsetOf}
use Rattle.jn_lsp_text.specs.declared.encoding.Encoding.{Encoding}
use Rattle.jn_lsp_text.specs.declared.range.Range.{Range}

-- the range of bytes, of which those beyond the text aren't there; an end before the start is the start
abbrev pub range_at : Encoding → List ℕ → ℕ → ℕ → Range
range_at encoding text from to = record { start = position_at encoding text from; end = position_at encoding text (max from to) }

-- the new bytes stand in place of those between the offsets of the range's ends
pub record IsReplaced (encoding : Encoding) (text : List ℕ) (range : Range) (new made : List ℕ) : Type 0 where
  pub start : ℕ
  pub end : ℕ
  pub starts : IsOffsetOf encoding text range.start start
  pub ends : IsOffsetOf encoding text range.end end
  pub is : made ≡ take (min start end) text ++ new ++ drop (max start end) text

-- a replacement gives one text
abbrev pub HaveOneReplacement : Type 0
HaveOneReplacement = (encoding : Encoding) (text : List ℕ) (range : Range) (new one other : List ℕ) → IsReplaced encoding text range new one → IsReplaced encoding text range new other → one ≡ other
