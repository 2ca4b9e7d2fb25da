-- Where the first token of a text begins: behind white space and comments (JLS 8, 3.6 and 3.7).
use Rattle.std.specs.Prelude.{ℕ, ◌+◌, ◌==◌, ◌||◌, Bool, true, false, List, [], ◌∷◌, if◌then◌else◌}
use Rattle.jn_base.specs.Place.{is_line_end}
use Rattle.jn_lsp_text.specs.Ranges.{range_at}
use Rattle.jn_lsp_text.specs.declared.encoding.Encoding.{Encoding}
use Rattle.jn_lsp_text.specs.declared.range.Range.{Range}
use Rattle.jn_lsp.specs.declared.front.Gap.{Gap}
use Rattle.jn_lsp.specs.declared.front.Gap.TheVariants.{Blank, Slash, Line, Block, Star, Token}

-- a space, a tab or a form feed, or the end of a line
abbrev pub is_white : ℕ → Bool
is_white byte = byte == 32 || byte == 9 || byte == 12 || is_line_end byte

-- what a byte is in a text that goes on so
abbrev pub led : Gap → ℕ → Gap
led Blank byte = if is_white byte then Blank else if byte == 47 then Slash else Token
led Slash byte = if byte == 47 then Line else if byte == 42 then Block else Token
led Line byte = if is_line_end byte then Blank else Line
led Block byte = if byte == 42 then Star else Block
led Star byte = if byte == 47 then Blank else if byte == 42 then Star else Block
led Token byte = Token

abbrev pub is_token : Gap → Bool
is_token Blank = false
is_token Slash = false
is_token Line = false
is_token Block = false
is_token Star = false
is_token Token = true

-- how many bytes of a text that goes on so stand before its first token; all where it has none
abbrev pub before_token : Gap → List ℕ → ℕ
before_token gap [] = 0
before_token gap (byte ∷ bytes) = if is_token (led gap byte) then 0 else 1 + before_token (led gap byte) bytes

-- the place of a text's first token, or of its end
abbrev pub front : Encoding → List ℕ → Range
front encoding text = let at = before_token Blank text in range_at encoding text at at
