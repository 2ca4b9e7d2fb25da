-- What a note says beside a syntax row: where the text of the file stops being of the subset.
use Rattle.std.specs.Prelude.{◌≡◌, ℕ, ◌-◌, List, [], ◌∷◌, ◌++◌, Bool, true, false, ◌&&◌, cond, nat_eq, length, take, drop, codes, Option, Some, None, slice_get}
use Rattle.jn_base.specs.declared.number.FileNo.{FileNo}
use Rattle.jn_base.specs.declared.place.Span.{Span}
use Rattle.jn_trees.specs.declared.token.Token.{Token}
use Rattle.jn_trees.specs.declared.token.TokenKind.{TokenKind}
use Rattle.jn_trees.specs.declared.token.TokenKind.TheVariants.{Str, Minus, Greater, GreaterEqual, Less, LessEqual, Colon, Dot}
use Rattle.jn_trees.specs.Pieces.{kinds}
use Rattle.jn_lexer.specs.Lexed.{Lexed}
use Rattle.jn_follow.specs.declared.noting.StopNote.{StopNote}
use Rattle.jn_follow.specs.Place.{IsStop}

-- what a longer sign goes on with after `-`
abbrev pub is_arrow_end : TokenKind → Bool
is_arrow_end Greater = true
is_arrow_end _ = false

-- after `:`
abbrev pub is_colon : TokenKind → Bool
is_colon Colon = true
is_colon _ = false

-- after `.`
abbrev pub is_dot : TokenKind → Bool
is_dot Dot = true
is_dot _ = false

-- after `<`
abbrev pub is_left_shift : TokenKind → Bool
is_left_shift Less = true
is_left_shift LessEqual = true
is_left_shift _ = false

-- after `>`
abbrev pub is_right_shift : TokenKind → Bool
is_right_shift Greater = true
is_right_shift GreaterEqual = true
is_right_shift _ = false

-- where they touch Java reads the two as one sign, or as the begin of one: `->`, `::`, `...`, `<<`, `>>` and the longer ones (JLS 8, 3.11 and 3.12)
abbrev pub is_pair : TokenKind → TokenKind → Bool
is_pair Minus k = is_arrow_end k
is_pair Colon k = is_colon k
is_pair Dot k = is_dot k
is_pair Less k = is_left_shift k
is_pair Greater k = is_right_shift k
is_pair _ k = false

-- the second token touches the first, and they are a part of one sign
abbrev pub joins : Token → Token → Bool
joins t u = nat_eq t.span.to u.span.from && is_pair t.kind u.kind

-- the first byte of the sign that the token is a part of, by the token before it
abbrev pub sign_from : Option Token → Token → ℕ
sign_from None t = t.span.from
sign_from (Some before) t = cond (joins before t) before.span.from t.span.from

-- where that sign ends, by the tokens after it
abbrev pub sign_to : Token → List Token → ℕ
sign_to t [] = t.span.to
sign_to t (next ∷ ts) = cond (joins t next) (sign_to next ts) t.span.to

-- the bytes from one place of a text to another
abbrev pub bytes_between : List ℕ → ℕ → ℕ → List ℕ
bytes_between text from to = take (to - from) (drop from text)

-- these words, at this place of the file
abbrev pub note_at : List ℕ → FileNo → ℕ → ℕ → StopNote
note_at words file from to = record { words = words; span = record { file = file; from = from; to = to } }

-- the text ends there, and more is to come
abbrev pub end_note : FileNo → ℕ → StopNote
end_note file end = note_at (codes "the file ends where more is to come: at") file end end

-- no file of the subset goes on with a string, which may hold any character and isn't shown
abbrev pub string_note : FileNo → ℕ → ℕ → StopNote
string_note file from to = note_at (codes "no file of the subset goes on here: a string at") file from to

-- no file of the subset goes on with these bytes
abbrev pub sign_note : FileNo → List ℕ → ℕ → ℕ → StopNote
sign_note file text from to = note_at (codes "no file of the subset goes on here: `" ++ bytes_between text from to ++ codes "` at") file from to

-- the token is a string
abbrev pub is_string : TokenKind → Bool
is_string (Str n) = true
is_string _ = false

-- what is said where these tokens are left, after one or at the text's begin: that no file goes on with the first, or the sign that it is a part of, or that the text ends too early
abbrev pub stop_note : FileNo → List ℕ → Option Token → List Token → StopNote
stop_note file text before [] = end_note file (length text)
stop_note file text before (t ∷ ts) = cond (is_string t.kind) (string_note file t.span.from t.span.to) (sign_note file text (sign_from before t) (sign_to t ts))

-- the token before this one, if it isn't the first
abbrev pub token_before : List Token → ℕ → Option Token
token_before ts n = cond (nat_eq n 0) None (slice_get ts (n - 1))

-- of a text with these tokens: the note of the place where the table stops, unless that is the row's own first byte
pub record IsStopAmong (file : FileNo) (text : List ℕ) (tokens : List Token) (row : Span) (note : StopNote) : Type 0 where
  pub number : ℕ
  pub stops : IsStop (kinds tokens) number
  pub is : note ≡ stop_note file text (token_before tokens number) (drop number tokens)
  pub apart : note.span.from ≡ row.from → ⊥

-- the note of a text with these tokens, or that there is none
abbrev pub NoteAmong : FileNo → List ℕ → List Token → Span → Option StopNote → Type 0
NoteAmong file text tokens row None = (note : StopNote) → IsStopAmong file text tokens row note → ⊥
NoteAmong file text tokens row (Some note) = IsStopAmong file text tokens row note

-- the same of the text of a file, by its tokens
pub record IsStopNote (file : FileNo) (text : List ℕ) (row : Span) (note : StopNote) : Type 0 where
  pub tokens : List Token
  pub names : List (List ℕ)
  pub lexed : Lexed file text [] tokens names
  pub stops : IsStopAmong file text tokens row note

-- the note beside a row at this place in a file of this text, or that there is none
abbrev pub NoteBeside : FileNo → List ℕ → Span → Option StopNote → Type 0
NoteBeside file text row None = (note : StopNote) → IsStopNote file text row note → ⊥
NoteBeside file text row (Some note) = IsStopNote file text row note
