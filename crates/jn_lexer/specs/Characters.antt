-- Classes of characters, and lists of them.
use Rattle.std.specs.Prelude.{◌≡◌, ℕ, Bool, true, false, not, ◌&&◌, ◌||◌, nat_eq, nat_le, List, [], ◌∷◌, length, encode_utf8_all}
use Rattle.unicode_ident.specs.Ident.{is_xid_start, is_xid_continue}

-- line feed and carriage return (JLS 3.4)
unfoldable pub is_line_end : ℕ → Bool
is_line_end c = nat_eq c 10 || nat_eq c 13

-- what a comment to the line's end may hold (JLS 3.7)
unfoldable pub is_in_line : ℕ → Bool
is_in_line c = not (is_line_end c)

-- space, tab, form feed and line ends (JLS 3.6)
unfoldable pub is_white : ℕ → Bool
is_white c = nat_eq c 32 || nat_eq c 9 || nat_eq c 12 || is_line_end c

-- 0 to 9
unfoldable pub is_digit : ℕ → Bool
is_digit c = nat_le 48 c && nat_le c 57

-- a digit or `_`
unfoldable pub is_digit_or_low : ℕ → Bool
is_digit_or_low c = is_digit c || nat_eq c 95

-- what may begin an identifier (Unicode's XID_Start, `_` and `$`)
unfoldable pub is_start : ℕ → Bool
is_start c = is_xid_start c || nat_eq c 95 || nat_eq c 36

-- what may go on an identifier (Unicode's XID_Continue and `$`)
unfoldable pub is_part : ℕ → Bool
is_part c = is_xid_continue c || nat_eq c 36

-- what stands for itself in a string (JLS 3.10.5)
unfoldable pub is_plain : ℕ → Bool
is_plain c = not (nat_eq c 34 || nat_eq c 92 || is_line_end c)

-- each character passes
abbrev pub AllAre : (ℕ → Bool) → List ℕ → Type 0
AllAre p [] = Unit {0}
AllAre p (c ∷ cs) = (p c ≡ true) × AllAre p cs

-- the text is empty, or begins with a character that passes
abbrev pub BeginsOnly : (ℕ → Bool) → List ℕ → Type 0
BeginsOnly p [] = Unit {0}
BeginsOnly p (c ∷ cs) = p c ≡ true

-- the text begins with no character that passes
abbrev pub BeginsNot : (ℕ → Bool) → List ℕ → Type 0
BeginsNot p [] = Unit {0}
BeginsNot p (c ∷ cs) = p c ≡ false

-- how many bytes the characters are in UTF-8
abbrev pub width : List ℕ → ℕ
width cs = length (encode_utf8_all cs)
