-- How far a token or a comment goes, as a scan finds it.
use Rattle.std.specs.Prelude.{ℕ, suc, ◌+◌, Bool, true, false, not, ◌&&◌, ◌||◌, nat_eq, if◌then◌else◌, List, [], ◌∷◌, length, Option, Some, None, option_map, unwrap_or, is_none}
use Rattle.jn_lexer.specs.Characters.{is_line_end, is_white, is_digit}
use Rattle.jn_lexer.specs.Lexemes.{escape_value}

-- the length up to and with the next `*/`; `star` says whether a `*` stands just before
abbrev pub block_len : Bool → List ℕ → Option ℕ
block_len star [] = None
block_len star (c ∷ cs) = if star && nat_eq c 47 then Some 1 else option_map suc (block_len (nat_eq c 42) cs)

-- how many characters stand before the `"` that closes a string; `slash` says whether a backslash that begins an escape stands just before
abbrev pub string_len : Bool → List ℕ → Option ℕ
string_len slash [] = None
string_len slash (c ∷ cs) =
    if is_line_end c then None
    else (if slash then option_map suc (string_len false cs)
    else (if nat_eq c 34 then Some 0 else option_map suc (string_len (nat_eq c 92) cs)))

-- the place of the first character after a backslash with which it is no escape
abbrev pub bad_letter : Bool → List ℕ → Option ℕ
bad_letter slash [] = None
bad_letter true (c ∷ cs) = if is_none (escape_value c) then Some 0 else option_map suc (bad_letter false cs)
bad_letter false (c ∷ cs) = option_map suc (bad_letter (nat_eq c 92) cs)

-- what the inside of a string stands for
abbrev pub unescaped : Bool → List ℕ → List ℕ
unescaped slash [] = []
unescaped true (c ∷ cs) = unwrap_or (escape_value c) c ∷ unescaped false cs
unescaped false (c ∷ cs) = if nat_eq c 92 then unescaped true cs else c ∷ unescaped false cs

-- the text begins with what makes a `/` before it the beginning of a comment (JLS 8, 3.7)
abbrev pub begins_mark : List ℕ → Bool
begins_mark [] = false
begins_mark (c ∷ cs) = nat_eq c 47 || nat_eq c 42

-- the text begins with a comment or a white character
abbrev pub begins_blank : List ℕ → Bool
begins_blank [] = false
begins_blank (c ∷ cs) = is_white c || (nat_eq c 47 && begins_mark cs)

-- whether the second text is the front of the first
abbrev pub begins : List ℕ → List ℕ → Bool
begins text [] = true
begins [] (f ∷ fs) = false
begins (c ∷ cs) (f ∷ fs) = nat_eq c f && begins cs fs

-- whether the two texts are one
abbrev pub is_spelled : List ℕ → List ℕ → Bool
is_spelled text word = nat_eq (length text) (length word) && begins text word

-- whether a `.` and a digit stand at the front
abbrev pub begins_bad_dot : List ℕ → Bool
begins_bad_dot [] = false
begins_bad_dot (c ∷ []) = false
begins_bad_dot (c ∷ d ∷ ds) = nat_eq c 46 && is_digit d

-- the first backslash that begins a Unicode escape; `slash` says whether one that may do so stands just before
abbrev pub escape_at : Bool → List ℕ → Option ℕ
escape_at slash [] = None
escape_at slash (c ∷ cs) = if slash && nat_eq c 117 then Some 0 else option_map suc (escape_at (nat_eq c 92 && not slash) cs)

-- a place after i characters, as a place in the whole
abbrev pub shifted : ℕ → Option ℕ → Option ℕ
shifted i place = option_map (λ n. i + n) place

abbrev pub begins_dot : List ℕ → Bool
begins_dot [] = false
begins_dot (c ∷ cs) = nat_eq c 46
