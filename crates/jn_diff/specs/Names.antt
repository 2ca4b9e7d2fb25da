-- Names of files as a diff has them, so that git reads them back.
use Rattle.std.specs.Prelude.{ℕ, ◌==◌, ◌&&◌, ◌||◌, Bool, true, cond, codes, List, [], ◌∷◌, ◌++◌}
use Rattle.std.specs.List.{flat_map, list_any}

-- a part of a name ends at a slash or at the name's end
abbrev pub ends_part : List ℕ → Bool
ends_part [] = true
ends_part (c ∷ cs) = c == 47

-- at the beginning of a part: it is empty, or it is `.`
abbrev pub is_left_out : Bool → ℕ → List ℕ → Bool
is_left_out fresh c cs = fresh && (c == 47 || c == 46 && ends_part cs)

-- the name without empty parts and parts `.`; `fresh` is whether a part begins here
abbrev pub trimmed : Bool → List ℕ → List ℕ
trimmed fresh [] = []
trimmed fresh (c ∷ cs) = cond (is_left_out fresh c cs) (trimmed fresh cs) (c ∷ trimmed (c == 47) cs)

-- tab, line feed, carriage return, quote and backslash
abbrev pub is_escaped : ℕ → Bool
is_escaped c = c == 9 || c == 10 || c == 13 || c == 34 || c == 92

-- how git writes a byte in quotes
abbrev pub escape : ℕ → List ℕ
escape c = cond (c == 9) (codes "\\t") (cond (c == 10) (codes "\\n") (cond (c == 13) (codes "\\r") (cond (is_escaped c) (92 ∷ c ∷ []) (c ∷ []))))

-- a name with such a byte stands in quotes
abbrev pub quoted : List ℕ → List ℕ
quoted name = cond (list_any is_escaped name) (34 ∷ flat_map escape name ++ 34 ∷ []) name

-- the name on one side of a diff
abbrev pub side_name : List ℕ → List ℕ → List ℕ
side_name side name = quoted (side ++ trimmed true name)
