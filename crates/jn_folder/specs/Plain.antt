-- Paths made plain: whole ones without `.`, `..`, and doubled or trailing slashes.
use Rattle.std.specs.Prelude.{ℕ, ◌==◌, ◌-◌, ◌++◌, ◌&&◌, ◌||◌, Bool, false, not, List, [], ◌∷◌, bytes_eq, codes, drop, eqb, length, take, if◌then◌else◌}
use Rattle.std.specs.List.{flat_map, fold, list_any, starts_with}
use Rattle.std.specs.Path.{cur_dir, parent_dir, path_components, root_dir}
use Rattle.jn_folder.specs.Listing.{is_skipped, joined}

-- the path begins with a slash
abbrev pub is_whole : List ℕ → Bool
is_whole [] = false
is_whole (byte ∷ bytes) = byte == 47

-- names, and one part more: `..` takes the last name away, the root and `.` add none
abbrev pub with_part : List (List ℕ) → List ℕ → List (List ℕ)
with_part names part =
    if bytes_eq part root_dir || bytes_eq part cur_dir then names else
    if bytes_eq part parent_dir then take (length names - 1) names else names ++ part ∷ []

-- the names on the way that a path goes from the root
abbrev pub names_on : List ℕ → List (List ℕ)
names_on path = fold with_part [] (path_components path)

-- the path of these names
abbrev pub path_of : List (List ℕ) → List ℕ
path_of names = if length names == 0 then codes "/" else flat_map (λ name. codes "/" ++ name) names

-- a path that isn't whole stays as it is
abbrev pub plain : List ℕ → List ℕ
plain path = if is_whole path then path_of (names_on path) else path

-- a plain path lies in a folder
abbrev pub lies_in : List ℕ → List ℕ → Bool
lies_in folder path = starts_with eqb path (joined folder [])

-- a plain path in the place where a folder really is, as it is below the folder; any other stays
abbrev pub rehomed : List ℕ → List ℕ → List ℕ → List ℕ
rehomed folder real path =
    if lies_in folder path || not (lies_in real path) then path else
    path_of (names_on folder ++ drop (length (names_on real)) (names_on path))

-- a plain path lies in a folder, and no name on the way from there is left out
abbrev pub is_below : List (List ℕ) → List ℕ → List ℕ → Bool
is_below skipped folder path = starts_with eqb path (joined folder []) && not (list_any (is_skipped skipped) (drop (length (names_on folder)) (names_on path)))
