-- The text of a unified diff.
use Rattle.std.specs.Prelude.{ℕ, ◌+◌, ◌-◌, ◌==◌, Bool, cond, bytes_eq, codes, decimal, count_by, List, [], ◌∷◌, ◌++◌, length, slice_index_or}
use Rattle.std.specs.List.{flat_map}
use Rattle.jn_diff.specs.declared.line.Line.{Line}
use Rattle.jn_diff.specs.Lines.{is_there, paired}
use Rattle.jn_diff.specs.Names.{side_name}
use Rattle.jn_diff.specs.Hunks.{Hunk, hunks, is_changed}

-- its last byte is a line feed
abbrev pub is_ended : List ℕ → Bool
is_ended line = slice_index_or line (length line - 1) 0 == 10

-- a line feed after a line that has none, and a line that says so
abbrev pub ending : List ℕ → List ℕ
ending line = cond (is_ended line) [] (codes "\n\\ No newline at end of file\n")

-- the line after a sign, where it is there
abbrev pub signed : List ℕ → List ℕ → List ℕ
signed sign line = cond (is_there line) (sign ++ (line ++ ending line)) []

-- a line that differs is shown as it was and as it is
abbrev pub line_text : Line → List ℕ
line_text l = cond (is_changed l) (signed (codes "-") l.old ++ signed (codes "+") l.new) (signed (codes " ") l.old)

-- the number of the first line, and how many there are
abbrev pub range : ℕ → ℕ → List ℕ
range first count = decimal first ++ (codes "," ++ decimal count)

abbrev pub old_count : List Line → ℕ
old_count ls = count_by (λ (l : Line). is_there l.old) ls

abbrev pub new_count : List Line → ℕ
new_count ls = count_by (λ (l : Line). is_there l.new) ls

-- lines that only the new text has
abbrev pub added_count : List Line → ℕ
added_count [] = 0
added_count (l ∷ ls) = cond (is_there l.old) 0 1 + added_count ls

-- after so many of these, its first line has so much smaller a number in the old text
abbrev pub hunk_head : ℕ → Hunk → List ℕ
hunk_head back h = codes "@@ -" ++ range (h.first - back) (old_count h.lines) ++ codes " +" ++ range h.first (new_count h.lines) ++ codes " @@\n"

unfoldable pub hunk_text : ℕ → Hunk → List ℕ
hunk_text back h = hunk_head back h ++ flat_map line_text h.lines

abbrev pub hunks_text : ℕ → List Hunk → List ℕ
hunks_text back [] = []
hunks_text back (h ∷ hs) = hunk_text back h ++ hunks_text (back + added_count h.lines) hs

abbrev pub names_text : List ℕ → List ℕ
names_text name = codes "--- " ++ side_name (codes "a/") name ++ codes "\n+++ " ++ side_name (codes "b/") name ++ codes "\n"

-- what makes the first text the second one, where they differ: a file of this name is patched
abbrev pub file_diff : List ℕ → List ℕ → List ℕ → List ℕ
file_diff name old new = cond (bytes_eq old new) [] (names_text name ++ hunks_text 0 (hunks (paired old new)))
