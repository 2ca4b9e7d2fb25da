-- The files that change.
use Rattle.std.specs.Prelude.{ℕ, cond, bytes_eq, List, [], ◌∷◌, ◌++◌, map}
use Rattle.std.specs.List.{flat_map}
use Rattle.jn_diff.specs.Diff.{file_diff}
use Rattle.jn_targets.specs.declared.replaced.Replaced.{Replaced}
use Rattle.jn_targets.specs.Replacing.{replacement}
use Rattle.jn_front.specs.declared.source.SourceFile.{SourceFile}
use Rattle.nullcheck_annotate_top.specs.declared.changes.Change.{Change}

abbrev pub change_if : SourceFile → List ℕ → List Change
change_if file new = cond (bytes_eq file.bytes new) [] (record { name = file.name; old = file.bytes; new = new } ∷ [])

-- the files whose new text is another one, in their order
abbrev pub changes : List SourceFile → List (List ℕ) → List Change
changes [] new = []
changes (file ∷ files) [] = []
changes (file ∷ files) (text ∷ texts) = change_if file text ++ changes files texts

abbrev pub change_diff : Change → List ℕ
change_diff c = file_diff c.name c.old c.new

-- the unified diff of all of them
abbrev pub diffs : List Change → List ℕ
diffs cs = flat_map change_diff cs

abbrev pub replaced_by : Change → Replaced
replaced_by c = replacement c.name c.new

abbrev pub replacements : List Change → List Replaced
replacements cs = map replaced_by cs
