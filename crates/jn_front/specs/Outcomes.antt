-- What becomes of the text of each file, with names of its own, and what all files have of it: rows, or names and trees.
use Rattle.std.specs.Prelude.{ℕ, ◌≡◌, ◌+◌, ◌≤◌, List, [], ◌∷◌, length, Some, slice_get}
use Rattle.jn_base.specs.declared.place.Row.{Row}
use Rattle.jn_trees.specs.declared.token.Token.{Token}
use Rattle.jn_trees.specs.Pieces.{IsSyntaxRow}
use Rattle.jn_places.specs.Placed.{PlacedFile}
use Rattle.jn_places.specs.PlacedView.{placed_file}
use Rattle.jn_places.specs.Places.{IsPlacedFile}
use Rattle.jn_lexer.specs.Lexed.{Lexed}
use Rattle.jn_lexer.specs.Faults.{LexicalFault}
use Rattle.jn_known.specs.Known.{known_names}
use Rattle.jn_renumber.specs.Merged.{merged, merged_numbers}
use Rattle.jn_renumber.specs.Renumbered.{renumbered_file}
use Rattle.jn_front.specs.declared.source.SourceFile.{SourceFile}
use Rattle.jn_front.specs.declared.source.SourceRead.{SourceRead}
use Rattle.jn_front.specs.declared.outcome.Outcome.{Outcome}
use Rattle.jn_front.specs.declared.outcome.Outcome.TheVariants.{Lexical, Syntax, Tree}
use Rattle.jn_front.specs.Phases.{file_no}

-- the text of the k-th file has this outcome
abbrev pub IsOutcome : ℕ → SourceFile → Outcome → Type 0
IsOutcome k file (Lexical row) = LexicalFault (file_no k) file.bytes row
IsOutcome k file (Syntax row) = (own : List (List ℕ)) × (tokens : List Token) × Lexed (file_no k) file.bytes known_names tokens own × IsSyntaxRow (file_no k) (length file.bytes) tokens row
IsOutcome k file (Tree own tree) = (tokens : List Token) × Lexed (file_no k) file.bytes known_names tokens own × IsPlacedFile tokens (placed_file tree)

-- the texts of the files from the k-th on have these outcomes
abbrev pub AreOutcomes : ℕ → List SourceFile → List Outcome → Type 0
AreOutcomes k [] [] = Unit {0}
AreOutcomes k [] (outcome ∷ outcomes) = ⊥
AreOutcomes k (file ∷ files) [] = ⊥
AreOutcomes k (file ∷ files) (outcome ∷ outcomes) = IsOutcome k file outcome × AreOutcomes (k + 1) files outcomes

-- the text of the k-th of the files that were read has this outcome
abbrev pub IsOutcomeOf : List SourceRead → ℕ → Outcome → Type 0
IsOutcomeOf reads k outcome = (read : SourceRead) × (slice_get reads k ≡ Some read) × IsOutcome k read.file outcome

-- the lexical faults
abbrev pub lexical_rows : List Outcome → List Row
lexical_rows [] = []
lexical_rows (Lexical row ∷ outcomes) = row ∷ lexical_rows outcomes
lexical_rows (Syntax row ∷ outcomes) = lexical_rows outcomes
lexical_rows (Tree own tree ∷ outcomes) = lexical_rows outcomes

-- the syntax rows
abbrev pub syntax_rows : List Outcome → List Row
syntax_rows [] = []
syntax_rows (Lexical row ∷ outcomes) = syntax_rows outcomes
syntax_rows (Syntax row ∷ outcomes) = row ∷ syntax_rows outcomes
syntax_rows (Tree own tree ∷ outcomes) = syntax_rows outcomes

-- the names, with those of each tree merged into them one after another
abbrev pub joined_names : List (List ℕ) → List Outcome → List (List ℕ)
joined_names names [] = names
joined_names names (Lexical row ∷ outcomes) = joined_names names outcomes
joined_names names (Syntax row ∷ outcomes) = joined_names names outcomes
joined_names names (Tree own tree ∷ outcomes) = joined_names (merged names own) outcomes

-- the trees, each with the numbers that its names then have
abbrev pub joined_trees : List (List ℕ) → List Outcome → List PlacedFile
joined_trees names [] = []
joined_trees names (Lexical row ∷ outcomes) = joined_trees names outcomes
joined_trees names (Syntax row ∷ outcomes) = joined_trees names outcomes
joined_trees names (Tree own tree ∷ outcomes) = renumbered_file (merged_numbers names own) (placed_file tree) ∷ joined_trees (merged names own) outcomes

-- no tree has more names than a file of a megabyte can
abbrev pub HaveFewNames : List Outcome → Type 0
HaveFewNames [] = Unit {0}
HaveFewNames (Lexical row ∷ outcomes) = HaveFewNames outcomes
HaveFewNames (Syntax row ∷ outcomes) = HaveFewNames outcomes
HaveFewNames (Tree own tree ∷ outcomes) = (length own ≤ 1048606) × HaveFewNames outcomes
