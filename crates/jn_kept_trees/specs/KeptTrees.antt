-- What is kept of files' texts: their names and trees.
use Rattle.std.specs.Prelude.{ℕ, ◌≡◌, ◌⊎◌, List, Option, Some, None, Vec, get_or, slice_get}
use Rattle.std.specs.declared.alloc.Global.{Global}
use Rattle.jn_base.specs.declared.number.NameNo.{NameNo}
use Rattle.jn_base.specs.declared.place.Row.{Row}
use Rattle.jn_trees.specs.declared.declaration.FileTree.{FileTree}
use Rattle.jn_places.specs.PlacedView.{placed_file}
use Rattle.jn_renumber.specs.Merged.{merged_numbers}
use Rattle.jn_front.specs.declared.source.SourceFile.{SourceFile}
use Rattle.jn_front.specs.declared.outcome.Outcome.TheVariants.{Lexical, Syntax, Tree}
use Rattle.jn_front.specs.Numbered.{numbered_by}
use Rattle.jn_front.specs.Outcomes.{IsOutcome}
use Rattle.jn_kept_trees.specs.declared.kept.KeptTree.{KeptTree}

-- where there are numbers, they are those that the names get when they are merged into others
abbrev pub AreNumbersOf : Option (Vec NameNo Global) → List (List ℕ) → Type 0
AreNumbersOf None own = Unit {0}
AreNumbersOf (Some numbers) own = (all : List (List ℕ)) × (numbers.items ≡ merged_numbers all own)

-- the text of the k-th file has these names and a tree, whose names have these numbers here
pub record IsKeptTree (k : ℕ) (file : SourceFile) (kept : KeptTree) : Type 0 where
  pub own_tree : FileTree
  pub is : IsOutcome k file (Tree kept.own own_tree)
  pub numbers : AreNumbersOf kept.numbers kept.own
  pub numbered : placed_file kept.tree ≡ numbered_by kept.numbers (placed_file own_tree)

abbrev pub IsKeptOrNone : ℕ → SourceFile → Option KeptTree → Type 0
IsKeptOrNone k file None = Unit {0}
IsKeptOrNone k file (Some kept) = IsKeptTree k file kept

-- of each file nothing is kept, or its tree; what stands after the last file counts for nothing
abbrev pub AreKeptTrees : List SourceFile → List (Option KeptTree) → Type 0
AreKeptTrees files trees = (n : ℕ) (file : SourceFile) → slice_get files n ≡ Some file → IsKeptOrNone n file (get_or trees n None)

-- the tree is kept, or the text has a row in place of one
abbrev pub IsKeptOrRefused : ℕ → SourceFile → Option KeptTree → Type 0
IsKeptOrRefused k file None = (row : Row) × (IsOutcome k file (Lexical row) ⊎ IsOutcome k file (Syntax row))
IsKeptOrRefused k file (Some kept) = IsKeptTree k file kept

-- of each file its tree is kept, where its text has one
abbrev pub AreAllKept : List SourceFile → List (Option KeptTree) → Type 0
AreAllKept files trees = (n : ℕ) (file : SourceFile) → slice_get files n ≡ Some file → IsKeptOrRefused n file (get_or trees n None)

-- where a file has the text that the file at its place had, what was kept of it still is
abbrev pub StayKept : (last : List SourceFile) (trees : List (Option KeptTree)) (files : List SourceFile) (kept : List (Option KeptTree)) → Type 0
StayKept last trees files kept = (n : ℕ) (old file : SourceFile) → slice_get last n ≡ Some old → slice_get files n ≡ Some file → old.bytes ≡ file.bytes → get_or kept n None ≡ get_or trees n None
