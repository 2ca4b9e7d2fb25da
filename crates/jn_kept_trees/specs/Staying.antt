-- Trees that stay as they were.
use Rattle.std.specs.Prelude.{ℕ, ◌≡◌, Bool, true, false, ◌&&◌, List, [], ◌∷◌, ◌++◌, Option, Some, None, get_or, is_none, slice_get}
use Rattle.jn_places.specs.Placed.{PlacedFile}
use Rattle.jn_places.specs.PlacedView.{placed_file}
use Rattle.jn_front.specs.declared.renumbering.Numbered.{Numbered}
use Rattle.jn_kept_trees.specs.declared.kept.KeptTree.{KeptTree}

-- where a file is told to have the tree that was kept, it has
abbrev pub StayPlaced : List (Option KeptTree) → List Bool → List PlacedFile → Type 0
StayPlaced before same trees = (n : ℕ) → get_or same n false ≡ true → (old : KeptTree) × (get_or before n None ≡ Some old) × (slice_get trees n ≡ Some (placed_file old.tree))

-- what is kept of a file was kept before
abbrev pub WereKept : (before kept : List (Option KeptTree)) → Type 0
WereKept before kept = (n : ℕ) (one : KeptTree) → get_or kept n None ≡ Some one → get_or before n None ≡ Some one

-- what is told of a file by the first is told of it by the second
abbrev pub AreAmong : List Bool → List Bool → Type 0
AreAmong some all = (n : ℕ) → get_or some n false ≡ true → get_or all n false ≡ true

-- ---- before the names get other numbers

abbrev pub raw_tree : Numbered → PlacedFile
raw_tree numbered = placed_file numbered.tree

abbrev pub raw_of : Option KeptTree → List PlacedFile
raw_of None = []
raw_of (Some kept) = placed_file kept.tree ∷ []

-- the trees of the files that have one
abbrev pub raw_trees : List (Option KeptTree) → List PlacedFile
raw_trees [] = []
raw_trees (kept ∷ rest) = raw_of kept ++ raw_trees rest

-- a tree stays as it was where it was kept and its names keep their numbers
abbrev pub stays_as_it_was : (kept : Bool) → Option Numbered → Bool
stays_as_it_was kept None = false
stays_as_it_was kept (Some tree) = kept && is_none tree.numbers

-- what is kept of files is their tree
abbrev pub HaveTrees : List (Option KeptTree) → List PlacedFile → Type 0
HaveTrees kept placed = (n : ℕ) (one : KeptTree) → get_or kept n None ≡ Some one → slice_get placed n ≡ Some (placed_file one.tree)
