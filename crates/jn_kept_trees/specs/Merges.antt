-- The names of all files, with those of the texts that have trees merged into them one after another, and the numbers that these get.
use Rattle.std.specs.Prelude.{ℕ, ◌≡◌, ◌≤◌, ◌++◌, List, [], ◌∷◌, length, Option, Some, None, Vec, slice_get}
use Rattle.std.specs.declared.alloc.Global.{Global}
use Rattle.jn_base.specs.declared.number.NameNo.{NameNo}
use Rattle.jn_trees.specs.declared.declaration.FileTree.{FileTree}
use Rattle.jn_places.specs.Placed.{PlacedFile}
use Rattle.jn_places.specs.PlacedView.{placed_file}
use Rattle.jn_renumber.specs.Merged.{merged, merged_numbers}
use Rattle.jn_renumber.specs.Renumbered.{renumbered_file}
use Rattle.jn_front.specs.declared.source.SourceFile.{SourceFile}
use Rattle.jn_kept_trees.specs.declared.kept.KeptTree.{KeptTree}
use Rattle.jn_kept_trees.specs.declared.merging.TextNames.{TextNames}
use Rattle.jn_kept_trees.specs.KeptTrees.{AreNumbersOf, IsKeptTree}
use Rattle.jn_kept_trees.specs.Shifts.{AreConsistent, LeadsFrom}

-- ---- ways from numbers to numbers

-- there is a way from the old numbers; own ones lead everywhere
abbrev pub HasWay : Option (Vec NameNo Global) → List NameNo → Type 0
HasWay None new = Unit {0}
HasWay (Some old) new = (length new ≡ length old.items) × AreConsistent old.items new

-- by these numbers the old ones become the new ones; by none where they are the same
abbrev pub IsWay : Option (Vec NameNo Global) → List NameNo → Option (Vec NameNo Global) → Type 0
IsWay None new None = ⊥
IsWay None new (Some by) = by.items ≡ new
IsWay (Some old) new None = old.items ≡ new
IsWay (Some old) new (Some by) = LeadsFrom old.items new by.items

-- ---- merging

-- the names are few enough, and the numbers are theirs
abbrev pub IsFit : Option KeptTree → Type 0
IsFit None = Unit {0}
IsFit (Some kept) = (length kept.own ≤ 1048606) × AreNumbersOf kept.numbers kept.own

abbrev pub AreFit : List (Option KeptTree) → Type 0
AreFit [] = Unit {0}
AreFit (kept ∷ rest) = IsFit kept × AreFit rest

-- it is the text's tree with these numbers
abbrev pub IsNumberedBy : KeptTree → List NameNo → PlacedFile → Type 0
IsNumberedBy kept numbers tree = (k : ℕ) (file : SourceFile) (is : IsKeptTree k file kept) → tree ≡ renumbered_file numbers (placed_file is.own_tree)

-- they are the text's names, with these numbers
abbrev pub HasNumbers : KeptTree → List NameNo → TextNames → Type 0
HasNumbers kept numbers text = (text.own ≡ kept.own) × (text.numbers.items ≡ numbers)

-- one text more
abbrev pub IsJoined : Option KeptTree → (names now : List (List ℕ)) (trees more : List PlacedFile) (texts others : List TextNames) → Type 0
IsJoined None names now trees more texts others = (now ≡ names) × (more ≡ trees) × (others ≡ texts)
IsJoined (Some kept) names now trees more texts others =
    (tree : PlacedFile) × (text : TextNames)
    × (now ≡ merged names kept.own) × (more ≡ trees ++ tree ∷ []) × (others ≡ texts ++ text ∷ [])
    × IsNumberedBy kept (merged_numbers names kept.own) tree × HasNumbers kept (merged_numbers names kept.own) text

-- the texts one after another: each that has a tree gets its numbers after those before it, and `last` are the names then
abbrev pub AreMerged : List (List ℕ) → List (Option KeptTree) → List PlacedFile → List TextNames → List (List ℕ) → Type 0
AreMerged names [] trees texts last = (trees ≡ []) × (texts ≡ []) × (last ≡ names)
AreMerged names (None ∷ rest) trees texts last = AreMerged names rest trees texts last
AreMerged names (Some kept ∷ rest) trees texts last =
    (tree : PlacedFile) × (more : List PlacedFile) × (text : TextNames) × (others : List TextNames)
    × (trees ≡ tree ∷ more) × (texts ≡ text ∷ others)
    × IsNumberedBy kept (merged_numbers names kept.own) tree × HasNumbers kept (merged_numbers names kept.own) text
    × AreMerged (merged names kept.own) rest more others last

-- ---- what is kept then

abbrev pub kept_with : TextNames → FileTree → KeptTree
kept_with text tree = record { own = text.own; numbers = Some text.numbers; tree = tree }

-- each file has names and a tree that can be kept
pub record CanBeKept (files : List SourceFile) (texts : List TextNames) (trees : List FileTree) : Type 0 where
  pub many_texts : length texts ≡ length files
  pub many_trees : length trees ≡ length files
  pub each : (n : ℕ) (file : SourceFile) (text : TextNames) (tree : FileTree) → slice_get files n ≡ Some file → slice_get texts n ≡ Some text → slice_get trees n ≡ Some tree → IsKeptTree n file (kept_with text tree)

-- nothing is missing
abbrev pub AreAll : List (Option KeptTree) → Type 0
AreAll [] = Unit {0}
AreAll (None ∷ rest) = ⊥
AreAll (Some kept ∷ rest) = AreAll rest
