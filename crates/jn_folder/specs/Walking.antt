-- What a walk below a root lists and finds.
use Rattle.std.specs.Prelude.{ℕ, zero, suc, ◌≡◌, ◌≢◌, ◌≤◌, ◌⊎◌, ◌↔◌, ◌++◌, List, [], ◌∷◌, Contains}
use Rattle.std.specs.Cmp.Lexicographic.{slice_cmp}
use Rattle.std.specs.Ordering.{nat_cmp}
use Rattle.std.specs.List.Sorted.{IsStrictlySortedBy}
use Rattle.jn_outside.specs.Causes.{Rose}
use Rattle.jn_folder.specs.declared.listed.Entry.{Entry}
use Rattle.jn_folder.specs.declared.listed.Listed.{Listed}
use Rattle.jn_folder.specs.Listing.{files_of, folders_of, listed, unnamed_of}

-- levels of folders that are listed: the root, the folders in it, and so on
abbrev pub most_levels : ℕ
most_levels = 64

-- each of these folders was listed, or is one of those that couldn't be, in their order: of each of these the count of faults rose
abbrev pub AreAsked : List (List ℕ) → List Listed → List (List ℕ) → ℕ → ℕ → Type 0
AreAsked [] told missed before now = (told ≡ []) × (missed ≡ []) × (now ≡ before)
AreAsked (path ∷ paths) told missed before now =
    ((entries : List Entry) × (others : List Listed) × (told ≡ listed path entries ∷ others) × AreAsked paths others missed before now)
    ⊎ ((others : List (List ℕ)) × (mid : ℕ) × (missed ≡ path ∷ others) × Rose before mid × AreAsked paths told others mid now)

-- these folders were asked, then the folders in those that were listed, and so on for so many levels; folders of some names are left out
abbrev pub AreBelow : List (List ℕ) → ℕ → List (List ℕ) → List Listed → List (List ℕ) → ℕ → ℕ → Type 0
AreBelow skipped zero paths told missed before now = (told ≡ []) × (missed ≡ []) × (now ≡ before)
AreBelow skipped (suc levels) paths told missed before now =
    (here : List Listed) × (below : List Listed) × (lost : List (List ℕ)) × (deeper : List (List ℕ)) × (mid : ℕ)
    × (told ≡ here ++ below) × (missed ≡ lost ++ deeper) × AreAsked paths here lost before mid × AreBelow skipped levels (folders_of skipped here) below deeper mid now

-- the new list has the names of the old one, each once, in the order of their bytes
pub record IsOrderOf (old new : List (List ℕ)) : Type 0 where
  pub sorted : IsStrictlySortedBy (slice_cmp nat_cmp) new
  pub same : (name : List ℕ) → Contains new name ↔ Contains old name

-- what a walk tells: what was listed before and after, and the counts of faults
pub record Telling : Type 0 where
  pub old : List Listed
  pub new : List Listed
  pub before : ℕ
  pub now : ℕ

abbrev pub telling : List Listed → List Listed → ℕ → ℕ → Telling
telling old new before now = record { old = old; new = new; before = before; now = now }

-- in the call these folders below the root were listed, these were missed, in these a name is no text, and the names are those of all Java
-- files that were listed
pub record Walks (skipped : List (List ℕ)) (root : List ℕ) (tells : Telling) (names missed unnamed : List (List ℕ)) : Type 0 where
  pub told : List Listed
  pub gave : tells.new ≡ tells.old ++ told
  pub below : AreBelow skipped most_levels (root ∷ []) told missed tells.before tells.now
  pub order : IsOrderOf (files_of told) names
  pub strange : unnamed ≡ unnamed_of told

-- ---- walks that stopped

-- these folders were listed, and asking the folders of a level in their order may go on so
pub record BeginsLevel (before : ℕ) (paths : List (List ℕ)) (old new : List Listed) : Type 0 where
  pub told : List Listed
  pub gave : new ≡ old ++ told
  pub more : List Listed
  pub missed : List (List ℕ)
  pub now : ℕ
  pub goes_on : AreAsked paths (told ++ more) missed before now

-- these folders were listed, and a walk below the root may go on so
pub record BeginsWalk (skipped : List (List ℕ)) (root : List ℕ) (before : ℕ) (old new : List Listed) : Type 0 where
  pub told : List Listed
  pub gave : new ≡ old ++ told
  pub more : List Listed
  pub missed : List (List ℕ)
  pub now : ℕ
  pub goes_on : AreBelow skipped most_levels (root ∷ []) (told ++ more) missed before now

-- ---- counts

-- the count of faults rose once for each folder that was missed
abbrev pub RoseForEach : List (List ℕ) → ℕ → ℕ → Type 0
RoseForEach [] before now = now ≡ before
RoseForEach (path ∷ missed) before now = (mid : ℕ) × Rose before mid × RoseForEach missed mid now

-- the count of faults rose where folders were missed, for each of them, and only there
pub record Counts (missed : List (List ℕ)) (before now : ℕ) : Type 0 where
  pub later : before ≤ now
  pub kept : missed ≡ [] → now ≡ before
  pub rose : missed ≢ [] → Rose before now
  pub each : RoseForEach missed before now

-- what was listed, the count of faults, the files and the folders that were found, and the folders that were missed or list a name that is no text
pub record Seen : Type 0 where
  pub told : List Listed
  pub faults : ℕ
  pub files : List (List ℕ)
  pub below : List (List ℕ)
  pub missed : List (List ℕ)
  pub unnamed : List (List ℕ)

abbrev pub seen : List Listed → ℕ → List (List ℕ) → List (List ℕ) → List (List ℕ) → List (List ℕ) → Seen
seen told faults files below missed unnamed = record { told = told; faults = faults; files = files; below = below; missed = missed; unnamed = unnamed }

-- these folders were asked, and what they listed was put after what was found
pub record Asks (skipped paths : List (List ℕ)) (old new : Seen) : Type 0 where
  pub told : List Listed
  pub lost : List (List ℕ)
  pub gave : new.told ≡ old.told ++ told
  pub asked : AreAsked paths told lost old.faults new.faults
  pub files : new.files ≡ old.files ++ files_of told
  pub below : new.below ≡ old.below ++ folders_of skipped told
  pub missed : new.missed ≡ old.missed ++ lost
  pub unnamed : new.unnamed ≡ old.unnamed ++ unnamed_of told
  pub counts : Counts lost old.faults new.faults

-- so were these, and so many levels of folders below
pub record AsksBelow (skipped : List (List ℕ)) (levels : ℕ) (paths : List (List ℕ)) (old new : Seen) : Type 0 where
  pub told : List Listed
  pub lost : List (List ℕ)
  pub gave : new.told ≡ old.told ++ told
  pub asked : AreBelow skipped levels paths told lost old.faults new.faults
  pub files : new.files ≡ old.files ++ files_of told
  pub missed : new.missed ≡ old.missed ++ lost
  pub unnamed : new.unnamed ≡ old.unnamed ++ unnamed_of told
  pub counts : Counts lost old.faults new.faults
