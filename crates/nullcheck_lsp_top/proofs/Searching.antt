-- Folders that are asked one after the other.
use Rattle.std.proofs.Common.{◌≡◌, ℕ, ◌+◌, ◌<◌, ◌++◌, List, [], ◌∷◌, drop, get_or, length, take, Option, Some, None, inl, inr, refl, sym, ap, ◌∙◌, subst, append_assoc, append-nil}
use Rattle.std.proofs.lemmas.List.{drop_more, take-append-drop}
use Rattle.jn_folder.specs.declared.listed.Listed.{Listed}
use Rattle.jn_folder.specs.Listing.{with_real}
use Rattle.jn_folder.specs.Walking.{BeginsWalk}
use Rattle.jn_folder.proofs.Stopping.{walk_none}
use Rattle.nullcheck_lsp_top.specs.declared.client.Home.{Home}
use Rattle.nullcheck_lsp_top.specs.declared.client.Root.{Root}
use Rattle.nullcheck_lsp_top.specs.Looking.{AreBelow, AreInFolders, AreReal, AreTracedFirst, BeginsInFolders, Finds, IsBesideBelow, Listing, beside, finds, home_at, listing}

-- ---- where folders really are

-- one more was asked
pub real_more : (homes : List Home) (home : Home) (after : List Home) (old mid : Listing) (told : List Listed) (faults : ℕ) (real : Option (List ℕ)) → AreReal homes after old mid → told ≡ with_real mid.told home.path real → faults ≡ mid.faults → AreReal (homes ++ home ∷ []) (after ++ home_at home.path real ∷ []) old (listing told faults)
real_more [] home after old mid told faults real (none, same) is kept = (
  real,
  [],
  ap (λ (hs : List Home). hs ++ home_at home.path real ∷ []) none,
  (refl, λ i. listing ((is ∙ ap (λ (l : Listing). with_real l.told home.path real) same) i) ((kept ∙ ap (λ (l : Listing). l.faults) same) i)),
)
real_more (other ∷ homes) home after old mid told faults real (found, others, all, rest) is kept = (
  found,
  others ++ home_at home.path real ∷ [],
  ap (λ (hs : List Home). hs ++ home_at home.path real ∷ []) all,
  real_more homes home others (listing (with_real old.told other.path found) old.faults) mid told faults real rest is kept,
)

-- none was asked yet
pub traced_none : (root : Option Root) (old : Listing) → AreTracedFirst root old old
traced_none None old = refl
traced_none (Some root) old = (0, [], (refl, refl))

-- ---- files of folders

beside_nothing : (found : Finds) → beside (finds [] [] []) found ≡ beside found (finds [] [] [])
beside_nothing found = λ i. finds (sym (append-nil found.names) i) (sym (append-nil found.missed) i) (sym (append-nil found.unnamed) i)

beside_both : (one two more : Finds) → beside (beside one two) more ≡ beside one (beside two more)
beside_both one two more = λ i. finds (append_assoc one.names two.names more.names i) (append_assoc one.missed two.missed more.missed i) (append_assoc one.unnamed two.unnamed more.unnamed i)

-- those of one folder more
pub below_more : (exclude : List (List ℕ)) (homes : List Home) (home : Home) (old mid new : Listing) (found more : Finds) → AreInFolders exclude homes old mid found → IsBesideBelow exclude home.path mid new found more → AreInFolders exclude (homes ++ home ∷ []) old new more
below_more exclude [] home old mid new found more (none, same) (first, below, is) = (
  new,
  first,
  finds [] [] [],
  subst (λ (l : Listing). AreBelow exclude home.path l new first) same below,
  (refl, refl),
  is ∙ ap (λ (f : Finds). beside f first) none ∙ beside_nothing first,
)
below_more exclude (other ∷ homes) home old mid new found more (here, first, others, below_other, rest, all) (last, below, is) = (
  here,
  first,
  beside others last,
  below_other,
  below_more exclude homes home here mid new others (beside others last) rest (last, below, refl),
  is ∙ ap (λ (f : Finds). beside f last) all ∙ beside_both first others last,
)

-- ---- where a search stops

pub begins_at : (exclude : List (List ℕ)) (homes left : List Home) (old mid new : Listing) (found : Finds) → AreInFolders exclude homes old mid found → BeginsInFolders exclude left mid new → BeginsInFolders exclude (homes ++ left) old new
begins_at exclude [] left old mid new found (none, same) begins = subst (λ (l : Listing). BeginsInFolders exclude left l new) same begins
begins_at exclude (home ∷ homes) left old mid new found (here, first, others, below, rest, all) begins = inr (here, first, below, begins_at exclude homes left here mid new others rest begins)

pub begins_all : (exclude : List (List ℕ)) (homes : List Home) (old new : Listing) (found : Finds) → AreInFolders exclude homes old new found → BeginsInFolders exclude homes old new
begins_all exclude homes old new found are = subst (λ (hs : List Home). BeginsInFolders exclude hs old new) (append-nil homes) (begins_at exclude homes [] old new new found are refl)

-- so many were asked, and one more in part
pub begins_part : (exclude : List (List ℕ)) (homes : List Home) (i : ℕ) (home : Home) (old mid new : Listing) (found : Finds) → i < length homes → home ≡ get_or homes i home → AreInFolders exclude (take i homes) old mid found → BeginsWalk exclude home.path mid.faults mid.told new.told → BeginsInFolders exclude homes old new
begins_part exclude homes i home old mid new found lt item are begins =
    subst (λ (hs : List Home). BeginsInFolders exclude hs old new) (sym parts) (begins_at exclude (take i homes) (home ∷ drop (i + 1) homes) old mid new found are (inl begins))
  where
    parts : homes ≡ take i homes ++ home ∷ drop (i + 1) homes
    parts = sym (take-append-drop i homes) ∙ ap (λ l. take i homes ++ l) (drop_more homes i home lt ∙ ap (λ h. h ∷ drop (i + 1) homes) (sym item))

pub begins_none : (exclude : List (List ℕ)) (homes : List Home) (old : Listing) → BeginsInFolders exclude homes old old
begins_none exclude [] old = refl
begins_none exclude (home ∷ homes) old = inl (walk_none exclude home.path old.faults old.told old.told refl)
