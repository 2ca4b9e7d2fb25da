-- Trees whose names keep their numbers are those that were kept.
use Rattle.std.proofs.Common.{◌≡◌, ℕ, zero, suc, ◌<◌, ◌≤◌, ◌⊎◌, inl, inr, Bool, true, false, List, [], ◌∷◌, length, map, Option, Some, None, Result, Ok, refl, sym, ap, ◌∙◌, subst, arith}
use Rattle.std.specs.Prelude.{get_or, is_none, slice_get, IfOk, Vec}
use Rattle.std.specs.declared.alloc.Global.{Global}
use Rattle.std.proofs.lemmas.Bool.{false≢true}
use Rattle.std.proofs.lemmas.List.{get_or_past}
use Rattle.std.proofs.lemmas.Option.{slice_get_cases}
use Rattle.jn_base.specs.declared.number.NameNo.{NameNo}
use Rattle.jn_trees.specs.declared.declaration.FileTree.{FileTree}
use Rattle.jn_places.specs.Placed.{PlacedFile}
use Rattle.jn_places.specs.PlacedView.{placed_file}
use Rattle.jn_front.specs.declared.renumbering.Numbered.{Numbered}
use Rattle.jn_front.specs.Numbered.{numbered_by, numbered_tree}
use Rattle.jn_kept_trees.specs.declared.again.ParsedAgain.{ParsedAgain}
use Rattle.jn_kept_trees.specs.declared.kept.KeptTree.{KeptTree}
use Rattle.jn_kept_trees.specs.declared.typing.TypedAgain.{TypedAgain}
use Rattle.jn_kept_trees.specs.Fresh.{has_tree}
use Rattle.jn_kept_trees.specs.Merges.{AreAll}
use Rattle.jn_kept_points.specs.Typings.{SameTrees}
use Rattle.jn_kept_trees.specs.Staying.{AreAmong, HaveTrees, StayPlaced, raw_tree, raw_trees, stays_as_it_was}
use Rattle.jn_kept_trees.proofs.Ways.{none_is_some, same_some}

-- after the last file there is no tree
pub tree_within : (kept : List (Option KeptTree)) (n : ℕ) → has_tree (get_or kept n None) ≡ true → n < length kept
tree_within [] n has = absurd (false≢true has)
tree_within (one ∷ kept) zero has = omega arith
tree_within (one ∷ kept) (suc n) has = let lt = tree_within kept n has in omega (arith, lt)

pub mapped_at : {A B : Type 0} (f : A → B) (xs : List A) (n : ℕ) (x : A) → slice_get xs n ≡ Some x → slice_get (map f xs) n ≡ Some (f x)
mapped_at f [] n x e = absurd (none_is_some x e)
mapped_at f (y ∷ xs) zero x e = ap (λ z. Some (f z)) (same_some y x e)
mapped_at f (y ∷ xs) (suc n) x e = mapped_at f xs n x e

-- where all files have trees, each has its own
raw_at : (kept : List (Option KeptTree)) (n : ℕ) (tree : PlacedFile) → AreAll kept → slice_get (raw_trees kept) n ≡ Some tree → (old : KeptTree) × (get_or kept n None ≡ Some old) × (tree ≡ placed_file old.tree)
raw_at [] n tree all e = absurd (none_is_some tree e)
raw_at (None ∷ kept) n tree all e = absurd all
raw_at (Some old ∷ kept) zero tree all e = (old, refl, sym (same_some (placed_file old.tree) tree e))
raw_at (Some old ∷ kept) (suc n) tree all e = raw_at kept n tree all e

unnumbered : (numbers : Option (Vec NameNo Global)) (tree : PlacedFile) → is_none numbers ≡ true → numbered_by numbers tree ≡ tree
unnumbered None tree e = refl
unnumbered (Some numbers) tree e = absurd (false≢true e)

staying : (kept : Bool) (tree : Option Numbered) → stays_as_it_was kept tree ≡ true → (kept ≡ true) × (one : Numbered) × (tree ≡ Some one) × (numbered_tree one ≡ placed_file one.tree)
staying kept None e = absurd (false≢true e)
staying false (Some one) e = absurd (false≢true e)
staying true (Some one) e = (refl, one, refl, unnumbered one.numbers (placed_file one.tree) e)

-- of each place it is told whether its tree stays
abbrev pub AreTold : (flags same : List Bool) (made : List Numbered) → Type 0
AreTold flags same made = (n : ℕ) → get_or same n false ≡ stays_as_it_was (get_or flags n false) (slice_get made n)

-- after the last tree nothing is told
pub all_told : (flags same : List Bool) (made : List Numbered) → length same ≡ length made → ((n : ℕ) → n < length made → get_or same n false ≡ stays_as_it_was (get_or flags n false) (slice_get made n)) → AreTold flags same made
all_told flags same made long below n = go (slice_get_cases made n).1
  where
    go : ((x : Numbered) × (n < length made) × (slice_get made n ≡ Some x) × (get_or made n x ≡ x)) ⊎ ((length made ≤ n) × (slice_get made n ≡ None)) → get_or same n false ≡ stays_as_it_was (get_or flags n false) (slice_get made n)
    go (inl within) = below n within.1
    go (inr (le, none)) = get_or_past same n false (omega (arith, le, long)) ∙ sym (ap (stays_as_it_was (get_or flags n false)) none)

module _ (flags same : List Bool) (made : List Numbered) (each : AreTold flags same made) where
  pub are_among : AreAmong same flags
  are_among n e = (staying (get_or flags n false) (slice_get made n) (sym (each n) ∙ e)).0

  pub stay_placed : (kept : List (Option KeptTree)) (trees : List PlacedFile) → AreAll kept → map raw_tree made ≡ raw_trees kept → trees ≡ map numbered_tree made → StayPlaced kept same trees
  stay_placed kept trees all raw are n e =
      let stays = staying (get_or flags n false) (slice_get made n) (sym (each n) ∙ e) in
      let one = stays.1 in
      let old = raw_at kept n (placed_file one.tree) all (ap (λ ts. slice_get ts n) (sym raw) ∙ mapped_at raw_tree made n one stays.2) in
      (old.0, old.1, ap (λ ts. slice_get ts n) are ∙ mapped_at numbered_tree made n one stays.2 ∙ ap Some (stays.3 ∙ old.2))

-- where what is kept of files is their tree, those that are told have the tree that they had
pub same_trees : (kept : List (Option KeptTree)) (same : List Bool) (before trees : List PlacedFile) → HaveTrees kept before → StayPlaced kept same trees → SameTrees before same trees
same_trees kept same before trees have stay = λ n told. (let old = stay n told in (placed_file old.0.tree, have n old.0 old.1, old.2))

-- so it is where names and trees are found
pub same_parsed : (kept : List (Option KeptTree)) (before : List PlacedFile) (all : Result ParsedAgain TypedAgain) (parsed : ParsedAgain) (trees : List FileTree) (same : List Bool) → all ≡ Ok parsed → trees ≡ parsed.trees.items → same ≡ parsed.same.items → HaveTrees kept before → IfOk all (λ parsed. StayPlaced kept parsed.same.items (map placed_file parsed.trees.items)) → SameTrees before same (map placed_file trees)
same_parsed kept before all parsed trees same is t s have stay =
    subst (λ ts. SameTrees before same (map placed_file ts)) (sym t) (subst (λ told. SameTrees before told (map placed_file parsed.trees.items)) (sym s)
    (same_trees kept parsed.same.items before (map placed_file parsed.trees.items) have (subst (λ (r : Result ParsedAgain TypedAgain). IfOk r (λ p. StayPlaced kept p.same.items (map placed_file p.trees.items))) is stay)))
