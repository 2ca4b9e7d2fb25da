-- Trees that are kept file by file.
use Rattle.std.proofs.Common.{◌≡◌, ℕ, suc, ◌+◌, ◌<◌, ◌≤◌, ⊎_elim, List, [], ◌∷◌, ◌++◌, length, map, Option, Some, None, refl, sym, ap, ◌∙◌, subst, arith}
use Rattle.std.specs.Prelude.{get_or, slice_get}
use Rattle.std.proofs.lemmas.Bool.{cases_lt}
use Rattle.std.proofs.lemmas.List.{get_or_past}
use Rattle.jn_trees.specs.declared.declaration.FileTree.{FileTree}
use Rattle.jn_places.specs.PlacedView.{placed_file}
use Rattle.jn_front.specs.declared.source.SourceFile.{SourceFile}
use Rattle.jn_kept_trees.specs.declared.kept.KeptTree.{KeptTree}
use Rattle.jn_kept_trees.specs.declared.merging.TextNames.{TextNames}
use Rattle.jn_kept_trees.specs.KeptTrees.{AreAllKept, IsKeptOrRefused, IsKeptTree}
use Rattle.jn_kept_trees.specs.Merges.{CanBeKept, kept_with}
use Rattle.jn_kept_trees.specs.Staying.{HaveTrees}
use Rattle.jn_kept_trees.proofs.ReadFiles.{more_long, one_more}
use Rattle.jn_kept_trees.proofs.Stays.{mapped_at}
use Rattle.jn_kept_trees.proofs.Ways.{below_length, none_is_some, same_some}

-- so many are kept, and these are left
pub record Goes (files : List SourceFile) (kept : List (Option KeptTree)) (texts : List TextNames) (trees : List FileTree) : Type 0 where
  pub many_texts : length kept + length texts ≡ length files
  pub many_trees : length kept + length trees ≡ length files
  pub so_far : (n : ℕ) → n < length kept → (file : SourceFile) → slice_get files n ≡ Some file → IsKeptOrRefused n file (get_or kept n None)
  pub left : (n : ℕ) (file : SourceFile) (text : TextNames) (tree : FileTree) → slice_get files (length kept + n) ≡ Some file → slice_get texts n ≡ Some text → slice_get trees n ≡ Some tree → IsKeptTree (length kept + n) file (kept_with text tree)

begun : (files : List SourceFile) (texts : List TextNames) (trees : List FileTree) → CanBeKept files texts trees → Goes files [] texts trees
begun files texts trees can =
    record {
      many_texts = ap (λ n. 0 + n) can.many_texts ∙ omega arith;
      many_trees = ap (λ n. 0 + n) can.many_trees ∙ omega arith;
      so_far = λ n lt file f. absurd (omega (arith, lt));
      left = λ n file text tree f x t. (let none : 0 + n ≡ n = omega arith in subst (λ k. IsKeptTree k file (kept_with text tree)) (sym none) (can.each n file text tree (subst (λ k. slice_get files k ≡ Some file) none f) x t));
    }

pub goes_from : (files : List SourceFile) (kept : List (Option KeptTree)) (texts some : List TextNames) (trees others : List FileTree) → kept ≡ [] → some ≡ texts → others ≡ trees → CanBeKept files texts trees → Goes files kept some others
goes_from files kept texts some trees others k x t can =
    subst (λ ks. Goes files ks some others) (sym k) (subst (λ xs. Goes files [] xs others) (sym x) (subst (Goes files [] texts) (sym t) (begun files texts trees can)))

pub goes_on : (files : List SourceFile) (kept after : List (Option KeptTree)) (text : TextNames) (tree : FileTree) (texts rest : List TextNames) (trees others : List FileTree) → texts ≡ text ∷ rest → trees ≡ tree ∷ others → after ≡ kept ++ Some (kept_with text tree) ∷ [] → Goes files kept texts trees → Goes files after rest others
goes_on files kept after text tree texts rest trees others x t put goes =
    let one = Some (kept_with text tree) in
    let long = more_long kept after one (length kept) refl put in
    let a = ap length x in
    let b = ap length t in
    let many = goes.many_texts in
    let others_many = goes.many_trees in
    let here : length kept + 0 ≡ length kept = omega arith in
    record {
      many_texts = omega (arith, long, a, many);
      many_trees = omega (arith, long, b, others_many);
      so_far = λ n lt. one_more None (λ n (o : Option KeptTree). (file : SourceFile) → slice_get files n ≡ Some file → IsKeptOrRefused n file o) kept after one (length kept) refl put goes.so_far
          (λ file f. subst (λ n. IsKeptTree n file (kept_with text tree)) here (goes.left 0 file text tree (subst (λ n. slice_get files n ≡ Some file) (sym here) f) (ap (λ xs. slice_get xs 0) x) (ap (λ ts. slice_get ts 0) t)))
          n (subst (λ m. n < m) long lt);
      left = λ n file other root f y u. (let next : length after + n ≡ length kept + suc n = omega (arith, long) in subst (λ m. IsKeptTree m file (kept_with other root)) (sym next) (goes.left (suc n) file other root (subst (λ m. slice_get files m ≡ Some file) next f) (ap (λ xs. slice_get xs (suc n)) x ∙ y) (ap (λ ts. slice_get ts (suc n)) t ∙ u)));
    }

pub all_done : (files : List SourceFile) (kept : List (Option KeptTree)) (texts : List TextNames) (trees : List FileTree) → length files ≤ length kept → Goes files kept texts trees → AreAllKept files kept
all_done files kept texts trees all goes = λ n file f. (let lt = below_length files n file f in goes.so_far n (omega (arith, lt, all)) file f)

-- ---- their trees

-- what is kept of the n-th file is the n-th tree
abbrev pub HasTree : List FileTree → ℕ → Option KeptTree → Type 0
HasTree all n kept = (one : KeptTree) → kept ≡ Some one → slice_get (map placed_file all) n ≡ Some (placed_file one.tree)

-- of all trees so many are kept, and these are left
pub record Holds (all : List FileTree) (kept : List (Option KeptTree)) (trees : List FileTree) : Type 0 where
  pub held : (n : ℕ) → n < length kept → HasTree all n (get_or kept n None)
  pub others : (n : ℕ) → slice_get all (length kept + n) ≡ slice_get trees n

pub holds_from : (all : List FileTree) (kept : List (Option KeptTree)) (trees : List FileTree) → kept ≡ [] → trees ≡ all → Holds all kept trees
holds_from all kept trees k t =
    let long = ap length k in
    record {
      held = λ n lt. absurd (omega (arith, lt, long));
      others = λ n. (let here : length kept + n ≡ n = omega (arith, long) in ap (slice_get all) here ∙ ap (λ ts. slice_get ts n) (sym t));
    }

pub holds_on : (all : List FileTree) (kept after : List (Option KeptTree)) (text : TextNames) (tree : FileTree) (trees others : List FileTree) → trees ≡ tree ∷ others → after ≡ kept ++ Some (kept_with text tree) ∷ [] → Holds all kept trees → Holds all after others
holds_on all kept after text tree trees others t put holds =
    let one = Some (kept_with text tree) in
    let long = more_long kept after one (length kept) refl put in
    let here : length kept + 0 ≡ length kept = omega arith in
    let this : slice_get all (length kept) ≡ Some tree = ap (slice_get all) (sym here) ∙ holds.others 0 ∙ ap (λ ts. slice_get ts 0) t in
    record {
      held = λ n lt. one_more None (HasTree all) kept after one (length kept) refl put holds.held
          (λ other e. mapped_at placed_file all (length kept) tree this ∙ ap (λ (k : KeptTree). Some (placed_file k.tree)) (same_some (kept_with text tree) other e))
          n (subst (λ m. n < m) long lt);
      others = λ n. (let next : length after + n ≡ length kept + suc n = omega (arith, long) in ap (slice_get all) next ∙ holds.others (suc n) ∙ ap (λ ts. slice_get ts (suc n)) t);
    }

pub all_held : (all : List FileTree) (kept : List (Option KeptTree)) (trees : List FileTree) → Holds all kept trees → HaveTrees kept (map placed_file all)
all_held all kept trees holds n one e = ⊎_elim (λ (lt : n < length kept). holds.held n lt one e) (λ (le : length kept ≤ n). absurd (none_is_some one (sym (get_or_past kept n None le) ∙ e))) (cases_lt n (length kept))
