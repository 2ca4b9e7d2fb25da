-- Names that are merged text by text, and the trees with the numbers that they get.
use Rattle.std.proofs.Common.{◌≡◌, ℕ, zero, suc, ◌+◌, ◌*◌, ◌≤◌, List, [], ◌∷◌, ◌++◌, length, map, Option, Some, None, refl, sym, ap, ◌∙◌, subst, arith, append_assoc, append-nil}
use Rattle.std.specs.Prelude.{get_or, slice_get}
use Rattle.std.proofs.lemmas.List.{length-map}
use Rattle.jn_base.specs.declared.number.FileNo.{FileNo}
use Rattle.jn_known.specs.Known.{known_names}
use Rattle.jn_trees.specs.declared.declaration.FileTree.{FileTree}
use Rattle.jn_trees.specs.declared.token.Token.{Token}
use Rattle.jn_lexer.specs.Lexed.{Lexed}
use Rattle.jn_places.specs.Placed.{PlacedFile}
use Rattle.jn_places.specs.PlacedView.{placed_file}
use Rattle.jn_places.specs.Places.{IsPlacedFile}
use Rattle.jn_renumber.specs.Merged.{merged, merged_numbers}
use Rattle.jn_renumber.specs.Renumbered.{renumbered_file}
use Rattle.jn_renumber.specs.Tokens.{tokens_by}
use Rattle.jn_front.specs.declared.source.SourceFile.{SourceFile}
use Rattle.jn_front.specs.declared.source.SourceRead.{SourceRead}
use Rattle.jn_front.specs.declared.outcome.Outcome.TheVariants.{Tree}
use Rattle.jn_front.specs.Files.{files_of_reads}
use Rattle.jn_front.specs.Outcomes.{IsOutcome}
use Rattle.jn_front.specs.Phases.{file_no, ArePlaced, AreTreesOf, LexedFrom}
use Rattle.jn_front.proofs.Known.{merged_length}
use Rattle.jn_front.proofs.Kept.{read_fits}
use Rattle.jn_kept_trees.specs.declared.kept.KeptTree.{KeptTree}
use Rattle.jn_kept_trees.specs.declared.merging.TextNames.{TextNames}
use Rattle.jn_kept_trees.specs.KeptTrees.{AreKeptTrees, IsKeptOrNone, IsKeptTree}
use Rattle.jn_kept_trees.specs.Merges.{AreAll, AreFit, AreMerged, CanBeKept, IsFit, IsJoined, kept_with}
use Rattle.jn_kept_trees.proofs.Ways.{none_is_some, same_some}

-- ---- one text more

module _ (all : List (Option KeptTree)) where
  -- what is merged after these names completes what was merged so far
  abbrev pub Completes : (names : List (List ℕ)) (rest : List (Option KeptTree)) (trees : List PlacedFile) (texts : List TextNames) → Type 0
  Completes names rest trees texts = (more : List PlacedFile) (others : List TextNames) (last : List (List ℕ)) → AreMerged names rest more others last → AreMerged known_names all (trees ++ more) (texts ++ others) last

  pub merged_more : (kept : Option KeptTree) (rest : List (Option KeptTree)) (names now : List (List ℕ)) (trees after : List PlacedFile) (texts behind : List TextNames) → IsJoined kept names now trees after texts behind → Completes names (kept ∷ rest) trees texts → Completes now rest after behind
  merged_more None rest names now trees after texts behind (e, t, x) so more others last h =
      subst (λ ts. AreMerged known_names all (ts ++ more) (behind ++ others) last) (sym t)
      (subst (λ xs. AreMerged known_names all (trees ++ more) (xs ++ others) last) (sym x)
      (so more others last (subst (λ ns. AreMerged ns rest more others last) e h)))
  merged_more (Some kept) rest names now trees after texts behind (tree, text, e, t, x, by, has) so more others last h =
      let whole = so (tree ∷ more) (text ∷ others) last (tree, more, text, others, refl, refl, by, has, subst (λ ns. AreMerged ns rest more others last) e h) in
      subst (λ ts. AreMerged known_names all ts (behind ++ others) last) (sym (ap (λ ts. ts ++ more) t ∙ append_assoc trees (tree ∷ []) more))
      (subst (λ xs. AreMerged known_names all (trees ++ tree ∷ more) xs last) (sym (ap (λ xs. xs ++ others) x ∙ append_assoc texts (text ∷ []) others)) whole)

  pub merged_whole : (names : List (List ℕ)) (rest : List (Option KeptTree)) (trees : List PlacedFile) (texts : List TextNames) → rest ≡ [] → Completes names rest trees texts → AreMerged known_names all trees texts names
  merged_whole names rest trees texts e so =
      subst (λ ts. AreMerged known_names all ts texts names) (append-nil trees)
      (subst (λ xs. AreMerged known_names all (trees ++ []) xs names) (append-nil texts)
      (so [] [] names (subst (λ ks. AreMerged names ks [] [] names) (sym e) (refl, refl, refl))))

pub few_more : (kept : Option KeptTree) (names now : List (List ℕ)) (rest : ℕ) (trees after : List PlacedFile) (texts behind : List TextNames) → IsFit kept → IsJoined kept names now trees after texts behind → length names + (rest + 1) * 1048606 ≤ 67110814 → length now + rest * 1048606 ≤ 67110814
few_more None names now rest trees after texts behind fit joined short = let same = ap length joined.0 in omega (arith, same, short)
few_more (Some kept) names now rest trees after texts behind fit joined short =
    let same = ap length joined.2 in
    let long = merged_length names kept.own in
    let few = fit.0 in
    omega (arith, same, long, few, short)

-- ---- files that all have trees

module _ (few : (file : FileNo) (text : List ℕ) (old : List (List ℕ)) (tokens : List Token) (new : List (List ℕ)) → Lexed file text old tokens new → length new ≤ length old + length text) where
  one_fits : (k : ℕ) (file : SourceFile) (kept : Option KeptTree) → length file.bytes ≤ 1048576 → IsKeptOrNone k file kept → IsFit kept
  one_fits k file None fit is = tt
  one_fits k file (Some kept) fit is =
      let short : length kept.own ≤ 30 + length file.bytes = few (file_no k) file.bytes known_names is.is.0 kept.own is.is.1 in
      (omega (arith, short, fit), is.numbers)

  all_fit : (k : ℕ) (reads : List SourceRead) (kept : List (Option KeptTree)) → length kept ≡ length reads → ((n : ℕ) (file : SourceFile) → slice_get (files_of_reads reads) n ≡ Some file → IsKeptOrNone (k + n) file (get_or kept n None)) → AreFit kept
  all_fit k [] [] long each = tt
  all_fit k [] (one ∷ kept) long each = absurd (omega (arith, long))
  all_fit k (read ∷ reads) [] long each = tt
  all_fit k (read ∷ reads) (one ∷ kept) long each = (
    one_fits (k + 0) read.file one (read_fits read) (each 0 read.file refl),
    all_fit (k + 1) reads kept (omega (arith, long)) (λ n file e. (let next : k + suc n ≡ k + 1 + n = omega arith in subst (λ m. IsKeptOrNone m file (get_or kept n None)) next (each (suc n) file e))),
  )

  pub kept_fit : (reads : List SourceRead) (kept : List (Option KeptTree)) → length kept ≡ length reads → AreKeptTrees (files_of_reads reads) kept → AreFit kept
  kept_fit reads kept long are = all_fit 0 reads kept long (λ n file e. (let here : n ≡ 0 + n = omega arith in subst (λ m. IsKeptOrNone m file (get_or kept n None)) here (are n file e)))

-- `Kept` holds of names that have the known ones
module _ (Kept : List (List ℕ) → Type 0) (still : (all own : List (List ℕ)) → Kept all → Kept (merged all own)) (parsed : (file : FileNo) (text : List ℕ) (all own : List (List ℕ)) (tokens : List Token) (tree : PlacedFile) → Kept all → Lexed file text known_names tokens own → IsPlacedFile tokens tree → Lexed file text all (tokens_by (merged_numbers all own) tokens) (merged all own) × IsPlacedFile (tokens_by (merged_numbers all own) tokens) (renumbered_file (merged_numbers all own) tree)) where
  trees_are : (k : ℕ) (files : List SourceFile) (kept : List (Option KeptTree)) (names : List (List ℕ)) (trees : List PlacedFile) (texts : List TextNames) (last : List (List ℕ)) → Kept names → length kept ≡ length files → ((n : ℕ) (file : SourceFile) → slice_get files n ≡ Some file → IsKeptOrNone (k + n) file (get_or kept n None)) → AreAll kept → AreMerged names kept trees texts last → (tokens : List (List Token)) × LexedFrom k names files tokens last × ArePlaced tokens trees
  trees_are k [] [] names trees texts last has long each all m = ([], m.2, subst (ArePlaced []) (sym m.0) tt)
  trees_are k [] (one ∷ kept) names trees texts last has long each all m = absurd (omega (arith, long))
  trees_are k (file ∷ files) [] names trees texts last has long each all m = absurd (omega (arith, long))
  trees_are k (file ∷ files) (None ∷ kept) names trees texts last has long each all m = absurd all
  trees_are k (file ∷ files) (Some one ∷ kept) names trees texts last has long each all (tree, more, text, others, t, x, by, numbers, m) =
      let here : k + 0 ≡ k = omega arith in
      let is : IsKeptTree k file one = subst (λ n. IsKeptTree n file one) here (each 0 file refl) in
      let both = parsed (file_no k) file.bytes names one.own is.is.0 (placed_file is.own_tree) has is.is.1 is.is.2 in
      let tokens = tokens_by (merged_numbers names one.own) is.is.0 in
      let rest = trees_are (k + 1) files kept (merged names one.own) more others last (still names one.own has) (omega (arith, long)) (λ n f e. (let next : k + suc n ≡ k + 1 + n = omega arith in subst (λ m. IsKeptOrNone m f (get_or kept n None)) next (each (suc n) f e))) all m in
      (tokens ∷ rest.0, (merged names one.own, both.0, rest.1), subst (ArePlaced (tokens ∷ rest.0)) (sym t) (subst (IsPlacedFile tokens) (sym (by k file is)) both.1, rest.2))

  pub are_trees_of : (files : List SourceFile) (kept : List (Option KeptTree)) (trees : List PlacedFile) (texts : List TextNames) (last : List (List ℕ)) → Kept known_names → length kept ≡ length files → AreKeptTrees files kept → AreAll kept → AreMerged known_names kept trees texts last → AreTreesOf files last trees
  are_trees_of files kept trees texts last has long each all m =
      trees_are 0 files kept known_names trees texts last has long (λ n file e. (let here : n ≡ 0 + n = omega arith in subst (λ m. IsKeptOrNone m file (get_or kept n None)) here (each n file e))) all m

-- ---- what is kept then

head_of : {A : Type 0} (x y : A) (xs ys : List A) → x ∷ xs ≡ y ∷ ys → x ≡ y
head_of x y xs ys e = cc

tail_of : {A : Type 0} (x y : A) (xs ys : List A) → x ∷ xs ≡ y ∷ ys → xs ≡ ys
tail_of x y xs ys e = cc

can_keep : (k : ℕ) (files : List SourceFile) (kept : List (Option KeptTree)) (names : List (List ℕ)) (trees : List PlacedFile) (texts : List TextNames) (last : List (List ℕ)) (done : List FileTree) → length kept ≡ length files → ((n : ℕ) (file : SourceFile) → slice_get files n ≡ Some file → IsKeptOrNone (k + n) file (get_or kept n None)) → AreAll kept → AreMerged names kept trees texts last → map placed_file done ≡ trees → (n : ℕ) (file : SourceFile) (text : TextNames) (tree : FileTree) → slice_get files n ≡ Some file → slice_get texts n ≡ Some text → slice_get done n ≡ Some tree → IsKeptTree (k + n) file (kept_with text tree)
can_keep k [] kept names trees texts last done long each all m are n file text tree f x d = absurd (none_is_some file f)
can_keep k (first ∷ files) [] names trees texts last done long each all m are n file text tree f x d = absurd (omega (arith, long))
can_keep k (first ∷ files) (None ∷ kept) names trees texts last done long each all m are n file text tree f x d = absurd all
can_keep k (first ∷ files) (Some one ∷ kept) names trees texts last [] long each all m are n file text tree f x d = absurd (none_is_some tree d)
can_keep k (first ∷ files) (Some one ∷ kept) names trees texts last (root ∷ done) long each all (placed, more, own, others, t, e, by, numbers, m) are zero file text tree f x d =
    let is : IsKeptTree (k + 0) file one = subst (λ (s : SourceFile). IsKeptTree (k + 0) s one) (same_some first file f) (each 0 first refl) in
    let same : text ≡ own = same_some text own (sym x ∙ ap (λ xs. slice_get xs 0) e) in
    let names_same : text.own ≡ one.own = ap (λ (s : TextNames). s.own) same ∙ numbers.0 in
    let numbers_same : text.numbers.items ≡ merged_numbers names one.own = ap (λ (s : TextNames). s.numbers.items) same ∙ numbers.1 in
    let root_placed : placed_file root ≡ placed = head_of (placed_file root) placed (map placed_file done) more (are ∙ t) in
    record {
      own_tree = is.own_tree;
      is = subst (λ ns. IsOutcome (k + 0) file (Tree ns is.own_tree)) (sym names_same) is.is;
      numbers = (names, numbers_same ∙ ap (merged_numbers names) (sym names_same));
      numbered = ap placed_file (sym (same_some root tree d)) ∙ root_placed ∙ by (k + 0) file is ∙ ap (λ ns. renumbered_file ns (placed_file is.own_tree)) (sym numbers_same);
    }
can_keep k (first ∷ files) (Some one ∷ kept) names trees texts last (root ∷ done) long each all (placed, more, own, others, t, e, by, numbers, m) are (suc n) file text tree f x d =
    let next : k + suc n ≡ k + 1 + n = omega arith in
    let rest = can_keep (k + 1) files kept (merged names one.own) more others last done (omega (arith, long)) (λ i g h. (let after : k + suc i ≡ k + 1 + i = omega arith in subst (λ j. IsKeptOrNone j g (get_or kept i None)) after (each (suc i) g h))) all m (tail_of (placed_file root) placed (map placed_file done) more (are ∙ t)) n file text tree f (sym (ap (λ xs. slice_get xs (suc n)) e) ∙ x) d in
    subst (λ j. IsKeptTree j file (kept_with text tree)) (sym next) rest

-- there are as many trees and texts as all that is kept
as_many : (names : List (List ℕ)) (kept : List (Option KeptTree)) (trees : List PlacedFile) (texts : List TextNames) (last : List (List ℕ)) → AreAll kept → AreMerged names kept trees texts last → (length trees ≡ length kept) × (length texts ≡ length kept)
as_many names [] trees texts last all (t, x, e) = (ap length t, ap length x)
as_many names (None ∷ kept) trees texts last all m = absurd all
as_many names (Some one ∷ kept) trees texts last all (tree, more, text, others, t, x, by, numbers, m) =
    let rest = as_many (merged names one.own) kept more others last all m in (
      ap length t ∙ ap suc rest.0,
      ap length x ∙ ap suc rest.1,
    )

pub can_be_kept : (files : List SourceFile) (kept : List (Option KeptTree)) (trees : List PlacedFile) (texts : List TextNames) (last : List (List ℕ)) (done : List FileTree) → length kept ≡ length files → AreKeptTrees files kept → AreAll kept → AreMerged known_names kept trees texts last → map placed_file done ≡ trees → CanBeKept files texts done
can_be_kept files kept trees texts last done long each all m are =
    let start : (i : ℕ) (g : SourceFile) → slice_get files i ≡ Some g → IsKeptOrNone (0 + i) g (get_or kept i None) = λ i g h. (let here : i ≡ 0 + i = omega arith in subst (λ j. IsKeptOrNone j g (get_or kept i None)) here (each i g h)) in
    let many = as_many known_names kept trees texts last all m in
    record {
      many_texts = many.1 ∙ long;
      many_trees = sym (length-map done placed_file) ∙ ap length are ∙ many.0 ∙ long;
      each = λ n file text tree f x d. (let back : 0 + n ≡ n = omega arith in subst (λ j. IsKeptTree j file (kept_with text tree)) back (can_keep 0 files kept known_names trees texts last done long start all m are n file text tree f x d));
    }
