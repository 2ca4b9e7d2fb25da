-- The first tree and its names stay as they are where they are merged into the known names.
use Rattle.std.proofs.Common.{◌≡◌, ℕ, ◌+◌, List, [], ◌∷◌, ◌++◌, map, refl, sym, ap, ◌∙◌, subst}
use Rattle.jn_base.specs.declared.number.FileNo.{FileNo}
use Rattle.jn_trees.specs.declared.token.Token.{Token}
use Rattle.jn_trees.specs.declared.declaration.FileTree.{FileTree}
use Rattle.jn_places.specs.Placed.{PlacedFile}
use Rattle.jn_places.specs.PlacedView.{placed_file}
use Rattle.jn_places.specs.Places.{IsPlacedFile}
use Rattle.jn_lexer.specs.Lexed.{Lexed}
use Rattle.jn_known.specs.Known.{known_names}
use Rattle.jn_renumber.specs.Merged.{merged, merged_numbers}
use Rattle.jn_renumber.specs.Renumbered.{renumbered_file}
use Rattle.jn_renumber.specs.Tokens.{tokens_by}
use Rattle.jn_front.specs.declared.source.SourceFile.{SourceFile}
use Rattle.jn_front.specs.declared.outcome.Outcome.{Outcome}
use Rattle.jn_front.specs.declared.outcome.Outcome.TheVariants.{Lexical, Syntax, Tree}
use Rattle.jn_front.specs.declared.renumbering.Numbered.{Numbered}
use Rattle.jn_front.specs.Numbered.{numbered_tree}
use Rattle.jn_front.specs.Phases.{file_no}
use Rattle.jn_front.specs.Outcomes.{IsOutcome, AreOutcomes, joined_names, joined_trees}

-- the text is lexed from the known names in one way, so by its own names as by merging them; and those tokens have one tree
module _ (only : (file : FileNo) (text : List ℕ) (known all own new : List (List ℕ)) (tokens others : List Token) → merged all known ≡ all → Lexed file text known tokens own → Lexed file text all others new → (others ≡ tokens_by (merged_numbers all own) tokens) × (new ≡ merged all own)) (parsed : (file : FileNo) (text : List ℕ) (known all own : List (List ℕ)) (tokens : List Token) (tree : PlacedFile) → merged all known ≡ all → Lexed file text known tokens own → IsPlacedFile tokens tree → Lexed file text all (tokens_by (merged_numbers all own) tokens) (merged all own) × IsPlacedFile (tokens_by (merged_numbers all own) tokens) (renumbered_file (merged_numbers all own) tree)) (one : (tokens : List Token) (tree other : PlacedFile) → IsPlacedFile tokens tree → IsPlacedFile tokens other → tree ≡ other) where
  pub first_stays : merged known_names known_names ≡ known_names → (k : ℕ) (file : SourceFile) (own : List (List ℕ)) (tree : FileTree) → IsOutcome k file (Tree own tree) → (own ≡ merged known_names own) × (placed_file tree ≡ renumbered_file (merged_numbers known_names own) (placed_file tree))
  first_stays begun k file own tree h =
      let tokens = h.0 in
      let renumbered = renumbered_file (merged_numbers known_names own) (placed_file tree) in
      let same = only (file_no k) file.bytes known_names known_names own own tokens tokens begun h.1 h.1 in
      let then = parsed (file_no k) file.bytes known_names known_names own tokens (placed_file tree) begun h.1 h.2 in
      (same.1, one tokens (placed_file tree) renumbered h.2 (subst (λ ts. IsPlacedFile ts renumbered) (sym same.0) then.1))

-- ---- one more

pub first_found : (k : ℕ) (files : List SourceFile) (outcome : Outcome) (rest : List Outcome) → AreOutcomes k files (outcome ∷ rest) → ((file : SourceFile) × IsOutcome k file outcome) × ((others : List SourceFile) × AreOutcomes (k + 1) others rest)
first_found k [] outcome rest h = absurd h
first_found k (file ∷ files) outcome rest h = ((file, h.0), (files, h.1))

not_put : (trees : List PlacedFile) (tree : PlacedFile) → [] ≡ trees ++ tree ∷ [] → ⊥
not_put [] tree e = cc
not_put (other ∷ trees) tree e = cc

some_tree : (tree : PlacedFile) (trees : List PlacedFile) → [] ≡ tree ∷ trees → ⊥
some_tree tree trees e = cc

-- while there is no tree, the names are the known ones
pub begun_step : (names now : List (List ℕ)) (outcome : Outcome) (trees more : List Numbered) → (trees ≡ [] → names ≡ known_names) → now ≡ joined_names names (outcome ∷ []) → map numbered_tree more ≡ map numbered_tree trees ++ joined_trees names (outcome ∷ []) → more ≡ [] → now ≡ known_names
begun_step names now (Lexical row) [] more begun new put none = new ∙ begun refl
begun_step names now (Syntax row) [] more begun new put none = new ∙ begun refl
begun_step names now (Lexical row) (tree ∷ trees) more begun new put none = absurd (some_tree (numbered_tree tree) (map numbered_tree trees ++ []) (ap (map numbered_tree) (sym none) ∙ put))
begun_step names now (Syntax row) (tree ∷ trees) more begun new put none = absurd (some_tree (numbered_tree tree) (map numbered_tree trees ++ []) (ap (map numbered_tree) (sym none) ∙ put))
begun_step names now (Tree own tree) trees more begun new put none = absurd (not_put (map numbered_tree trees) (renumbered_file (merged_numbers names own) (placed_file tree)) (ap (map numbered_tree) (sym none) ∙ put))
