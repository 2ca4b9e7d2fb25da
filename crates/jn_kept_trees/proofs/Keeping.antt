-- What is kept of files, and that nothing may be.
use Rattle.std.proofs.Common.{◌≡◌, ℕ, List, [], Option, Some, None, subst}
use Rattle.std.specs.Prelude.{get_or}
use Rattle.jn_known.specs.Known.{known_names}
use Rattle.jn_lexer.specs.Lexed.{Lexed}
use Rattle.jn_front.specs.declared.source.SourceFile.{SourceFile}
use Rattle.jn_front.specs.Phases.{file_no}
use Rattle.jn_kept_trees.specs.declared.kept.KeptTree.{KeptTree}
use Rattle.jn_kept_trees.specs.KeptTrees.{AreAllKept, AreKeptTrees, IsKeptOrNone, IsKeptOrRefused}

-- of any files nothing may be kept, as where memory was lacking
pub nothing_kept : (files : List SourceFile) → AreKeptTrees files []
nothing_kept files = λ n file e. tt

-- nor is anything where there are no files yet
pub nothing_begun : AreKeptTrees [] []
nothing_begun = nothing_kept []

-- what is kept of a file is that of its text
pub same_text : (k : ℕ) (old file : SourceFile) (one : Option KeptTree) → old.bytes ≡ file.bytes → IsKeptOrNone k old one → IsKeptOrNone k file one
same_text k old file None e h = tt
same_text k old file (Some kept) e h = record {
  own_tree = h.own_tree;
  is = (h.is.0, subst (λ text. Lexed (file_no k) text known_names h.is.0 kept.own) e h.is.1, h.is.2);
  numbers = h.numbers;
  numbered = h.numbered;
}

is_kept : (k : ℕ) (file : SourceFile) (one : Option KeptTree) → IsKeptOrRefused k file one → IsKeptOrNone k file one
is_kept k file None h = tt
is_kept k file (Some kept) h = h

-- all trees that there are, are such as may be kept
pub are_kept : (files : List SourceFile) (trees : List (Option KeptTree)) → AreAllKept files trees → AreKeptTrees files trees
are_kept files trees all = λ n file e. is_kept n file (get_or trees n None) (all n file e)
