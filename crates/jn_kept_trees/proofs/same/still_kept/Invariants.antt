use Rattle.std.proofs.Common.{◌≡◌, ◌≤◌, ◌<◌, ℕ, Some, None, length}
use Rattle.std.specs.Prelude.{get_or, slice_get}
use Rattle.jn_front.specs.declared.source.SourceFile.{SourceFile}
use Rattle.jn_front.specs.Files.{files_of_reads}
use Rattle.jn_kept_trees.specs.declared.kept.KeptTree.{KeptTree}
use Rattle.jn_kept_trees.specs.KeptTrees.{IsKeptOrNone}
use Rattle.jn_kept_trees.proofs.same.still_kept.Given as goal

abbrev pub invariant-loop-at : goal.invariant-loop-at
invariant-loop-at l = record {
  long : length l.kept.items ≡ l.at;
  left : (n : ℕ) → l.at ≤ n → get_or l.trees.items n None ≡ get_or l.fn.trees.items n None;
  kept : (n : ℕ) → n < l.at → (file : SourceFile) → slice_get (files_of_reads l.reads) n ≡ Some file → IsKeptOrNone n file (get_or l.kept.items n None);
  stay : (n : ℕ) → n < l.at → (old file : SourceFile) → slice_get l.last n ≡ Some old → slice_get (files_of_reads l.reads) n ≡ Some file → old.bytes ≡ file.bytes → get_or l.kept.items n None ≡ get_or l.fn.trees.items n None;
  before : (n : ℕ) → n < l.at → (one : KeptTree) → get_or l.kept.items n None ≡ Some one → get_or l.fn.trees.items n None ≡ Some one;
}
