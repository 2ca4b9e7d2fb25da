use Rattle.std.proofs.Common.{◌≡◌, ◌++◌, drop}
use Rattle.std.specs.Prelude.{map}
use Rattle.jn_trees.specs.View.{file_view}
use Rattle.jn_annotate.specs.Shared as spec
use Rattle.jn_annotate.proofs.shared.put_files.Given as goal

abbrev pub invariant-loop-tree : goal.invariant-loop-tree
invariant-loop-tree l = l.slots.items ++ spec.shared_slots l.program l.sig (map file_view (drop l.tree-index l.trees)) l.fields ≡ l.fn.slots.items ++ spec.shared_slots l.program l.sig (map file_view l.trees) l.fn.fields
