use Rattle.std.proofs.Common.{◌≡◌, ◌≤◌, ◌+◌, ◌*◌, ◌++◌, length, map}
use Rattle.jn_front.specs.Numbered.{numbered_tree}
use Rattle.jn_kept_trees.specs.Merges.{AreFit}
use Rattle.jn_kept_trees.specs.Staying.{raw_tree, raw_trees}
use Rattle.jn_kept_trees.proofs.Joins.{Completes}
use Rattle.jn_kept_trees.proofs.merging.merge_all.Given as goal

abbrev pub invariant-loop-one : goal.invariant-loop-one
invariant-loop-one l = record {
  next : goal.iterator-loop-one.can_next l.one-iterator;
  finite : goal.iterator-loop-one.is_finite l.one-iterator;
  so_far : Completes l.fn.kept.items l.names l.one-iterator.rest.items (map numbered_tree l.trees.items) l.texts.items;
  raw : map raw_tree l.trees.items ++ raw_trees l.one-iterator.rest.items ≡ raw_trees l.fn.kept.items;
  fit : AreFit l.one-iterator.rest.items;
  short : length l.names + length l.one-iterator.rest.items * 1048606 ≤ 67110814;
}
