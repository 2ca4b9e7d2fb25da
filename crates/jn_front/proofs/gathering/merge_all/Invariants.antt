use Rattle.std.proofs.Common.{◌≡◌, ◌≤◌, ◌+◌, ◌*◌, ◌++◌, [], ℕ, List, length, map}
use Rattle.jn_known.specs.Known.{known_names}
use Rattle.jn_front.specs.Numbered.{numbered_tree}
use Rattle.jn_front.specs.declared.source.SourceFile.{SourceFile}
use Rattle.jn_front.specs.Outcomes.{AreOutcomes, joined_names, joined_trees, HaveFewNames}
use Rattle.jn_front.proofs.gathering.merge_all.Given as goal

abbrev pub invariant-loop-outcome : goal.invariant-loop-outcome
invariant-loop-outcome l = record {
  next : goal.iterator-loop-outcome.can_next l.outcome-iterator;
  finite : goal.iterator-loop-outcome.is_finite l.outcome-iterator;
  names : joined_names l.names l.outcome-iterator.rest.items ≡ joined_names known_names l.fn.outcomes.items;
  trees : map numbered_tree l.trees.items ++ joined_trees l.names l.outcome-iterator.rest.items ≡ joined_trees known_names l.fn.outcomes.items;
  few : HaveFewNames l.outcome-iterator.rest.items;
  found : (k : ℕ) × (files : List SourceFile) × AreOutcomes k files l.outcome-iterator.rest.items;
  begun : l.trees.items ≡ [] → l.names ≡ known_names;
  short : length l.names + length l.outcome-iterator.rest.items * 1048606 ≤ 67110814;
}
