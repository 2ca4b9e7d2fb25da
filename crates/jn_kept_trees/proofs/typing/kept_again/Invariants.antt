use Rattle.jn_front.specs.Files.{files_of_reads}
use Rattle.jn_kept_trees.proofs.Going.{Goes, Holds}
use Rattle.jn_kept_trees.proofs.typing.kept_again.Given as goal

abbrev pub invariant-loop-text : goal.invariant-loop-text
invariant-loop-text l = record {
  next : goal.iterator-loop-text.can_next l.text-iterator;
  finite : goal.iterator-loop-text.is_finite l.text-iterator;
  goes : Goes (files_of_reads l.files) l.kept.items l.text-iterator.a.rest.items l.text-iterator.b.rest.items;
  holds : Holds l.fn.trees.items l.kept.items l.text-iterator.b.rest.items;
}
