use Rattle.jn_front.specs.Files.{files_of_reads}
use Rattle.jn_kept_trees.proofs.Keeping.{are_kept}
use Rattle.jn_kept_trees.proofs.again.put_together.Goals as goal

pub merged-requires-clause-kept : goal.merged-requires-clause-kept
merged-requires-clause-kept g c κs within = are_kept (files_of_reads c.args.reads.now) c.args.kept.items c.requires.kept
