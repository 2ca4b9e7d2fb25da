use Rattle.jn_kept_trees.proofs.Found.{trees_typed}
use Rattle.jn_kept_trees.proofs.typing.keep.Goals as goal

pub returns-clause-typed : goal.returns-clause-typed
returns-clause-typed c =
    let kept = c.in_ok-kept.ensures in
    let made = c.typed_again.ensures in
    trees_typed c.args.infer c.args.reads.now c.args.parsed c.args.found c.in_ok-kept.kept.items c.typed_again.result c.requires.parsed c.requires.typing c.requires.kept kept.kept kept.trees made.rows made.base made.names made.kept made.typing
