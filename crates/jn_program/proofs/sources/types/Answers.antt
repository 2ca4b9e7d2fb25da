use Rattle.jn_program.specs.Gathering.{numbered_of}
use Rattle.jn_program.proofs.Numbers.{type_more}
use Rattle.jn_program.proofs.sources.types.Goals as goal

pub loop-tree-preserved : goal.loop-tree-preserved
loop-tree-preserved c =
    type_more (numbered_of c.loop-tree.made) (numbered_of c.declared.new.made) _ c.args.trees.now c.loop-tree.tree-index c.tree-item.result c.loop-tree-test.true c.tree-item.is c.in_ok-declared.ensures c.loop-tree.invariant
