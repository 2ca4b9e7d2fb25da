use Rattle.jn_chain.specs.Keys.{rest_of}
use Rattle.jn_chain.proofs.Settling.{settled_none, due_next, settled_more, settled_all}
use Rattle.jn_chain.proofs.settled.settle_level.Goals as goal

pub loop-source-init : goal.loop-source-init
loop-source-init g c = settled_none (g.O.Origins.describe c.args.origins.now) (rest_of c.args.chains.now) c.args.level.now c.args.left c.requires.due

pub settle_source-requires-clause-due : goal.settle_source-requires-clause-due
settle_source-requires-clause-due g c = due_next (g.O.Origins.describe c.args.origins.now) (rest_of c.args.chains.now) c.args.level.now c.args.left c.requires.due c.loop-source.source-index _ (rest_of c.loop-source.chains) c.loop-source-test.true c.loop-source.invariant

pub loop-source-preserved : goal.loop-source-preserved
loop-source-preserved g c = settled_more (g.O.Origins.describe c.args.origins.now) (rest_of c.args.chains.now) c.args.level.now c.args.left c.requires.due c.loop-source.source-index _ (rest_of c.loop-source.chains) (rest_of c.settle_source.new.chains) c.loop-source-test.true c.loop-source.invariant c.in_ok-settle_source.ensures

pub returns : goal.returns
returns g c = settled_all (g.O.Origins.describe c.args.origins.now) (rest_of c.args.chains.now) c.args.level.now c.args.left c.requires.due c.loop-source.source-index (rest_of c.loop-source.chains) c.loop-source-test.false c.loop-source.invariant
