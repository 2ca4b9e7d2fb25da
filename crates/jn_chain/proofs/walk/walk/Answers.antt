use Rattle.jn_chain.specs.Keys.{rest_of}
use Rattle.jn_chain.proofs.Walks.{walk_start, walk_left, walk_more, walk_way, walk_long}
use Rattle.jn_chain.proofs.walk.walk.Goals as goal

pub loop-left-init : goal.loop-left-init
loop-left-init g c = walk_start (g.O.Origins.describe c.args.origins.now) (rest_of c.args.chains.now) c.requires.rests_are c.args.item c.args.count c.new-steps.result.items c.new-steps.ensures.items c.requires.known

pub step_from-next-requires : goal.step_from-next-requires
step_from-next-requires g c = record {
  rests = c.requires.rests_are;
  known = walk_left (g.O.Origins.describe c.args.origins.now) (rest_of c.args.chains.now) c.requires.rests_are c.args.item c.args.count c.loop-left.left c.loop-left.source c.loop-left.steps.items c.loop-left-test.true c.loop-left.invariant;
}

pub loop-left-preserved : goal.loop-left-preserved
loop-left-preserved g c = walk_more (g.O.Origins.describe c.args.origins.now) (rest_of c.args.chains.now) c.requires.rests_are c.args.item c.args.count c.loop-left.left c.loop-left.source c.loop-left.steps.items c.push.new.list.items c.step_from-next.result.0 c.step_from-next.result.1 c.loop-left-test.true c.loop-left.invariant c.step_from-next.ensures c.in_ok-push.ensures

pub returns : goal.returns
returns g c = record {
  way = walk_way (g.O.Origins.describe c.args.origins.now) (rest_of c.args.chains.now) c.requires.rests_are c.args.item c.args.count c.loop-left.left c.loop-left.source c.loop-left.steps.items c.loop-left-test.false c.loop-left.invariant;
  long = walk_long (g.O.Origins.describe c.args.origins.now) (rest_of c.args.chains.now) c.requires.rests_are c.args.item c.args.count c.loop-left.left c.loop-left.source c.loop-left.steps.items c.loop-left-test.false c.loop-left.invariant;
}
