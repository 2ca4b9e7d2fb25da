use Rattle.std.proofs.Common.{[], sym, subst}
use Rattle.jn_chain.specs.Keys.{rest_of}
use Rattle.jn_chain.specs.Search.{AreSeen}
use Rattle.jn_chain.proofs.Loops.{met_no_source, met_more, met_all}
use Rattle.jn_chain.proofs.levels.next_level.Goals as goal

pub loop-source-init : goal.loop-source-init
loop-source-init g c = (
  met_no_source (rest_of c.args.chains.now) c.args.levels.now c.args.depth (g.O.Origins.describe c.args.origins.now) c.args.last.now c.new-next.result.items c.args.best c.new-next.ensures.items,
  subst (AreSeen c.args.seen.now c.args.levels.now) (sym c.new-next.ensures.items) c.requires.seen,
)

pub loop-source-preserved : goal.loop-source-preserved
loop-source-preserved g c = (
  met_more (rest_of c.args.chains.now) c.args.levels.now c.args.depth (g.O.Origins.describe c.args.origins.now) c.args.last.now c.loop-source.source-index _ c.in_ok-causes.causes.items c.deref.result.now [] c.loop-source.next.items c.meet_sources.new.next.items c.args.best c.loop-source.least c.in_ok-now.now c.loop-source-test.true c.in_ok-causes.ensures c.deref.ensures.value c.loop-source.invariant.0 c.in_ok-now.ensures.met,
  c.in_ok-now.ensures.seen,
)

pub returns : goal.returns
returns g c = record {
  seen = c.loop-source.invariant.1;
  met = met_all (rest_of c.args.chains.now) c.args.levels.now c.args.depth (g.O.Origins.describe c.args.origins.now) c.args.last.now c.loop-source.source-index [] c.loop-source.next.items c.args.best c.loop-source.least c.loop-source-test.false c.loop-source.invariant.0;
}
