use Rattle.jn_chain.specs.Keys.{rest_of}
use Rattle.jn_chain.proofs.Loops.{met_no_cause, met_cause, met_causes}
use Rattle.jn_chain.proofs.levels.meet_sources.Goals as goal

pub loop-cause-init : goal.loop-cause-init
loop-cause-init c = (met_no_cause (rest_of c.args.chains.now) c.args.levels.now c.args.depth c.args.causes.now c.args.next.now.items c.args.best, c.requires.seen)

pub loop-cause-preserved : goal.loop-cause-preserved
loop-cause-preserved c = (
  met_cause (rest_of c.args.chains.now) c.args.levels.now c.args.depth c.args.causes.now c.loop-cause.cause-index _ c.args.next.now.items c.loop-cause.next.items c.meet_source.new.next.items c.args.best c.loop-cause.least c.in_ok-now.now c.loop-cause-test.true c.loop-cause.invariant.0 c.in_ok-now.ensures.met,
  c.in_ok-now.ensures.seen,
)

pub returns : goal.returns
returns c = record {
  seen = c.loop-cause.invariant.1;
  met = met_causes (rest_of c.args.chains.now) c.args.levels.now c.args.depth c.args.causes.now c.loop-cause.cause-index c.args.next.now.items c.loop-cause.next.items c.args.best c.loop-cause.least c.loop-cause-test.false c.loop-cause.invariant.0;
}
