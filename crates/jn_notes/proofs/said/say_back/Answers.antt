use Rattle.std.proofs.Common.{◌-◌}
use Rattle.jn_chain.specs.Keys.{kept_of, rest_of}
use Rattle.jn_notes.specs.declared.said.Said.{Said}
use Rattle.jn_notes.proofs.Saying.{back_start, back_step, back_done, said_more}
use Rattle.jn_notes.specs.Walked.{ground_in}
use Rattle.jn_notes.proofs.said.say_back.Goals as goal

pub loop-done-init : goal.loop-done-init
loop-done-init c = (c.requires.said, c.requires.ends, back_start (ground_in c.args.of.now) (rest_of c.args.chains.now) c.args.item c.args.steps.now c.args.stop c.requires.path)

pub said_before-requires-clause-step : goal.said_before-requires-clause-step
said_before-requires-clause-step c = (back_step (ground_in c.args.of.now) (rest_of c.args.chains.now) c.args.item c.args.steps.now c.loop-done.next c.loop-done.done _ c.loop-done-test.true c.loop-done.invariant.2).1

pub loop-done-preserved : goal.loop-done-preserved
loop-done-preserved c = (
  said_more (ground_in c.args.of.now) _ c.in_ok-found.found (kept_of Said c.loop-done.said) (kept_of Said c.put.new.self) c.loop-done.invariant.0 c.in_ok-found.ensures c.in_ok-put.ensures,
  (c.in_ok-found.found, c.in_ok-put.ensures.here),
  (back_step (ground_in c.args.of.now) (rest_of c.args.chains.now) c.args.item c.args.steps.now c.loop-done.next c.loop-done.done _ c.loop-done-test.true c.loop-done.invariant.2).0,
)

pub returns : goal.returns
returns c = record {
  said = c.loop-done.invariant.0;
  there = back_done (ground_in c.args.of.now) (rest_of c.args.chains.now) c.args.item c.args.steps.now c.loop-done.next c.loop-done.done (kept_of Said c.loop-done.said) c.loop-done-test.false c.loop-done.invariant.2 c.loop-done.invariant.1;
}
