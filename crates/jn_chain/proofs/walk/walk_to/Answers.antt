use Rattle.std.proofs.Common.{◌≡◌, ◌+◌, ◌-◌, Some, ap, ◌∙◌, arith}
use Rattle.jn_chain.specs.Keys.{kept_of, rest_of}
use Rattle.jn_chain.proofs.Walks.{path_start, path_more, path_ends}
use Rattle.jn_chain.proofs.walk.walk_to.Goals as goal

pub loop-left-init : goal.loop-left-init
loop-left-init g c = (c.requires.known, path_start (g.O.Origins.describe c.args.origins.now) (rest_of c.args.chains.now) (Some c.args.item) c.new-steps.result.items c.new-steps.ensures.items)

pub step_from-next-requires : goal.step_from-next-requires
step_from-next-requires g c = record {
  rests = c.requires.rests_are;
  known = c.loop-left.invariant.0 ∙ ap Some (omega (arith, c.loop-left-test.true));
}

pub loop-left-preserved : goal.loop-left-preserved
loop-left-preserved g c = (
  c.step_from-next.ensures.known,
  path_more (g.O.Origins.describe c.args.origins.now) (rest_of c.args.chains.now) (Some c.args.item) c.loop-left.source c.step_from-next.result.1 (c.loop-left.left - 1) c.loop-left.steps.items c.push.new.list.items c.step_from-next.result.0
      c.loop-left.invariant.1 (c.loop-left.invariant.0 ∙ ap Some (omega (arith, c.loop-left-test.true))) c.step_from-next.ensures c.in_ok-push.ensures,
)

pub returns-then-ends : goal.returns-then-ends
returns-then-ends g c = record { path = c.loop-left.invariant.1; ends = c.ends.ensures c.if-ends.true }

pub returns : goal.returns
returns g c = record {
  path = c.loop-left.invariant.1;
  ends = path_ends (g.O.Origins.describe c.args.origins.now) (rest_of c.args.chains.now) c.requires.rests_are (kept_of _ c.args.kept.now) c.loop-left.left c.loop-left.source (omega (arith, c.loop-left-test.false)) c.loop-left.invariant.0;
}
