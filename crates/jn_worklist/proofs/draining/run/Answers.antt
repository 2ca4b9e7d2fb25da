use Rattle.std.proofs.Common.{◌≡◌, ◌<◌, [], length, get_or, refl, ◌∙◌, arith}
use Rattle.atomic_table.proofs.Lists.{at_index}
use Rattle.jn_worklist.proofs.PlanFacts.{plan_length, readers_fit, readers_due}
use Rattle.jn_worklist.proofs.DrainSteps.{begins_body, named_at, raise_on, raise_moves, moved_on, ends_body}
use Rattle.jn_worklist.proofs.draining.run.Goals as goal

pub loop-at-init : goal.loop-at-init
loop-at-init g c = ((λ start h. begins_body (g.C.Constraints.describe c.args.system.now) (g.met.C.Constraints.laws c.args.system.now) start c.args.body.0 c.args.words.now c.args.dirty.now c.in_ok-output.output.items h), (refl, refl))

pub raise-new-requires-clause-word : goal.raise-new-requires-clause-word
raise-new-requires-clause-word g c =
    let inside : c.loop-at.at < length c.in_ok-output.output.items = let t = c.loop-at-test.true in let l = c.len-at-end.ensures in omega arith in
    let range = named_at (g.C.Constraints.describe c.args.system.now) (g.met.C.Constraints.laws c.args.system.now) c.args.body.0 c.args.words.now c.in_ok-output.output.items c.loop-at.at c.index.result.now c.requires.inside c.requires.count c.in_ok-output.ensures
    (at_index c.in_ok-output.output.items c.loop-at.at c.index.result.now inside c.index.ensures) in
    let same = c.loop-at.auto.words in let count = c.requires.count in omega arith

pub raise-new-requires-clause-plan : goal.raise-new-requires-clause-plan
raise-new-requires-clause-plan g c =
    let inside : c.loop-at.at < length c.in_ok-output.output.items = let t = c.loop-at-test.true in let l = c.len-at-end.ensures in omega arith in
    let range = named_at (g.C.Constraints.describe c.args.system.now) (g.met.C.Constraints.laws c.args.system.now) c.args.body.0 c.args.words.now c.in_ok-output.output.items c.loop-at.at c.index.result.now c.requires.inside c.requires.count c.in_ok-output.ensures
    (at_index c.in_ok-output.output.items c.loop-at.at c.index.result.now inside c.index.ensures) in
    let n = plan_length (g.C.Constraints.describe c.args.system.now) c.args.plan.now c.requires.plan in omega arith

pub raise-new-requires-clause-room : goal.raise-new-requires-clause-room
raise-new-requires-clause-room g c =
    let inside : c.loop-at.at < length c.in_ok-output.output.items = let t = c.loop-at-test.true in let l = c.len-at-end.ensures in omega arith in
    let range = named_at (g.C.Constraints.describe c.args.system.now) (g.met.C.Constraints.laws c.args.system.now) c.args.body.0 c.args.words.now c.in_ok-output.output.items c.loop-at.at c.index.result.now c.requires.inside c.requires.count c.in_ok-output.ensures
    (at_index c.in_ok-output.output.items c.loop-at.at c.index.result.now inside c.index.ensures) in
    readers_fit (g.C.Constraints.describe c.args.system.now) c.args.plan.now c.requires.plan c.index.result.now.0.0 range (get_or c.args.plan.now c.index.result.now.0.0 []) refl (length c.loop-at.dirty) (c.loop-at.auto.dirty ∙ c.requires.room)

pub loop-at-preserved : goal.loop-at-preserved
loop-at-preserved g c =
    let sys = g.C.Constraints.describe c.args.system.now in
    let law = g.met.C.Constraints.laws c.args.system.now in
    let o = c.index.result.now in
    let os = c.in_ok-output.output.items in
    let e = c.raise-new.ensures in
    let inside : c.loop-at.at < length os = let t = c.loop-at-test.true in let l = c.len-at-end.ensures in omega arith in
    let at = at_index os c.loop-at.at o inside c.index.ensures in
    let range = named_at sys law c.args.body.0 c.args.words.now os c.loop-at.at o c.requires.inside c.requires.count c.in_ok-output.ensures at in (
      (λ start h. raise_on sys law start c.args.body.0 c.args.words.now os c.loop-at.at o c.loop-at.words c.loop-at.dirty c.requires.inside c.in_ok-output.ensures at range (c.loop-at.invariant.0 start h)
          c.raise-new.result c.raise-new.new.words c.raise-new.new.dirty e.same e.words
          (λ t. readers_due sys c.args.plan.now c.requires.plan o.0.0 range (get_or c.args.plan.now o.0.0 []) refl c.loop-at.dirty c.raise-new.new.dirty (e.dirty t))),
      moved_on c.loop-at.raised c.raise-new.result sys c.args.words.now c.loop-at.words c.raise-new.new.words (c.loop-at.dirty ≡ c.args.dirty.now) (c.raise-new.new.dirty ≡ c.loop-at.dirty) (c.raise-new.new.dirty ≡ c.args.dirty.now)
          c.loop-at.invariant.1 (raise_moves sys c.loop-at.words c.loop-at.dirty o.0.0 o.1 c.raise-new.result c.raise-new.new.words c.raise-new.new.dirty range e.same e.more) (λ a b. b ∙ a),
    )

pub returns-clause-kept : goal.returns-clause-kept
returns-clause-kept g c =
    let sys = g.C.Constraints.describe c.args.system.now in
    let law = g.met.C.Constraints.laws c.args.system.now in
    let os = c.in_ok-output.output.items in
    let all : c.loop-at.at ≡ length os = let t = c.loop-at-test.false in let l = c.len-at-end.ensures in let a = c.loop-at.auto.at-end in omega arith in
    λ start h. ends_body sys law start c.args.body.0 c.args.words.now os c.loop-at.at c.loop-at.words c.loop-at.dirty c.requires.inside c.in_ok-output.ensures all (c.loop-at.invariant.0 start h)

pub returns-clause-moved : goal.returns-clause-moved
returns-clause-moved g c = c.loop-at.invariant.1
