use Rattle.std.proofs.Common.{◌∙◌, ◌+◌, ◌-◌, ◌≤◌, List, [], length, arith, sym, subst}
use Rattle.std.proofs.lemmas.List.{get_or_default}
use Rattle.jn_chain.specs.declared.chains.Rest.{Rest}
use Rattle.jn_chain.specs.Keys.{Key, rest_of}
use Rattle.jn_chain.proofs.Settling.{IsDone, done_start, level_due, done_more, done_past, done_found}
use Rattle.jn_chain.proofs.settled.settle.Goals.{then-at-best+in_ok-settle_level, else-at-best}
use Rattle.jn_chain.proofs.settled.settle.Goals as goal

pub loop-done-init : goal.loop-done-init
loop-done-init g c = λ A R. done_start (g.O.Origins.describe c.args.origins.now) (rest_of c.args.chains.now) c.args.levels.now c.args.item c.args.best A R

pub settle_level-requires-clause-due : goal.settle_level-requires-clause-due
settle_level-requires-clause-due g c = level_due (g.O.Origins.describe c.args.origins.now) (rest_of c.args.chains.now) c.args.levels.now c.args.item c.args.best c.requires.levels c.requires.rests c.loop-done.done c.loop-done-test.true (rest_of c.loop-done.chains) c.as_slice.result.now c.if-at-best.true (c.as_slice.ensures ∙ c.index-levels-at.is ∙ get_or_default c.args.levels.now (length c.args.levels.now - 1 - c.loop-done.done) c.index-levels-at.result [] (omega (arith, c.loop-done-test.true))) (c.loop-done.invariant c.requires.levels c.requires.rests)

pub loop-done-preserved : goal.loop-done-preserved
loop-done-preserved g c =
    elim c.if-at-best.branch [
      | then-at-best+in_ok-settle_level w ↦ λ A R.
          subst (λ (k : List (Key × Rest)). IsDone (g.O.Origins.describe c.args.origins.now) (rest_of c.args.chains.now) c.args.levels.now c.args.item c.args.best A R (length c.args.levels.now - (c.loop-done.done + 1)) (rest_of k)) (sym w.chains-is)
          (done_more (g.O.Origins.describe c.args.origins.now) (rest_of c.args.chains.now) c.args.levels.now c.args.item c.args.best A R c.loop-done.done c.loop-done-test.true (rest_of c.loop-done.chains) (rest_of w.settle_level.new.chains) w.as_slice.result.now w.if-at-best.true
          (w.as_slice.ensures ∙ w.index-levels-at.is ∙ get_or_default c.args.levels.now (length c.args.levels.now - 1 - c.loop-done.done) w.index-levels-at.result [] (omega (arith, c.loop-done-test.true)))
          (c.loop-done.invariant A R) w.in_ok-settle_level.ensures)
      | else-at-best w ↦ λ A R.
          let past : c.args.best ≤ length c.args.levels.now - 1 - c.loop-done.done = omega (arith, w.if-at-best.false) in
          subst (λ (k : List (Key × Rest)). IsDone (g.O.Origins.describe c.args.origins.now) (rest_of c.args.chains.now) c.args.levels.now c.args.item c.args.best A R (length c.args.levels.now - (c.loop-done.done + 1)) (rest_of k)) (sym w.chains-is)
          (done_past (g.O.Origins.describe c.args.origins.now) (rest_of c.args.chains.now) c.args.levels.now c.args.item c.args.best A R c.loop-done.done c.loop-done-test.true (rest_of c.loop-done.chains) past (c.loop-done.invariant A R))
    ]

pub returns : goal.returns
returns g c = done_found (g.O.Origins.describe c.args.origins.now) (rest_of c.args.chains.now) c.args.levels.now c.args.item c.args.best c.requires.levels c.requires.rests c.loop-done.done (rest_of c.loop-done.chains) c.loop-done-test.false (c.loop-done.invariant c.requires.levels c.requires.rests)
