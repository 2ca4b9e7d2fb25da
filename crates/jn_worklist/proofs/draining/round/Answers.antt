use Rattle.std.proofs.Common.{◌≡◌, ◌≢◌, ℕ, ◌<◌, ◌+◌, refl, arith}
use Rattle.jn_worklist.specs.Plans.{IsDue}
use Rattle.jn_worklist.proofs.DrainSteps.{moved_on, moved_with, none_more}
use Rattle.jn_worklist.proofs.draining.round.Goals as goal

pub loop-body-init : goal.loop-body-init
loop-body-init g c = ((λ start h. h), (refl, λ x less. absurd (omega arith)))

pub loop-body-preserved : goal.loop-body-preserved
loop-body-preserved g c =
    let f = c.in_ok-moved.ensures in (
      (λ start h. f.kept start (c.loop-body.invariant.0 start h)),
      moved_on c.loop-body.raised c.in_ok-moved.moved (g.C.Constraints.describe c.args.system.now) c.args.words.now c.loop-body.words c.visit.new.words
          ((x : ℕ) → x < c.loop-body.body → IsDue c.loop-body.dirty x → ⊥) ((x : ℕ) → IsDue c.visit.new.dirty x → IsDue c.loop-body.dirty x × (x ≢ c.loop-body.body)) ((x : ℕ) → x < c.loop-body.body + 1 → IsDue c.visit.new.dirty x → ⊥)
          c.loop-body.invariant.1 f.moved (none_more c.loop-body.body c.loop-body.dirty c.visit.new.dirty),
    )

pub returns-clause-kept : goal.returns-clause-kept
returns-clause-kept g c = c.loop-body.invariant.0

pub returns-clause-moved : goal.returns-clause-moved
returns-clause-moved g c =
    let all : c.loop-body.body ≡ (g.C.Constraints.describe c.args.system.now).bodies = let t = c.loop-body-test.false in let l = c.bodies-body-end.ensures in let a = c.loop-body.auto.body-end in omega arith in
    moved_with c.loop-body.raised (g.C.Constraints.describe c.args.system.now) c.args.words.now c.loop-body.words ((x : ℕ) → x < c.loop-body.body → IsDue c.loop-body.dirty x → ⊥) ((x : ℕ) → x < (g.C.Constraints.describe c.args.system.now).bodies → IsDue c.loop-body.dirty x → ⊥)
    (λ none x less. none x (omega arith)) c.loop-body.invariant.1
