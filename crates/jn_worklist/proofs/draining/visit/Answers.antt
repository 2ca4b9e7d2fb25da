use Rattle.std.proofs.Common.{◌≡◌, ◌≢◌, ℕ, List, refl, subst}
use Rattle.jn_worklist.specs.Plans.{IsDue}
use Rattle.jn_worklist.proofs.DrainSteps.{bit_taken, bit_was_clear, moved_with}
use Rattle.jn_worklist.proofs.draining.visit.Goals as goal

pub returns-then-not-take_body-clause-kept : goal.returns-then-not-take_body-clause-kept
returns-then-not-take_body-clause-kept g c = λ start h. bit_was_clear (g.C.Constraints.describe c.args.system.now) start c.args.body.0 c.args.words.now c.args.dirty.now c.take_body.new.due c.take_body.ensures.bits (c.take_body.ensures.was c.if-not-take_body.true) h

pub returns-then-not-take_body-clause-moved : goal.returns-then-not-take_body-clause-moved
returns-then-not-take_body-clause-moved g c = (refl, λ x due. (c.take_body.ensures.bits x).0 due)

pub returns-clause-kept : goal.returns-clause-kept
returns-clause-kept g c = λ start h. c.in_ok-raised.ensures.kept start (bit_taken (g.C.Constraints.describe c.args.system.now) start c.args.body.0 c.args.words.now c.args.dirty.now c.take_body.new.due c.take_body.ensures.bits h)

pub returns-clause-moved : goal.returns-clause-moved
returns-clause-moved g c =
    moved_with c.in_ok-raised.raised (g.C.Constraints.describe c.args.system.now) c.args.words.now c.run.new.words (c.run.new.dirty ≡ c.take_body.new.due) ((x : ℕ) → IsDue c.run.new.dirty x → IsDue c.args.dirty.now x × (x ≢ c.args.body.0))
    (λ e x due. (c.take_body.ensures.bits x).0 (subst (λ (l : List ℕ). IsDue l x) e due)) c.in_ok-raised.ensures.moved
