use Rattle.std.proofs.Common.{◌⊎◌, ◌↔◌, List, subst}
use Rattle.jn_base.specs.declared.number.BodyNo.{BodyNo}
use Rattle.jn_worklist.specs.Plans.{IsDue, Lists}
use Rattle.jn_worklist.proofs.DrainSteps.{more_ones}
use Rattle.jn_worklist.proofs.draining.raise.Goals as goal

pub returns-clause-dirty : goal.returns-clause-dirty
returns-clause-dirty c = λ _ x. subst (λ (l : List BodyNo). IsDue c.add_bodies.new.due x ↔ (IsDue c.args.dirty.now x ⊎ Lists l x)) c.readers.ensures (c.add_bodies.ensures.bits x)

pub returns-clause-more : goal.returns-clause-more
returns-clause-more c = λ _. more_ones c.args.words.now c.args.word.0 c.args.bits c.requires.word (c.is_new.ensures.more c.if-not-is_new.false)
