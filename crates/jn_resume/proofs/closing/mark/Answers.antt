use Rattle.std.proofs.Common.{inl, inr, refl}
use Rattle.jn_worklist.proofs.RaiseSteps.{bit_set}
use Rattle.jn_resume.proofs.closing.mark.Goals as goal

pub returns-clause-kept : goal.returns-clause-kept
returns-clause-kept c = λ x due. (bit_set c.args.dirty.now c.args.body.0 _ c.requires refl x).1 (inl due)

pub returns-clause-set : goal.returns-clause-set
returns-clause-set c = (bit_set c.args.dirty.now c.args.body.0 _ c.requires refl c.args.body.0).1 (inr refl)
