use Rattle.jn_worklist.proofs.RaiseSteps.{not_taken}
use Rattle.jn_resume.proofs.closing.is_due.Goals as goal

pub returns : goal.returns
returns c = not_taken c.args.dirty.now c.args.body.0
