use Rattle.jn_least_law.proofs.Existing.{exists}
use Rattle.jn_least_law.proofs.law.programs_have_a_least_signature.Goals as goal

pub returns : goal.returns
returns c = exists
