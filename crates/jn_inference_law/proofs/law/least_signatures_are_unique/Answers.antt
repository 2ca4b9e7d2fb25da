use Rattle.jn_inference_law.proofs.LeastSignature.{least_unique}
use Rattle.jn_inference_law.proofs.law.least_signatures_are_unique.Goals as goal

pub returns : goal.returns
returns c = least_unique
