use Rattle.jn_inference_law.proofs.FewBits.{limit_is_small}
use Rattle.jn_inference_law.proofs.law.limits_are_small.Goals as goal

pub returns : goal.returns
returns c P start can packed starts = limit_is_small P can start packed starts
