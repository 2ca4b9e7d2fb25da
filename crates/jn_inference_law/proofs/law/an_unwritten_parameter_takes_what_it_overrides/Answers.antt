use Rattle.std.proofs.Common.{refl}
use Rattle.jn_inference_law.proofs.law.an_unwritten_parameter_takes_what_it_overrides.Goals as goal

pub returns : goal.returns
returns c = record { overriders = refl; start = refl; sends = refl }
