use Rattle.std.proofs.Common.{refl}
use Rattle.jn_inference_law.proofs.law.an_escaping_receiver_reaches_the_overrider.Goals as goal

pub returns : goal.returns
returns c = record { overriders = refl; start = refl; sends = refl }
