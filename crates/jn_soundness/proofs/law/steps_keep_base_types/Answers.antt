use Rattle.jn_soundness.proofs.KeptTypes.{base_types_kept}
use Rattle.jn_soundness.proofs.law.steps_keep_base_types.Goals as goal

pub returns : goal.returns
returns c = base_types_kept
