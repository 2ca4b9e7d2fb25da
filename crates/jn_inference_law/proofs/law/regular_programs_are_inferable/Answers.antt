use Rattle.jn_inference_law.proofs.InferenceLaws.{inference_lawful}
use Rattle.jn_tables_law.proofs.Inferring.{regular_inferable}
use Rattle.jn_inference_law.proofs.law.regular_programs_are_inferable.Goals as goal

pub returns : goal.returns
returns c = record { inferable = regular_inferable; lawful = inference_lawful }
