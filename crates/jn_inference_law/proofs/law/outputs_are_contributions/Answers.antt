use Rattle.jn_inference_law.proofs.InferenceLaws.{inferred_sent}
use Rattle.jn_tables_law.proofs.LeastTables.{sends_are}
use Rattle.jn_inference_law.proofs.PairLaws.{pairs_inferred}
use Rattle.jn_inference_law.proofs.law.outputs_are_contributions.Goals as goal

pub returns : goal.returns
returns c = record { sends = sends_are; inferred = inferred_sent; pairs = pairs_inferred }
