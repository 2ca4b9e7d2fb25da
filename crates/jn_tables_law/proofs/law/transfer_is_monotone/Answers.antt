use Rattle.jn_tables_law.proofs.Signatures.{edges_above}
use Rattle.jn_tables_law.proofs.law.transfer_is_monotone.Goals as goal

pub returns : goal.returns
returns c = λ P s t b kind p e f x w v m. edges_above s t w P b kind p e f x v m
