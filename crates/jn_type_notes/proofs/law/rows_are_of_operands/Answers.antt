use Rattle.jn_type_notes.proofs.Same.{kind_same}
use Rattle.jn_type_notes.proofs.law.rows_are_of_operands.Goals as goal

pub returns : goal.returns
returns c = λ P b kind. kind_same P b kind
