use Rattle.jn_heads_law.proofs.Bodies.{body_same}
use Rattle.jn_heads_law.proofs.BodyRows.{rows_same}
use Rattle.jn_heads_law.proofs.law.lowering_looks_at_no_other_place.Goals as goal

pub returns : goal.returns
returns c = record { bodies = λ P Q s h named. body_same P Q h s named; rows = λ P Q s h named. rows_same P Q s h named (body_same P Q h s named) }
