use Rattle.jn_places_law.proofs.ExpressionRows.{rows_alike}
use Rattle.jn_places_law.proofs.law.alike_expressions_have_the_same_rows.Goals as goal

pub returns : goal.returns
returns c = λ P Q k at s r ts us e h l. rows_alike P Q h k at s r l ts us e
