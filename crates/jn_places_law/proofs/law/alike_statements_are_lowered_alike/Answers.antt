use Rattle.jn_places_law.proofs.Statements.{statement_alike}
use Rattle.jn_places_law.proofs.law.alike_statements_are_lowered_alike.Goals as goal

pub returns : goal.returns
returns c = λ P Q k first st r ts us x h e. statement_alike P Q k first h st r ts us x e
