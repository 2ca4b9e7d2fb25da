use Rattle.jn_places_law.proofs.Expressions.{alike}
use Rattle.jn_places_law.proofs.law.alike_expressions_are_lowered_alike.Goals as goal

pub returns : goal.returns
returns c = alike
