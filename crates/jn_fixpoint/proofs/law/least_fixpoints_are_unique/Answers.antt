use Rattle.jn_fixpoint.proofs.Fixpoint.{unique}
use Rattle.jn_fixpoint.proofs.law.least_fixpoints_are_unique.Goals as goal

pub returns : goal.returns
returns g c = λ step start x y is js. unique step start x y is js
