use Rattle.jn_fixpoint.specs.Climb.{Holds, Relates}
use Rattle.jn_fixpoint.proofs.Fixpoint.{exists}
use Rattle.jn_fixpoint.proofs.law.rounds_end.Goals as goal

pub returns : goal.returns
returns g c = λ valid within weight top step climb start v. exists (Holds valid) (Relates within) weight top step climb start v
