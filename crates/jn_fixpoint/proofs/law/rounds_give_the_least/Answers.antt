use Rattle.jn_fixpoint.specs.Climb.{Holds, Relates}
use Rattle.jn_fixpoint.proofs.Fixpoint.{above, least}
use Rattle.jn_fixpoint.proofs.law.rounds_give_the_least.Goals as goal

pub returns : goal.returns
returns g c = record {
  above = λ valid within weight top step climb start x v is. above (Holds valid) (Relates within) weight top step climb start x v is;
  least = λ valid within weight top step climb m start x y v vy is w s. least (Holds valid) (Relates within) weight top step climb start x y m v vy is w s;
}
