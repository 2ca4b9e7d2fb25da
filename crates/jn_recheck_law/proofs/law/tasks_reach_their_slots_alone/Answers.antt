use Rattle.jn_recheck_law.proofs.Apart.{apart}
use Rattle.jn_recheck_law.proofs.Blind.{blind}
use Rattle.jn_recheck_law.proofs.law.tasks_reach_their_slots_alone.Goals as goal

pub returns : goal.returns
returns c = record {
  blind = λ P bits t u. blind P bits t u;
  apart = λ P bits t u. apart P bits t u;
}
