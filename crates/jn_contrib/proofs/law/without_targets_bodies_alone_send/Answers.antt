use Rattle.jn_contrib.proofs.Targets.{pair_none, bodies_close, private_targets}
use Rattle.jn_contrib.proofs.law.without_targets_bodies_alone_send.Goals as goal

pub returns : goal.returns
returns c = record {
  nothing = λ P s m h. pair_none P s h m;
  same = bodies_close;
  private_ones = private_targets;
}
