use Rattle.std.proofs.lemmas.Bool.{eqb-true}
use Rattle.jn_origins.proofs.Sending.{last_in}
use Rattle.jn_origins.proofs.senders.is_at.Goals as goal

pub returns : goal.returns
returns c = λ e. last_in c.args.body c.args.list.now c.args.at _ c.requires.inside (eqb-true _ _ e)
