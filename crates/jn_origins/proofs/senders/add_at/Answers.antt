use Rattle.jn_origins.proofs.Sending.{added_one}
use Rattle.jn_origins.proofs.senders.add_at.Goals as goal

pub returns : goal.returns
returns c = added_one c.args.program.now c.args.body.0 c.args.lists.now.items c.push_at.new.lists.items c.args.at c.in_ok-push_at.ensures.long c.in_ok-push_at.ensures.pushed
