use Rattle.jn_origins.proofs.Sending.{senders_more}
use Rattle.jn_origins.proofs.senders.find_senders.Goals as goal

pub loop-body-preserved : goal.loop-body-preserved
loop-body-preserved c = senders_more c.args.program.now c.loop-body.body c.loop-body.lists.items c.add_body.new.lists.items c.loop-body.invariant c.in_ok-add_body.ensures
