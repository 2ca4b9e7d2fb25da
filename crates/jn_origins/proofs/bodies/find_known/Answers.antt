use Rattle.jn_origins.proofs.Leads.{known_more}
use Rattle.jn_origins.proofs.bodies.find_known.Goals as goal

pub loop-body-preserved : goal.loop-body-preserved
loop-body-preserved c = known_more c.args.program.now c.loop-body.body c.loop-body.bodies.items c.put.new.items.items c.in_ok-known.known c.in_ok-put.ensures c.loop-body.invariant c.in_ok-known.ensures
