use Rattle.jn_origins.proofs.Leads.{jumps_more}
use Rattle.jn_origins.proofs.bodies.find_jumps.Goals as goal

pub loop-at-preserved : goal.loop-at-preserved
loop-at-preserved c = jumps_more c.args.body.now.points c.loop-at.at c.edges-leads.result c.loop-at.lists.items c.add_edges.new.lists.items c.edges-leads.ensures c.loop-at.invariant c.in_ok-add_edges.ensures
