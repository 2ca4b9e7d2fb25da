use Rattle.jn_origins.specs.Leading.{point_list}
use Rattle.jn_origins.proofs.Leads.{led_both}
use Rattle.jn_origins.proofs.bodies.add_edges.Goals as goal

pub returns : goal.returns
returns c = led_both c.args.from.0 (point_list c.args.edges.first) (point_list c.args.edges.second) c.args.lists.now.items c.add_edge.new.lists.items c.add_edge-2.new.lists.items c.in_ok-add_edge.ensures c.in_ok-add_edge-2.ensures
