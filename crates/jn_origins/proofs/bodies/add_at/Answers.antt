use Rattle.jn_origins.proofs.Leads.{led_one}
use Rattle.jn_origins.proofs.bodies.add_at.Goals as goal

pub returns : goal.returns
returns c = led_one c.args.from.0 c.args.lists.now.items c.push_at.new.lists.items c.args.at c.in_ok-push_at.ensures.long c.in_ok-push_at.ensures.pushed
