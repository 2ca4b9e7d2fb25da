use Rattle.jn_sites.proofs.Siting.{started}
use Rattle.jn_sites.proofs.sites.Sites.start.Goals as goal

pub returns-in-Ok : goal.returns-in-Ok
returns-in-Ok g c = started _ c.self.inside.lists c.insert.new.self c.args.self.now c.key_of.result c.new.result c.self.view_is c.new.ensures c.requires c.in-Ok.ensures.updates.0
