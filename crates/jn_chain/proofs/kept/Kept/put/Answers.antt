use Rattle.jn_chain.proofs.Keeping.{put_is}
use Rattle.jn_chain.proofs.kept.Kept.put.Goals as goal

pub returns-in-Ok : goal.returns-in-Ok
returns-in-Ok g c = put_is c.self.inside.items c.insert.new.self c.args.self.now c.args.item c.args.value c.key_of.result c.key_of.ensures c.self.view_is c.in-Ok.ensures.updates.0
