use Rattle.jn_sites.proofs.Siting.{put_more}
use Rattle.jn_sites.proofs.sites.Sites.put.Goals as goal

pub returns-in-Ok : goal.returns-in-Ok
returns-in-Ok g c =
    put_more _ c.self.inside.lists c.remove.new.self c.insert.new.self c.args.self.now c.args.span c.args.item c.key_of-key.result c.in-Some.list c.push.new.self
    c.key_of-key.ensures c.self.view_is c.in-Some.ensures.value c.in_ok-push.ensures.ok c.remove.ensures.updates.0 c.in-Ok.ensures.updates.0
