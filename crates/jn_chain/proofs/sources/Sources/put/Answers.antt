use Rattle.jn_chain.proofs.Keeping.{kept_more}
use Rattle.jn_chain.proofs.sources.Sources.put.Goals as goal

pub invariant_of-self-in-Ok : goal.invariant_of-self-in-Ok
invariant_of-self-in-Ok c = kept_more c.self.inside.list.items c.push.new.self.items c.self.inside.set c.insert.new.self c.args.source c.key_of.result c.key_of.ensures c.in_ok-push.ensures.items c.self.invariant c.in-Ok.ensures.updates.0
