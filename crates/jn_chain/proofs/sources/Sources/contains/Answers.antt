use Rattle.jn_chain.proofs.Keeping.{kept_there, kept_none}
use Rattle.jn_chain.proofs.sources.Sources.contains.Goals as goal

pub returns-clause-there : goal.returns-clause-there
returns-clause-there c = kept_there c.self.inside.list.items c.args.self.now c.self.inside.set c.args.source c.key_of.result c.contains.result c.key_of.ensures c.self.invariant c.self.view_is c.contains.ensures

pub returns-clause-none : goal.returns-clause-none
returns-clause-none c = kept_none c.self.inside.list.items c.args.self.now c.self.inside.set c.args.source c.key_of.result c.contains.result c.key_of.ensures c.self.invariant c.self.view_is c.contains.ensures
