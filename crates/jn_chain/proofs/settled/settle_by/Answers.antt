use Rattle.std.proofs.Common.{refl}
use Rattle.jn_chain.specs.Keys.{rest_of}
use Rattle.jn_chain.proofs.Settling.{none_settled, one_settled}
use Rattle.jn_chain.proofs.settled.settle_by.Goals as goal

pub returns-in-None : goal.returns-in-None
returns-in-None g c = none_settled (g.O.Origins.describe c.args.origins.now) (rest_of c.args.chains.now) c.args.item c.args.causes.now c.args.left c.requires.some c.requires.causes c.requires.due (rest_of c.args.chains.now) refl c.in-None.ensures

pub returns-in_ok-put-in-Some : goal.returns-in_ok-put-in-Some
returns-in_ok-put-in-Some g c = one_settled (g.O.Origins.describe c.args.origins.now) (rest_of c.args.chains.now) c.args.item c.args.causes.now c.args.left c.requires.some c.requires.causes c.requires.due (rest_of c.put.new.self) c.in-Some.cause c.in-Some.ensures c.in_ok-put-in-Some.ensures
