use Rattle.std.proofs.Common.{sym, ◌∙◌}
use Rattle.jn_chain.specs.Keys.{rest_of}
use Rattle.jn_chain.proofs.Walks.{least_step}
use Rattle.jn_chain.proofs.walk.step_from.Goals as goal

pub returns : goal.returns
returns g c = least_step (g.O.Origins.describe c.args.origins.now) (rest_of c.args.chains.now) c.requires.rests c.args.source c.in-Some.item c.args.left c.in-Some-get.rest c.requires.known c.in-Some.is (sym c.in-Some-get.is ∙ c.get.ensures)
