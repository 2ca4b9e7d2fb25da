use Rattle.jn_origins.proofs.Leads.{known_at}
use Rattle.jn_origins.proofs.bodies.known_of.Goals as goal

pub returns : goal.returns
returns c =
    let known = known_at c.args.program.now c.args.bodies.now c.args.body.0 c.index-bodies-body.result c.requires.known c.requires.inside c.index-bodies-body.is in
    record { known = known; keys = known.keys }
