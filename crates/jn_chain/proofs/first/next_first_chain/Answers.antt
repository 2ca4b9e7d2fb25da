use Rattle.jn_chain.specs.Search.{Ground}
use Rattle.jn_chain.specs.Keys.{rest_of}
use Rattle.jn_chain.proofs.Walks.{chain_stands, walk_first}
use Rattle.jn_chain.proofs.first.next_first_chain.Goals as goal

pub returns : goal.returns
returns g c =
    let G : Ground = (g.O.Origins.describe c.args.origins.now) in
    record {
      rests = c.in_ok-left.ensures.rests_are;
      first = walk_first G (c.least_ways_make_the_first_chain.ensures G.program G.sig G.tables) (rest_of c.find_left.new.chains) c.args.item c.in_ok-left.left c.in_ok-left.ensures (chain_stands G c.args.item c.requires.chain) c.in_ok-steps.steps.items c.in_ok-steps.ensures.way c.in_ok-steps.ensures.long;
    }
