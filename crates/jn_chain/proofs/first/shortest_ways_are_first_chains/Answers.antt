use Rattle.jn_chain.proofs.Walks.{shortest_first}
use Rattle.jn_chain.proofs.first.shortest_ways_are_first_chains.Goals as goal

pub returns : goal.returns
returns c = λ G x steps st h. shortest_first G (c.least_ways_make_the_first_chain.ensures G.program G.sig G.tables) x steps st h
