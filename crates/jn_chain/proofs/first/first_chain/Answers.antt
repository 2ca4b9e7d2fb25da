use Rattle.jn_chain.proofs.first.first_chain.Goals as goal

pub next_first_chain-requires-clause-rests : goal.next_first_chain-requires-clause-rests
next_first_chain-requires-clause-rests g c = c.new-chains.ensures (g.O.Origins.describe c.args.origins.now)
