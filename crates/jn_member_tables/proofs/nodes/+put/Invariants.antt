use Rattle.jn_member_tables.proofs.nodes.+put.Given as goal

abbrev pub decreases-put : goal.decreases-put
decreases-put l = l.height
