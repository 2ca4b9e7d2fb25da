use Rattle.jn_member_tables.proofs.nodes.+merge.Given as goal

abbrev pub decreases-merge : goal.decreases-merge
decreases-merge l = l.height
