use Rattle.jn_member_tables.proofs.nodes.+find.Given as goal

abbrev pub decreases-find : goal.decreases-find
decreases-find l = l.height
