use Rattle.jn_member_tables.proofs.nodes.+collect.Given as goal

abbrev pub decreases-collect : goal.decreases-collect
decreases-collect l = l.height
