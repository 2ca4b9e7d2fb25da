use Rattle.jn_member_tables.proofs.tables.+height_of.Given as goal

abbrev pub decreases-height_of : goal.decreases-height_of
decreases-height_of l = l.count
