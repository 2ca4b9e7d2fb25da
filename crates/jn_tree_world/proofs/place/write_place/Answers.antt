use Rattle.jn_tree_world.proofs.place.write_place.Goals as goal

pub returns-in-Local : goal.returns-in-Local
returns-in-Local c = rw c.in-Local.is (c.set_local.ensures c.args.program.now)
