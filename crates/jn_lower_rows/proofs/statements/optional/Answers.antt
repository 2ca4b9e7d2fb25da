use Rattle.jn_lower_rows.specs.Views.{setting_of}
use Rattle.jn_lower_rows.proofs.Stepping.{none_walks, optional_walks}
use Rattle.jn_lower_rows.proofs.statements.optional.Goals as goal

pub returns-in-None : goal.returns-in-None
returns-in-None c = none_walks c.args.place.now.program.now c.args.place.now.class.0 (setting_of c.args.place.now.at) c.args.tree.now c.args.names.now c.args.rows.now c.in-None.is c.requires.kept

pub returns-in_ok-look-in-Some : goal.returns-in_ok-look-in-Some
returns-in_ok-look-in-Some c = optional_walks c.args.place.now.program.now c.args.place.now.class.0 (setting_of c.args.place.now.at) c.in-Some.given _ c.args.tree.now c.args.names.now _ _ c.in-Some.is c.deref.ensures c.requires.kept c.in_ok-look-in-Some.ensures.1
