use Rattle.jn_lower_rows.specs.Views.{setting_of}
use Rattle.jn_lower_rows.proofs.Stepping.{init_effects, init_local}
use Rattle.jn_lower_rows.proofs.statements.init.Goals as goal

pub returns-in_ok-look_all-in-Expressions : goal.returns-in_ok-look_all-in-Expressions
returns-in_ok-look_all-in-Expressions c = init_effects c.args.place.now.program.now c.args.place.now.class.0 (setting_of c.args.place.now.at) _ c.in-Expressions.trees _ c.args.names.now _ _ c.in-Expressions.is c.deref.ensures.value c.requires.kept c.in_ok-look_all-in-Expressions.ensures

pub returns-in_ok-declaration-in-Declaration : goal.returns-in_ok-declaration-in-Declaration
returns-in_ok-declaration-in-Declaration c = init_local c.args.place.now.program.now c.args.place.now.class.0 (setting_of c.args.place.now.at) _ c.in-Declaration.local _ c.args.names.now _ _ _ c.in-Declaration.is c.deref-in-Declaration.ensures c.in_ok-declaration-in-Declaration.ensures
