use Rattle.jn_lower_rows.specs.Views.{setting_of}
use Rattle.jn_lower_rows.proofs.Stepping.{name_walks}
use Rattle.jn_lower_rows.proofs.statements.declarator.Goals as goal

pub optional-requires : goal.optional-requires
optional-requires c = record { kept = c.in_ok-declare.ensures.kept }

pub returns-clause-walks : goal.returns-clause-walks
returns-clause-walks c = λ b. name_walks c.args.place.now.program.now c.args.place.now.class.0 (setting_of c.args.place.now.at) c.args.base c.args.is_final _ b c.args.declared.now _ c.args.names.now c.declare.new.names _ _ _ c.is_fixed-fixed.ensures (c.in_ok-declare.ensures.walks b) c.in_ok-optional.ensures

pub returns-clause-kept : goal.returns-clause-kept
returns-clause-kept c = c.in_ok-optional.ensures.kept
