use Rattle.std.proofs.Common.{None, refl}
use Rattle.jn_lower_rows.proofs.Declaring.{declare_walks}
use Rattle.jn_lower_rows.proofs.standing.declare.Goals as goal

pub returns-clause-walks : goal.returns-clause-walks
returns-clause-walks c = declare_walks c.args.place.now.program.now c.args.names.now c.add.new.names _ c.args.name c.args.base c.args.fixed c.args.faults _ _ _ _ c.requires.kept c.requires.within c.in_ok-name_row.ensures c.is_known-known.ensures c.in_ok-push_if.ensures c.in_ok-add.ensures.0 c.in_ok-add.ensures.1 refl

pub returns-clause-kept : goal.returns-clause-kept
returns-clause-kept c = (declare_walks c.args.place.now.program.now c.args.names.now c.add.new.names _ c.args.name c.args.base c.args.fixed c.args.faults _ _ _ _ c.requires.kept c.requires.within c.in_ok-name_row.ensures c.is_known-known.ensures c.in_ok-push_if.ensures c.in_ok-add.ensures.0 c.in_ok-add.ensures.1 refl None).kept
