use Rattle.std.proofs.Common.{arith, refl}
use Rattle.jn_lower_rows.proofs.Declaring.{new_faults, type_walks}
use Rattle.jn_lower_rows.proofs.standing.declare_type.Goals as goal

pub returns-clause-walks : goal.returns-clause-walks
returns-clause-walks c = type_walks c.args.place.now.program.now c.args.names.now _ c.args.type_use.now c.args.notes.now _ _ _ c.requires.kept c.in_ok-type_rows.ensures c.in_ok-unknown_rows.ensures refl c.in_ok-faults.ensures.0

pub returns-clause-faults : goal.returns-clause-faults
returns-clause-faults c = (new_faults c.args.place.now.program.now c.args.names.now.faults.items _ _ c.in_ok-faults.faults c.in_ok-faults.ensures.0 c.in_ok-faults.ensures.1 c.in_ok-faults.ensures.2, omega (c.in_ok-faults.ensures.2, arith))
