use Rattle.jn_lowering.specs.Statements.{each_tested}
use Rattle.jn_lower_stmt.proofs.Looping.{tested_at}
use Rattle.jn_lower_stmt.proofs.each.goes_on.Goals as goal

pub returns : goal.returns
returns c =
    tested_at (each_tested c.args.c.now.program.now c.args.c.now.class.0 c.args.c.now.first c.args.at c.args.array.0 c.args.s.now.temporaries) c.in_ok-below.below c.args.s.now c.is_below.new.s c.args.yes.0 c.args.no.0 c.args.e.now c.is_below.new.e c.branch-e.new.e c.in_ok-below.ensures c.in_ok-branch.ensures
