use Rattle.jn_tables_law.proofs.Climbing.{sized_at}
use Rattle.jn_voided.proofs.course.passed_at.Goals as goal

pub reached-requires-clause-sized : goal.reached-requires-clause-sized
reached-requires-clause-sized c =
    sized_at c.args.analysis.now.program c.args.analysis.now.body c.args.slots.now c.args.at c.in-Some.env.now c.requires.sized c.in-Some.ensures
