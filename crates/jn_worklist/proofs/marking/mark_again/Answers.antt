use Rattle.jn_worklist.proofs.RunEnds.{may_mark_own, marked_again, given_back}
use Rattle.jn_worklist.proofs.marking.mark_again.Goals as goal

pub mark-requires-clause-due : goal.mark-requires-clause-due
mark-requires-clause-due g c = may_mark_own g.C.Constraints.describe c.args.pass.now.seat.me.0 c.args.task.now.body.0 c.requires.runs

pub returns-clause-idle : goal.returns-clause-idle
returns-clause-idle g c = marked_again g.C.Constraints.describe c.args.pass.now.seat.me.0 c.mark.new.pass.seat.me.0 c.args.task.now.body.0 c.requires.runs c.requires.owed c.mark.ensures.view (g.C.Constraints.describe c.args.task.now.table.now.counted.system)

pub returns-clause-back : goal.returns-clause-back
returns-clause-back g c = given_back g.C.Constraints.describe c.args.pass.now.seat.me.0 c.mark.new.pass.seat.me.0 c.args.task.now.body.0 c.requires.runs c.requires.owed c.mark.ensures.view
