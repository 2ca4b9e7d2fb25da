use Rattle.std.proofs.Common.{◌≤◌, length, arith}
use Rattle.jn_worklist.specs.Plans.{IsNoneDue}
use Rattle.jn_worklist.proofs.DueBy.{all_marked}
use Rattle.jn_worklist.proofs.RunSteps.{marks_rest}
use Rattle.jn_worklist.proofs.marking.mark_due.Goals as goal

pub returns-clause-idle : goal.returns-clause-idle
returns-clause-idle g c =
    let d = g.C.Constraints.describe in
    let past : length c.args.new.now ≤ c.loop-at.at = let lo = c.loop-at-test.false in let hi = c.loop-at.auto.at-end in let f = c.requires.flags in omega arith in
    let none : IsNoneDue c.loop-at.due = all_marked c.args.task.now.plan.now c.args.output.now c.args.new.now c.loop-at.due c.loop-at.at past c.loop-at.invariant.from in
    marks_rest d (d c.args.task.now.table.now.counted.system) c.args.task.now.body.0 c.args.pass.now.seat.me.0 c.loop-at.pass.seat.me.0 c.loop-at.due c.loop-at.invariant.marking.marking none
