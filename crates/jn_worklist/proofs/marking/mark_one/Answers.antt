use Rattle.std.proofs.Common.{◌<◌, length, length-set, ◌∙◌, arith}
use Rattle.jn_worklist.proofs.RunSteps.{marks_on}
use Rattle.jn_worklist.proofs.marking.mark_one.Goals as goal

pub returns-then-bits-ne0-clause-marking : goal.returns-then-bits-ne0-clause-marking
returns-then-bits-ne0-clause-marking g c =
    let inside : c.args.dirty < length c.args.due.now = let p = c.requires.inside in let q = c.requires.marking.count in omega arith in
    record {
      own = c.mark.ensures.own;
      count = length-set c.args.due.now c.args.dirty 0 ∙ c.requires.marking.count;
      marking = marks_on g.C.Constraints.describe (g.C.Constraints.describe c.args.task.now.table.now.counted.system) c.args.task.now.body.0 c.args.pass.now.seat.me.0 c.args.pass.now.seat.me.0 c.mark.new.pass.seat.me.0 c.args.dirty c.args.due.now c.requires.marking.marking inside c.mark.ensures.view;
    }
