use Rattle.std.proofs.Common.{ℕ, get_or, refl, arith}
use Rattle.jn_base.specs.declared.number.WordNo.{WordNo}
use Rattle.jn_sigtable.specs.Machine.{dirty_words}
use Rattle.jn_worklist.proofs.DueBy.{due_by_less}
use Rattle.jn_worklist.proofs.PlanFacts.{plan_length, readers_fit}
use Rattle.jn_worklist.proofs.marking.mark_output.Goals as goal

pub readers-requires : goal.readers-requires
readers-requires g c =
    let n = plan_length (g.C.Constraints.describe c.args.task.now.table.now.counted.system) c.args.task.now.plan.now c.args.task.now.planned in
    let q = c.requires.named in omega arith

pub mark_readers-requires-clause-room : goal.mark_readers-requires-clause-room
mark_readers-requires-clause-room g c =
    let sys = g.C.Constraints.describe c.args.task.now.table.now.counted.system in
    let o : WordNo × ℕ = get_or c.args.output.now c.args.at (record { 0 = 0 }, 0) in
    readers_fit sys c.args.task.now.plan.now c.args.task.now.planned o.0.0 c.requires.named c.readers.result.now c.readers.ensures (dirty_words sys) refl

pub returns-then-new-at-clause-from : goal.returns-then-new-at-clause-from
returns-then-new-at-clause-from g c =
    due_by_less c.args.task.now.plan.now c.args.output.now c.args.new.now c.args.due.now c.mark_readers.new.due c.args.at c.readers.result.now c.readers.ensures c.mark_readers.ensures.left c.requires.from
