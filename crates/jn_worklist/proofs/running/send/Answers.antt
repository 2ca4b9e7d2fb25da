use Rattle.std.proofs.Common.{ℕ, get_or, subst, ◌≡◌}
use mathlib.Core.Option.{some}
use lib.ListN.{get_elem?}
use Rattle.jn_base.specs.declared.number.WordNo.{WordNo}
use Rattle.jn_sigtable.specs.Words.{system_of}
use Rattle.jn_worklist.proofs.PlanFacts.{entry_at}
use Rattle.jn_worklist.proofs.running.send.Goals as goal

pub mark_due-requires-clause-named : goal.mark_due-requires-clause-named
mark_due-requires-clause-named g c i less =
    let os = c.args.output.now in
    let o : WordNo × ℕ = get_or os i (record { 0 = 0 }, 0) in
    (g.met.C.Constraints.laws (system_of c.args.task.now.table.now)).named c.args.task.now.body.0 c.args.values.now c.args.task.now.inside c.requires.count i o
    (subst (λ l. get_elem? l i ≡ some o) c.requires.output (entry_at os i (record { 0 = 0 }, 0) less))
