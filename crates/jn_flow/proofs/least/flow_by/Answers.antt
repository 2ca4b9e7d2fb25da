use Rattle.std.proofs.Common.{◌∙◌, sym, subst}
use Rattle.jn_transfer.specs.Subject.{Subject}
use Rattle.jn_transfer.specs.Least.{IsLeastTable}
use Rattle.jn_dataflow.specs.Solution.{Solves}
use Rattle.jn_flow.specs.Quals.{qualifiers}
use Rattle.jn_flow.proofs.Solved.{solved_least}
use Rattle.jn_flow.proofs.least.flow_by.Goals as goal

pub returns : goal.returns
returns c =
    let P = c.args.analysis.now.program in
    let s = c.args.analysis.now.sig in
    let b = c.args.analysis.now.body in
    let t = c.in_ok-table.table in
    let is : Solves (qualifiers P s b) t = subst (λ (a : Subject). Solves (qualifiers a.program a.sig a.body) t) c.new-qualifiers.ensures c.in_ok-table.ensures in
    subst (λ u. IsLeastTable P s b u) (sym (c.of_slots.ensures ∙ c.into_vec.ensures)) (solved_least P s b c.requires.stays t is)
