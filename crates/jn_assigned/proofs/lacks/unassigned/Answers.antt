use Rattle.std.proofs.Common.{sym, subst}
use Rattle.jn_dataflow.specs.Solution.{Solves}
use Rattle.jn_assigned.specs.Lacking.{lacking, TellsLacking}
use Rattle.jn_assigned.proofs.Paths.{solution_tells}
use Rattle.jn_assigned.proofs.lacks.unassigned.Goals as goal

pub returns : goal.returns
returns c =
    let P = c.args.program.now in
    let b = c.args.body in
    let t = c.in_ok-slots.slots in
    let of_body : Solves (lacking P c.new-analysis.result.body) t = subst (λ Q. Solves (lacking Q c.new-analysis.result.body) t) c.new-analysis.ensures.program c.in_ok-slots.ensures in
    let solved : Solves (lacking P b) t = subst (λ k. Solves (lacking P k) t) c.new-analysis.ensures.body of_body in
    subst (λ u. TellsLacking P b u) (sym c.into_vec.ensures) (solution_tells P b t solved)
