use Rattle.std.proofs.Common.{ℕ, List, subst}
use Rattle.jn_points.specs.declared.program.Program.{Program}
use Rattle.jn_quals.specs.Qualifier.{Qualifier}
use Rattle.jn_transfer.specs.Least.{IsLeastTable}
use Rattle.jn_system.proofs.Outputs.{least_sent}
use Rattle.jn_system.proofs.tasks.body_contrib.Goals as goal

pub returns : goal.returns
returns c =
    let P = c.args.program.now in
    let b = c.args.body.0 in
    let s = c.args.sig.now in
    let t = c.in_ok-table.table in
    let a = c.new-analysis.result in
    let is = c.new-analysis.ensures in
    let least : IsLeastTable P s b t = subst (λ (p : Program). IsLeastTable p s b t) is.program (subst (λ (q : List Qualifier). IsLeastTable a.program q b t) is.sig (subst (λ (n : ℕ). IsLeastTable a.program a.sig n t) is.body c.in_ok-table.ensures)) in
    least_sent P b s t c.in_ok-sends.sends.items c.requires.ready.inferable c.requires.inside least c.in_ok-sends.ensures
