use Rattle.std.proofs.Common.{subst}
use Rattle.jn_lsp_solved.specs.Solving.{AreSolvedOr}
use Rattle.jn_lsp_actions.proofs.Offering.{of_refused}
use Rattle.jn_lsp_actions.proofs.files.actions_for.Goals as goal

pub returns-in-None : goal.returns-in-None
returns-in-None g c =
    let a = c.args in
    let refused = subst (AreSolvedOr a.infer a.encoding a.files.now) c.in-None.is c.in_ok-find_solved.ensures in
    of_refused a.infer a.encoding a.files.now a.name.now a.range refused.0 c.new.result refused.1 c.new.ensures
