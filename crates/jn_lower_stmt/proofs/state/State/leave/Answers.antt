use Rattle.std.proofs.Common.{ap, ◌∙◌}
use Rattle.jn_lowering.specs.Scopes.{Scope}
use Rattle.jn_lowering.specs.Locals.{State}
use Rattle.jn_lower_stmt.specs.Views.{with_names}
use Rattle.jn_lower_stmt.proofs.state.State.leave.Goals as goal

pub returns : goal.returns
returns c =
    ap (λ (s : Scope). record { scope = s; locals = c.self.inside.locals.items; temporaries = c.self.inside.temporaries }) c.truncate.ensures
    ∙ ap (λ (st : State). with_names st c.args.names) c.self.view_is
