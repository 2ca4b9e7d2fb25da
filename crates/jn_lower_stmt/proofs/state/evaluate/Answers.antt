use Rattle.std.proofs.Common.{subst}
use Rattle.jn_lowering.specs.Locals.{State}
use Rattle.jn_places.specs.PlacedView.{placed_view}
use Rattle.jn_lower_stmt.specs.Stating.{GivesIn, valued}
use Rattle.jn_lower_stmt.proofs.Within.{given_in}
use Rattle.jn_lower_stmt.proofs.state.evaluate.Goals as goal

pub returns : goal.returns
returns c =
    subst (λ (st : State). GivesIn (valued c.args.c.now st (placed_view c.args.tree.now)) st c.args.e.now c.in_ok-given.given.operand c.value.new.e (record { scope = c.s.inside.names; locals = c.s.inside.locals.items; temporaries = c.value.new.t })) c.s.view_is
    (given_in c.in_scope.result c.args.c.now _ (placed_view c.args.tree.now) c.args.e.now c.value.new.e c.in_ok-given.given.operand c.value.new.t
    (record { program = c.in_scope.ensures.program; class = c.in_scope.ensures.class; first = c.in_scope.ensures.first; scope = c.in_scope.ensures.scope }) c.in_ok-given.ensures.gives)
