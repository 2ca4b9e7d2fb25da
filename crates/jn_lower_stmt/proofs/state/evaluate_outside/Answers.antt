use Rattle.std.proofs.Common.{subst}
use Rattle.jn_lowering.specs.Locals.{State}
use Rattle.jn_places.specs.PlacedView.{placed_view}
use Rattle.jn_lower_stmt.specs.Stating.{GivesIn, valued_outside}
use Rattle.jn_lower_stmt.proofs.Within.{given_outside}
use Rattle.jn_lower_stmt.proofs.state.evaluate_outside.Goals as goal

pub returns : goal.returns
returns c =
    subst (λ (st : State). GivesIn (valued_outside c.args.c.now st (placed_view c.args.tree.now)) st c.args.e.now c.in_ok-given.given.operand c.value.new.e (record { scope = c.s.inside.names; locals = c.s.inside.locals.items; temporaries = c.value.new.t })) c.s.view_is
    (given_outside c.outside.result c.args.c.now _ (placed_view c.args.tree.now) c.args.e.now c.value.new.e c.in_ok-given.given.operand c.value.new.t
    (record { program = c.outside.ensures.program; class = c.outside.ensures.class; first = c.outside.ensures.first; scope = c.outside.ensures.scope }) c.in_ok-given.ensures.gives)
