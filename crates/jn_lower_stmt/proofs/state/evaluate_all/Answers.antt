use Rattle.std.proofs.Common.{subst}
use Rattle.jn_lowering.specs.Locals.{State}
use Rattle.jn_places.specs.PlacedView.{placed_views}
use Rattle.jn_lower_stmt.specs.Stating.{GivesAllIn, all_valued}
use Rattle.jn_lower_stmt.proofs.Within.{all_given_in}
use Rattle.jn_lower_stmt.proofs.state.evaluate_all.Goals as goal

pub returns : goal.returns
returns c =
    subst (λ (st : State). GivesAllIn (all_valued c.args.c.now st (placed_views c.args.trees.now)) st c.args.e.now c.in_ok-given.given c.operands.new.e (record { scope = c.s.inside.names; locals = c.s.inside.locals.items; temporaries = c.operands.new.t })) c.s.view_is
    (all_given_in c.in_scope.result c.args.c.now _ (placed_views c.args.trees.now) c.args.e.now c.operands.new.e c.in_ok-given.given c.operands.new.t
    (record { program = c.in_scope.ensures.program; class = c.in_scope.ensures.class; first = c.in_scope.ensures.first; scope = c.in_scope.ensures.scope }) c.in_ok-given.ensures)
