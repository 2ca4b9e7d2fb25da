use Rattle.std.proofs.Common.{subst}
use Rattle.jn_places.specs.PlacedView.{placed_local}
use Rattle.jn_lowering.specs.Locals.{State}
use Rattle.jn_lowering.specs.Statements.{declaration, fresh}
use Rattle.jn_lower_stmt.specs.Stating.{StepsOn}
use Rattle.jn_lower_stmt.proofs.Stepping.{declared_done}
use Rattle.jn_lower_stmt.proofs.pieces.local.Goals as goal

pub returns : goal.returns
returns c =
    declared_done (declaration c.args.c.now.program.now c.args.c.now.class.0 c.args.c.now.first (fresh c.args.s.now) (placed_local c.args.tree.now)) c.args.s.now c.declaration.new.s c.keep.new.self c.begin-outer.result.held c.args.e.now c.declaration.new.e
    (subst (λ (st : State). StepsOn (declaration c.args.c.now.program.now c.args.c.now.class.0 c.args.c.now.first st (placed_local c.args.tree.now)) c.args.e.now c.declaration.new.e c.declaration.new.s) c.begin-outer.ensures.begun c.in_ok-declaration.ensures)
    c.begin-outer.ensures.held c.keep.ensures
