use Rattle.std.proofs.Common.{subst}
use Rattle.jn_places.specs.PlacedView.{placed_optional}
use Rattle.jn_lowering.specs.Locals.{State}
use Rattle.jn_lowering.specs.Statements.{fresh, returned}
use Rattle.jn_lower_stmt.specs.Stating.{StepsOn}
use Rattle.jn_lower_stmt.proofs.Stepping.{put_back, returned_extends, simply_done}
use Rattle.jn_lower_stmt.proofs.pieces.returns.Goals as goal

pub returns : goal.returns
returns c =
    simply_done (returned c.args.c.now.program.now c.args.c.now.class.0 c.args.c.now.first c.args.span (fresh c.args.s.now) (placed_optional c.args.value.now)) c.args.s.now c.returned.new.s c.end.new.self c.args.e.now c.returned.new.e
    (subst (λ (st : State). StepsOn (returned c.args.c.now.program.now c.args.c.now.class.0 c.args.c.now.first c.args.span st (placed_optional c.args.value.now)) c.args.e.now c.returned.new.e c.returned.new.s) c.begin-outer.ensures.begun c.in_ok-returned.ensures)
    (returned_extends c.args.c.now.program.now c.args.c.now.class.0 c.args.c.now.first c.args.span (fresh c.args.s.now) (placed_optional c.args.value.now)) (put_back c.args.s.now c.returned.new.s c.end.new.self c.begin-outer.result.names c.begin-outer.result.held c.begin-outer.ensures.names c.begin-outer.ensures.held c.end.ensures)
