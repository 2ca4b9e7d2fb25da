use Rattle.std.proofs.Common.{refl, subst}
use Rattle.jn_places.specs.PlacedView.{placed_view}
use Rattle.jn_lowering.specs.Locals.{State}
use Rattle.jn_lowering.specs.Statements.{fresh, with_value}
use Rattle.jn_lower_stmt.specs.Stating.{GivesIn, valued}
use Rattle.jn_lower_stmt.proofs.Piecing.{value_done}
use Rattle.jn_lower_stmt.proofs.Stepping.{put_back, simply_done}
use Rattle.jn_lower_stmt.proofs.pieces.evaluated.Goals as goal

pub returns : goal.returns
returns c =
    simply_done (with_value (fresh c.args.s.now) (valued c.args.c.now (fresh c.args.s.now) (placed_view c.args.tree.now))) c.args.s.now c.evaluate.new.s c.end.new.self c.args.e.now c.evaluate.new.e
    (value_done (valued c.args.c.now (fresh c.args.s.now) (placed_view c.args.tree.now)) (fresh c.args.s.now) c.args.e.now c.evaluate.new.e c.in_ok-evaluate.field-0 c.evaluate.new.s
    (subst (λ (st : State). GivesIn (valued c.args.c.now st (placed_view c.args.tree.now)) st c.args.e.now c.in_ok-evaluate.field-0 c.evaluate.new.e c.evaluate.new.s) c.begin-outer.ensures.begun c.in_ok-evaluate.ensures))
    refl (put_back c.args.s.now c.evaluate.new.s c.end.new.self c.begin-outer.result.names c.begin-outer.result.held c.begin-outer.ensures.names c.begin-outer.ensures.held c.end.ensures)
