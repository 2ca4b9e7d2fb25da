use Rattle.std.proofs.Common.{drop}
use Rattle.jn_lowering.specs.Locals.{State}
use Rattle.jn_lowering.specs.Statements.{effects}
use Rattle.jn_places.specs.PlacedView.{placed_views}
use Rattle.jn_lower_expr.specs.declared.emitter.Emitter.{Emitter}
use Rattle.jn_lower_stmt.specs.Stating.{StepsOn}
use Rattle.jn_lower_stmt.proofs.pieces.effects.Given as goal

abbrev pub invariant-loop-tree : goal.invariant-loop-tree
invariant-loop-tree l = (g : Emitter) (u : State) → StepsOn (effects l.c.program.now l.c.class.0 l.c.first l.s (placed_views (drop l.tree-index l.trees))) l.e g u → StepsOn (effects l.c.program.now l.c.class.0 l.c.first l.fn.s (placed_views l.trees)) l.fn.e g u
