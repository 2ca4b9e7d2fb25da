use Rattle.std.proofs.Common.{drop}
use Rattle.jn_lowering.specs.Bodies as spec
use Rattle.jn_lowering.specs.Locals.{State}
use Rattle.jn_places.specs.PlacedView.{placed_members}
use Rattle.jn_lower_expr.specs.declared.emitter.Emitter.{Emitter}
use Rattle.jn_lower_stmt.specs.Stating.{StepsOn}
use Rattle.jn_lower_stmt.proofs.construction.initializers.Given as goal

abbrev pub invariant-loop-tree : goal.invariant-loop-tree
invariant-loop-tree l = (g : Emitter) (u : State) → StepsOn (spec.initializers l.c.program.now l.method.0 l.c.first l.s (placed_members (drop l.tree-index l.trees))) l.e g u → StepsOn (spec.initializers l.c.program.now l.method.0 l.c.first l.fn.s (placed_members l.trees)) l.fn.e g u
