use Rattle.std.proofs.Common.{drop}
use Rattle.jn_lowering.specs.Locals.{State}
use Rattle.jn_places.specs.PlacedView.{placed_statements}
use Rattle.jn_lower_expr.specs.declared.emitter.Emitter.{Emitter}
use Rattle.jn_lower_stmt.specs.Stating.{Steps, all_stated}
use Rattle.jn_lower_stmt.proofs.forms.+statements.Given as goal

abbrev pub invariant-statements-loop-tree : goal.invariant-statements-loop-tree
invariant-statements-loop-tree l = (g : Emitter) (u : State) → Steps (all_stated l.c l.s (placed_statements (drop l.tree-index l.trees))) l.ways.out.0 l.ways.again.0 l.e g u → Steps (all_stated l.c l.fn.s (placed_statements l.trees)) l.ways.out.0 l.ways.again.0 l.fn.e g u
