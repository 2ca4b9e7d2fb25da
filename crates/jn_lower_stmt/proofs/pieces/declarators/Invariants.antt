use Rattle.std.proofs.Common.{drop}
use Rattle.jn_lowering.specs.Locals.{State}
use Rattle.jn_lowering.specs.Statements.{declarators}
use Rattle.jn_places.specs.PlacedView.{placed_declarators}
use Rattle.jn_scopes.specs.Views.{bound_of}
use Rattle.jn_lower_stmt.specs.Views.{rows_of}
use Rattle.jn_lower_expr.specs.declared.emitter.Emitter.{Emitter}
use Rattle.jn_lower_stmt.specs.Stating.{StepsOn}
use Rattle.jn_lower_stmt.proofs.pieces.declarators.Given as goal

abbrev pub invariant-loop-tree : goal.invariant-loop-tree
invariant-loop-tree l = (g : Emitter) (u : State) →
    StepsOn (declarators l.c.program.now l.c.class.0 l.c.first l.kind.base (bound_of l.kind.bound) l.is_final (rows_of l.kind.fault) l.s (placed_declarators (drop l.tree-index l.trees))) l.e g u →
    StepsOn (declarators l.c.program.now l.c.class.0 l.c.first l.kind.base (bound_of l.kind.bound) l.is_final (rows_of l.kind.fault) l.fn.s (placed_declarators l.trees)) l.fn.e g u
