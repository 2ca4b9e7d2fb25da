use Rattle.std.proofs.Common.{ap, ◌∙◌, sym, List}
use Rattle.jn_trees.specs.declared.statement.Stmt.{Stmt}
use Rattle.jn_places.specs.PlacedView.{placed_statement, placed_statements}
use Rattle.jn_places.proofs.Rows.{statements_placed}
use Rattle.jn_lowering.specs.Locals as spec
use Rattle.jn_lower_stmt.proofs.registers.+declared.Goals as goal

pub declared-returns-in_ok-all-in-Block : goal.declared-returns-in_ok-all-in-Block
declared-returns-in_ok-all-in-Block t c =
    c.in_ok-all-in-Block.ensures
    ∙ ap (λ (xs : List Stmt). spec.all_declared (placed_statements xs)) c.deref.ensures.value
    ∙ ap spec.all_declared (sym (statements_placed c.in-Block.statements))
    ∙ ap (λ (x : Stmt). spec.declared (placed_statement x)) (sym c.in-Block.is)
