-- The statements of a block in a Vec.
use Rattle.std.proofs.Common.{◌≡◌, ℕ, List, [], ◌∷◌, Vec, Global, refl, ap, ◌∙◌}
use Rattle.std.specs.Prelude.{Result, Ok, Err, IfOk}
use Rattle.std.specs.Global.{Box}
use Rattle.jn_base.specs.declared.place.Span.{Span}
use Rattle.jn_base.specs.declared.refusal.OutOfMemory.{OutOfMemory}
use Rattle.jn_trees.specs.declared.statement.Stmt.{Stmt, Row_of-Stmt, end_of-Stmt, more_of-Stmt, items-the_row-Stmt}
use Rattle.jn_trees.specs.declared.statement.Stmt.TheBlock.{hidden-the_row-Stmt-0, items_hidden-the_row-Stmt-0}
use Rattle.jn_trees.specs.declared.statement.Stmt.TheVariants.{Block}
use Rattle.jn_trees.specs.Trees.{Statements, BlockStatement, MoreStatements}
use Rattle.jn_trees.specs.View.{statement_view, statement_row, statement_views}

row_views : (n : _) (k : Row_of-Stmt n) → statement_row k ≡ statement_views (items-the_row-Stmt n k)
row_views n end_of-Stmt = refl
row_views n (more_of-Stmt s rest) = ap (λ r. MoreStatements (statement_view s) r) (row_views _ rest)

pub view_block : (v : Vec Stmt Global) (s : Span) → statement_view (Block v s) ≡ BlockStatement (statement_views v.items)
view_block v s = ap (λ ss. BlockStatement ss) (row_views _ (hidden-the_row-Stmt-0 v) ∙ ap statement_views (items_hidden-the_row-Stmt-0 v))

pub boxed_block : (r : Result (Box Stmt) OutOfMemory) (v : Vec Stmt Global) (s : Span) → IfOk r (λ b. b.value ≡ Block v s) → IfOk r (λ b. statement_view b.value ≡ BlockStatement (statement_views v.items))
boxed_block (Ok b) v s h = ap statement_view h ∙ view_block v s
boxed_block (Err e) v s h = tt
