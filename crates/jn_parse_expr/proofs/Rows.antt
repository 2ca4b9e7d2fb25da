-- The trees of expressions in a Vec.
use Rattle.std.proofs.Common.{◌≡◌, Vec, Global, refl, ap, ◌∙◌}
use Rattle.jn_trees.specs.declared.expression.Expr.{Expr, Row_of-Expr, end_of-Expr, more_of-Expr, items-the_row-Expr}
use Rattle.jn_trees.specs.declared.expression.Expr.TheBlock.{hidden-the_row-Expr-0, items_hidden-the_row-Expr-0}
use Rattle.jn_trees.specs.Trees.{MoreTrees}
use Rattle.jn_trees.specs.View.{view, view_row, views}

row_views : (n : _) (k : Row_of-Expr n) → view_row k ≡ views (items-the_row-Expr n k)
row_views n end_of-Expr = refl
row_views n (more_of-Expr s rest) = ap (λ r. MoreTrees (view s) r) (row_views _ rest)

-- the expressions of a list, whatever they lie in memory
pub row_all : (v : Vec Expr Global) → view_row (hidden-the_row-Expr-0 v) ≡ views v.items
row_all v = row_views _ (hidden-the_row-Expr-0 v) ∙ ap views (items_hidden-the_row-Expr-0 v)
