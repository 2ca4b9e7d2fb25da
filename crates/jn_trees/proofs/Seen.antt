-- The view of each form of expression and statement that has a list of others, and of what a loop over a list has left.
use Rattle.std.proofs.Common.{◌≡◌, ℕ, ◌+◌, ◌<◌, ◌≤◌, List, length, drop, get_or, Box, Vec, Global, refl, sym, ap, ◌∙◌}
use Rattle.std.proofs.lemmas.List.{drop_more}
use Rattle.std.proofs.Math.ListN.{drop_of_length-le}
use Rattle.jn_base.specs.declared.place.Span.{Span}
use Rattle.jn_trees.specs.declared.expression.Identifier.{Identifier}
use Rattle.jn_trees.specs.declared.expression.ElementType.{ElementType}
use Rattle.jn_trees.specs.declared.expression.Expr.{Expr, Row_of-Expr, end_of-Expr, more_of-Expr, items-the_row-Expr}
use Rattle.jn_trees.specs.declared.expression.Expr.TheBlock.{hidden-the_row-Expr-0, items_hidden-the_row-Expr-0}
use Rattle.jn_trees.specs.declared.expression.Expr.TheVariants.{Call, OwnCall, SuperCall, New, ArrayOf}
use Rattle.jn_trees.specs.declared.statement.Stmt.{Stmt, Row_of-Stmt, end_of-Stmt, more_of-Stmt, items-the_row-Stmt}
use Rattle.jn_trees.specs.declared.statement.Stmt.TheBlock.{hidden-the_row-Stmt-0, items_hidden-the_row-Stmt-0}
use Rattle.jn_trees.specs.declared.statement.Stmt.TheVariants.{Block}
use Rattle.jn_trees.specs.Trees.{BlockStatement, NoStatements, MoreStatements, NoTrees, MoreTrees, CallTree, OwnCallTree, SuperCallTree, NewTree, ArrayOfTree}
use Rattle.jn_trees.specs.View.{view, view_row, views, annotation_names, base_view, statement_view, statement_row, statement_views}

row_views : (n : _) (k : Row_of-Expr n) → view_row k ≡ views (items-the_row-Expr n k)
row_views n end_of-Expr = refl
row_views n (more_of-Expr e rest) = ap (λ r. MoreTrees (view e) r) (row_views _ rest)

vec_views : (v : Vec Expr Global) → view_row (hidden-the_row-Expr-0 v) ≡ views v.items
vec_views v = row_views _ (hidden-the_row-Expr-0 v) ∙ ap views (items_hidden-the_row-Expr-0 v)

pub seen_call : (e : Expr) (p : Box Expr Global) (n : Identifier) (v : Vec Expr Global) (s : Span) (es : List Expr) → e ≡ Call p n v s → es ≡ v.items → view e ≡ CallTree (view p.value) n.name (views es)
seen_call e p n v s es is b = ap view is ∙ ap (λ ts. CallTree (view p.value) n.name ts) (vec_views v ∙ ap views (sym b))

pub seen_own_call : (e : Expr) (n : Identifier) (v : Vec Expr Global) (s : Span) (es : List Expr) → e ≡ OwnCall n v s → es ≡ v.items → view e ≡ OwnCallTree n.name (views es)
seen_own_call e n v s es is b = ap view is ∙ ap (λ ts. OwnCallTree n.name ts) (vec_views v ∙ ap views (sym b))

pub seen_super_call : (e : Expr) (n : Identifier) (v : Vec Expr Global) (s : Span) (es : List Expr) → e ≡ SuperCall n v s → es ≡ v.items → view e ≡ SuperCallTree n.name (views es)
seen_super_call e n v s es is b = ap view is ∙ ap (λ ts. SuperCallTree n.name ts) (vec_views v ∙ ap views (sym b))

pub seen_new : (e : Expr) (n : Identifier) (v : Vec Expr Global) (s : Span) (es : List Expr) → e ≡ New n v s → es ≡ v.items → view e ≡ NewTree n.name (views es)
seen_new e n v s es is b = ap view is ∙ ap (λ ts. NewTree n.name ts) (vec_views v ∙ ap views (sym b))

pub seen_array_of : (e : Expr) (t : Box ElementType Global) (v : Vec Expr Global) (s : Span) (es : List Expr) → e ≡ ArrayOf t v s → es ≡ v.items → view e ≡ ArrayOfTree (annotation_names t.value.annotations.items) (base_view t.value.base) (views es)
seen_array_of e t v s es is q = ap view is ∙ ap (λ ts. ArrayOfTree (annotation_names t.value.annotations.items) (base_view t.value.base) ts) (vec_views v ∙ ap views (sym q))

statement_row_views : (n : _) (k : Row_of-Stmt n) → statement_row k ≡ statement_views (items-the_row-Stmt n k)
statement_row_views n end_of-Stmt = refl
statement_row_views n (more_of-Stmt s rest) = ap (λ r. MoreStatements (statement_view s) r) (statement_row_views _ rest)

pub seen_block : (s : Stmt) (v : Vec Stmt Global) (place : Span) (ss : List Stmt) → s ≡ Block v place → ss ≡ v.items → statement_view s ≡ BlockStatement (statement_views ss)
seen_block s v place ss is b =
    ap statement_view is ∙ ap BlockStatement (statement_row_views _ (hidden-the_row-Stmt-0 v) ∙ ap statement_views (items_hidden-the_row-Stmt-0 v ∙ sym b))

-- what is left before a step of a loop
pub left_before : (es : List Expr) (i : ℕ) (e : Expr) → i < length es → e ≡ get_or es i e → views (drop i es) ≡ MoreTrees (view e) (views (drop (i + 1) es))
left_before es i e lt is = ap views (drop_more es i e lt) ∙ ap (λ x. MoreTrees (view x) (views (drop (i + 1) es))) (sym is)

-- and at its end
pub none_left : (es : List Expr) (i : ℕ) → length es ≤ i → views (drop i es) ≡ NoTrees
none_left es i le = ap views (drop_of_length-le es le)

pub statements_before : (ss : List Stmt) (i : ℕ) (s : Stmt) → i < length ss → s ≡ get_or ss i s → statement_views (drop i ss) ≡ MoreStatements (statement_view s) (statement_views (drop (i + 1) ss))
statements_before ss i s lt is = ap statement_views (drop_more ss i s lt) ∙ ap (λ x. MoreStatements (statement_view x) (statement_views (drop (i + 1) ss))) (sym is)

pub no_statements : (ss : List Stmt) (i : ℕ) → length ss ≤ i → statement_views (drop i ss) ≡ NoStatements
no_statements ss i le = ap statement_views (drop_of_length-le ss le)
