-- The rows of each statement, of those of its parts.
use Rattle.std.proofs.Common.{◌≡◌, ◌≤◌, ◌<◌, ◌+◌, ◌&&◌, eqb, not, get_or, ℕ, Bool, cond, List, [], ◌∷◌, ◌++◌, length, take, drop, Option, Some, None, Box, Vec, Global, refl, sym, ap, ◌∙◌, subst, append-nil}
use Rattle.std.proofs.lemmas.List.{drop_more}
use Rattle.std.proofs.Math.ListN.{drop_of_length-le}
use Rattle.jn_base.specs.declared.code.Code.TheVariants.{J2}
use Rattle.jn_base.specs.declared.place.Row.{Row}
use Rattle.jn_base.specs.declared.place.Span.{Span}
use Rattle.jn_quals.specs.Qualifier.{Qualifier}
use Rattle.jn_trees.specs.declared.expression.Annotation.{Annotation}
use Rattle.jn_trees.specs.declared.expression.Expr.{Expr}
use Rattle.jn_trees.specs.declared.expression.Identifier.{Identifier}
use Rattle.jn_trees.specs.declared.declaration.Parameter.{Parameter}
use Rattle.jn_trees.specs.declared.statement.Declarator.{Declarator}
use Rattle.jn_trees.specs.declared.statement.ForHead.{ForHead}
use Rattle.jn_trees.specs.declared.statement.ForInit.{ForInit}
use Rattle.jn_trees.specs.declared.statement.ForInit.TheVariants.{Expressions, Declaration}
use Rattle.jn_trees.specs.declared.statement.LocalDeclaration.{LocalDeclaration}
use Rattle.jn_trees.specs.declared.statement.LocalModifier.{LocalModifier}
use Rattle.jn_trees.specs.declared.statement.TypeUse.{TypeUse}
use Rattle.jn_trees.specs.declared.statement.Stmt.{Stmt, Row_of-Stmt, end_of-Stmt, more_of-Stmt, items-the_row-Stmt}
use Rattle.jn_trees.specs.declared.statement.Stmt.TheBlock.{hidden-the_row-Stmt-0, items_hidden-the_row-Stmt-0}
use Rattle.jn_trees.specs.declared.statement.Stmt.TheVariants.{Block, Empty, Expression, Break, Continue, Return, Local, If, IfElse, While, Do, For, ForEach, ThisCall, SuperCall}
use Rattle.jn_points.specs.declared.point.BaseType.{BaseType}
use Rattle.jn_points.specs.declared.point.BaseType.TheVariants.{Int}
use Rattle.jn_points.specs.declared.program.Program.{Program}
use Rattle.jn_points.specs.Lookup.{elem_base, is_array}
use Rattle.jn_places.specs.Placed.{PlacedStatement, PlacedStatements, MorePlacedStatements, PlacedBlock, PlacedFor, PlacedForEach, PlacedTree, PlacedTrees, NoPlacedTrees, MorePlacedTrees, PlacedDeclarator}
use Rattle.jn_places.specs.PlacedView.{placed_declarator, placed_declarators, placed_init, placed_local, placed_optional, placed_statement, placed_statement_row, placed_statements, placed_type_use, placed_view, placed_views}
use Rattle.jn_lowering.specs.Annotations.{base_rows, both_kinds, row, type_rows, unless, when}
use Rattle.jn_lowering.specs.Bases.{type_of, type_of_use}
use Rattle.jn_lowering.specs.ExpressionRows.{Setting, inner_span, rows_of, rows_of_all}
use Rattle.jn_lowering.specs.Locals.{State, annotations_of, bound_of, declares, has_final, has_value, own_annotations, reserves, with_temporaries}
use Rattle.jn_lowering.specs.Statements as lowered
use Rattle.jn_lowering.specs.StatementRows as spec
use Rattle.jn_scopes.specs.Views.{scope_of}
use Rattle.jn_lower_rows.specs.declared.standing.Names.{Names}
use Rattle.jn_lower_rows.specs.Standing.{Walks, WellKept}
use Rattle.jn_lower_rows.specs.Before.{is_clean}
use Rattle.jn_lower_rows.proofs.Adding.{counted, two, unless_clean}
use Rattle.jn_lower_rows.proofs.Walking.{look_all, look_rows, look_type, walk_back, walk_behind, walk_on, walk_stay, walk_then}

row_statements : (n : _) (k : Row_of-Stmt n) → placed_statement_row k ≡ placed_statements (items-the_row-Stmt n k)
row_statements n end_of-Stmt = refl
row_statements n (more_of-Stmt s rest) = ap (λ r. MorePlacedStatements (placed_statement s) r) (row_statements _ rest)

block_views : (v : Vec Stmt Global) → placed_statement_row (hidden-the_row-Stmt-0 v) ≡ placed_statements v.items
block_views v = row_statements _ (hidden-the_row-Stmt-0 v) ∙ ap placed_statements (items_hidden-the_row-Stmt-0 v)

pub seen_block : (e : Stmt) (v : Vec Stmt Global) (s : Span) (ss : List Stmt) → e ≡ Block v s → ss ≡ v.items → placed_statement e ≡ PlacedBlock (placed_statements ss) s
seen_block e v s ss is b = ap placed_statement is ∙ ap (λ x. PlacedBlock x s) (block_views v ∙ ap placed_statements (sym b))

pub seen_for : (e : Stmt) (q : Box ForHead Global) (p : Box Stmt Global) (s : Span) (i : ForInit) (o : Option (Box Expr Global)) (t : Stmt) (es : List Expr) → e ≡ For q p s → i ≡ q.value.init → o ≡ q.value.condition → t ≡ p.value → es ≡ q.value.update.items → placed_statement e ≡ PlacedFor (placed_init i) (placed_optional o) (placed_views es) (placed_statement t) s
seen_for e q p s i o t es is ie oe te ue = ap placed_statement is ∙ cc (ie, oe, te, ue)

pub seen_each : (e : Stmt) (q : Box Parameter Global) (r : Box Expr Global) (p : Box Stmt Global) (s : Span) (ms : List LocalModifier) (u : TypeUse) (n : Identifier) (a : Expr) (t : Stmt) → e ≡ ForEach q r p s → ms ≡ q.value.modifiers.items → u ≡ q.value.type_use → n ≡ q.value.name → a ≡ r.value → t ≡ p.value → placed_statement e ≡ PlacedForEach ms (placed_type_use u) n (placed_view a) (placed_statement t) s
seen_each e q r p s ms u n a t is me ue ne ae te = ap placed_statement is ∙ cc (me, ue, ne, ae, te)

module _ (P : Program) (c : ℕ) (at : Setting) where
  -- a statement, and statements one after the other
  abbrev pub WalksOne : PlacedStatement → Names → Names → List Row → List Row → Type 0
  WalksOne t old new x y = Walks (λ f st. spec.statement_rows P c f at st t) (λ f st. (lowered.statement P c f st t).behind) old new x y

  abbrev pub WalksAll : PlacedStatements → Names → Names → List Row → List Row → Type 0
  WalksAll ts old new x y = Walks (λ f st. spec.all_rows P c f at st ts) (λ f st. (lowered.statements P c f st ts).behind) old new x y

  -- an expression adds its rows
  abbrev pub Adds : Expr → Names → List Row → List Row → Type 0
  Adds e names x y = y ≡ x ++ rows_of P c at (scope_of names.faults.items names.scope) (placed_view e)

  abbrev pub AddsAll : List Expr → Names → List Row → List Row → Type 0
  AddsAll es names x y = y ≡ x ++ rows_of_all P c at (scope_of names.faults.items names.scope) (placed_views es)

  -- back to the names of before
  abbrev pub IsBack : Names → Names → Names → Type 0
  IsBack old new back = (back.scope ≡ take (length old.scope) new.scope) × (back.faults.items ≡ take (length old.faults.items) new.faults.items)

  look_walks : (e : Expr) (m : ℕ → State → State) (names : Names) (x y : List Row) → WellKept names → ((f : ℕ) (st : State) → (m f st).scope ≡ st.scope) → Adds e names x y → Walks (λ f st. spec.rows_in P c f at st (placed_view e)) m names names x y
  look_walks e m names x y k same h = walk_stay (λ f st. spec.rows_in P c f at st (placed_view e)) m names x y k same (λ f st s. h ∙ ap (λ r. x ++ r) (look_rows P c at st names s (placed_view e)))

  pub still_walks : (t : PlacedStatement) (names : Names) (x : List Row) → WellKept names → ((f : ℕ) (st : State) → spec.statement_rows P c f at st t ≡ []) → ((f : ℕ) (st : State) → (lowered.statement P c f st t).behind.scope ≡ st.scope) → WalksOne t names names x x
  still_walks t names x k none same = walk_stay (λ f st. spec.statement_rows P c f at st t) (λ f st. (lowered.statement P c f st t).behind) names x x k same (λ f st s. sym (ap (λ r. x ++ r) (none f st) ∙ append-nil x))

  pub optional_walks : (q : Box Expr Global) (e : Expr) (o : Option (Box Expr Global)) (names : Names) (x y : List Row) → o ≡ Some q → e ≡ q.value → WellKept names → Adds e names x y → Walks (λ f st. spec.optional_rows P c f at st (placed_optional o)) (λ f st. st) names names x y
  optional_walks q e o names x y is ee k h = subst (λ o. Walks (λ f st. spec.optional_rows P c f at st (placed_optional o)) (λ f st. st) names names x y) (sym is) (look_walks q.value (λ f st. st) names x y k (λ f st. refl) (subst (λ e. Adds e names x y) ee h))

  pub none_walks : (o : Option (Box Expr Global)) (names : Names) (x : List Row) → o ≡ None → WellKept names → Walks (λ f st. spec.optional_rows P c f at st (placed_optional o)) (λ f st. st) names names x x
  none_walks o names x is k = subst (λ o. Walks (λ f st. spec.optional_rows P c f at st (placed_optional o)) (λ f st. st) names names x x) (sym is) (walk_stay (λ f st. []) (λ f st. st) names x x k (λ f st. refl) (λ f st s. sym (append-nil x)))

  pub block_walks : (e : Stmt) (v : Vec Stmt Global) (s : Span) (ss : List Stmt) (old new back : Names) (x y : List Row) → e ≡ Block v s → ss ≡ v.items → WellKept old → WalksAll (placed_statements ss) old new x y → IsBack old new back → WalksOne (placed_statement e) old back x y
  block_walks e v s ss old new back x y is b k g h = subst (λ t. WalksOne t old back x y) (sym (seen_block e v s ss is b))
      (walk_back (λ f st. spec.all_rows P c f at st (placed_statements ss)) (λ f st. (lowered.statements P c f st (placed_statements ss)).behind) (λ f st. (lowered.statement P c f st (PlacedBlock (placed_statements ss) s)).behind) old new back x y k (λ f st. refl) g h.0 h.1)

  pub expression_walks : (e : Stmt) (q : Box Expr Global) (a : Expr) (s : Span) (names : Names) (x y : List Row) → e ≡ Expression q s → a ≡ q.value → WellKept names → Adds a names x y → WalksOne (placed_statement e) names names x y
  expression_walks e q a s names x y is ae k h = subst (λ e. WalksOne (placed_statement e) names names x y) (sym is) (look_walks q.value (λ f st. (lowered.statement P c f st (placed_statement (Expression q s))).behind) names x y k (λ f st. refl) (subst (λ a. Adds a names x y) ae h))

  pub return_walks : (e : Stmt) (o : Option (Box Expr Global)) (s : Span) (names : Names) (x y : List Row) → e ≡ Return o s → Walks (λ f st. spec.optional_rows P c f at st (placed_optional o)) (λ f st. st) names names x y → WalksOne (placed_statement e) names names x y
  return_walks e o s names x y is g = subst (λ e. WalksOne (placed_statement e) names names x y) (sym is) (walk_behind (λ f st. spec.optional_rows P c f at st (placed_optional o)) (λ f st. st) (λ f st. (lowered.statement P c f st (placed_statement (Return o s))).behind) names names x y (λ f st. refl) g)

  pub local_walks : (e : Stmt) (q : Box LocalDeclaration Global) (l : LocalDeclaration) (s : Span) (old new : Names) (x y : List Row) → e ≡ Local q s → l ≡ q.value → Walks (λ f st. spec.declaration_rows P c f at st (placed_local l)) (λ f st. (lowered.declaration P c f st (placed_local l)).behind) old new x y → WalksOne (placed_statement e) old new x y
  local_walks e q l s old new x y is le g = subst (λ e. WalksOne (placed_statement e) old new x y) (sym is)
      (walk_behind (λ f st. spec.declaration_rows P c f at (lowered.fresh st) (placed_local q.value)) (λ f st. (lowered.declaration P c f (lowered.fresh st) (placed_local q.value)).behind) (λ f st. (lowered.statement P c f st (placed_statement (Local q s))).behind) old new x y (λ f st. refl)
      (walk_on (λ f st. spec.declaration_rows P c f at st (placed_local q.value)) (λ f st. (lowered.declaration P c f st (placed_local q.value)).behind) (λ f st. lowered.fresh st) old new x y (λ f st. refl) (subst (λ l. Walks (λ f st. spec.declaration_rows P c f at st (placed_local l)) (λ f st. (lowered.declaration P c f st (placed_local l)).behind) old new x y) le g)))

  -- a condition, and a statement after it
  abbrev tested : Expr → ℕ → State → State
  tested q f st = with_temporaries st (lowered.tested_in P c f (lowered.fresh st) (placed_view q)).behind

  guarded : (q : Expr) (t : Stmt) (old new : Names) (x y z : List Row) → WellKept old → Adds q old x y → WalksOne (placed_statement t) old new y z →
      Walks (λ f st. spec.rows_in P c f at st (placed_view q) ++ spec.statement_rows P c f at (tested q f st) (placed_statement t)) (λ f st. (lowered.statement P c f (tested q f st) (placed_statement t)).behind) old new x z
  guarded q t old new x y z k h g = walk_then (λ f st. spec.rows_in P c f at st (placed_view q)) (λ f st. spec.statement_rows P c f at st (placed_statement t)) (tested q) (λ f st. (lowered.statement P c f st (placed_statement t)).behind) old old new x y z (look_walks q (tested q) old x y k (λ f st. refl) h) g

  pub if_walks : (e : Stmt) (q : Box Expr Global) (p : Box Stmt Global) (s : Span) (a : Expr) (t : Stmt) (old new back : Names) (x y z : List Row) → e ≡ If q p s → a ≡ q.value → t ≡ p.value → WellKept old → Adds a old x y → WalksOne (placed_statement t) old new y z → IsBack old new back → WalksOne (placed_statement e) old back x z
  if_walks e q p s a t old new back x y z is ae te k h g b = subst (λ e. WalksOne (placed_statement e) old back x z) (sym is)
      (walk_back _ _ (λ f st. (lowered.statement P c f st (placed_statement (If q p s))).behind) old new back x z k (λ f st. refl) (guarded q.value p.value old new x y z k (subst (λ a. Adds a old x y) ae h) (subst (λ t. WalksOne (placed_statement t) old new y z) te g)) b.0 b.1)

  pub while_walks : (e : Stmt) (q : Box Expr Global) (p : Box Stmt Global) (s : Span) (a : Expr) (t : Stmt) (old new back : Names) (x y z : List Row) → e ≡ While q p s → a ≡ q.value → t ≡ p.value → WellKept old → Adds a old x y → WalksOne (placed_statement t) old new y z → IsBack old new back → WalksOne (placed_statement e) old back x z
  while_walks e q p s a t old new back x y z is ae te k h g b = subst (λ e. WalksOne (placed_statement e) old back x z) (sym is)
      (walk_back _ _ (λ f st. (lowered.statement P c f st (placed_statement (While q p s))).behind) old new back x z k (λ f st. refl) (guarded q.value p.value old new x y z k (subst (λ a. Adds a old x y) ae h) (subst (λ t. WalksOne (placed_statement t) old new y z) te g)) b.0 b.1)

  pub else_walks : (e : Stmt) (q : Box Expr Global) (p r : Box Stmt Global) (s : Span) (a : Expr) (t u : Stmt) (old new last back : Names) (x y z w : List Row) → e ≡ IfElse q p r s → a ≡ q.value → t ≡ p.value → u ≡ r.value → WellKept old → Adds a old x y → WalksOne (placed_statement t) old new y z → WalksOne (placed_statement u) new last z w → IsBack old last back → WalksOne (placed_statement e) old back x w
  else_walks e q p r s a t u old new last back x y z w is ae te ue k h g i b = subst (λ e. WalksOne (placed_statement e) old back x w) (sym is)
      (walk_back _ _ (λ f st. (lowered.statement P c f st (placed_statement (IfElse q p r s))).behind) old last back x w k (λ f st. refl)
      (walk_then (λ f st. spec.rows_in P c f at st (placed_view q.value)) (λ f st. spec.statement_rows P c f at st (placed_statement p.value) ++ spec.statement_rows P c f at (lowered.statement P c f st (placed_statement p.value)).behind (placed_statement r.value)) (tested q.value) (λ f st. (lowered.statement P c f (lowered.statement P c f st (placed_statement p.value)).behind (placed_statement r.value)).behind) old old last x y w
      (look_walks q.value (tested q.value) old x y k (λ f st. refl) (subst (λ a. Adds a old x y) ae h))
      (walk_then (λ f st. spec.statement_rows P c f at st (placed_statement p.value)) (λ f st. spec.statement_rows P c f at st (placed_statement r.value)) (λ f st. (lowered.statement P c f st (placed_statement p.value)).behind) (λ f st. (lowered.statement P c f st (placed_statement r.value)).behind) old new last y z w
      (subst (λ t. WalksOne (placed_statement t) old new y z) te g) (subst (λ t. WalksOne (placed_statement t) new last z w) ue i))) b.0 b.1)

  pub do_walks : (e : Stmt) (q : Box Expr Global) (p : Box Stmt Global) (s : Span) (a : Expr) (t : Stmt) (old new back : Names) (x y z : List Row) → e ≡ Do p q s → a ≡ q.value → t ≡ p.value → WellKept old → WalksOne (placed_statement t) old new x y → Adds a new y z → IsBack old new back → WalksOne (placed_statement e) old back x z
  do_walks e q p s a t old new back x y z is ae te k g h b = subst (λ e. WalksOne (placed_statement e) old back x z) (sym is)
      (walk_back _ _ (λ f st. (lowered.statement P c f st (placed_statement (Do p q s))).behind) old new back x z k (λ f st. refl)
      (walk_on (λ f st. spec.statement_rows P c f at st (placed_statement p.value) ++ spec.rows_in P c f at (lowered.statement P c f st (placed_statement p.value)).behind (placed_view q.value)) (λ f st. (lowered.statement P c f st (placed_statement p.value)).behind) (λ f st. lowered.fresh st) old new x z (λ f st. refl)
      (walk_then (λ f st. spec.statement_rows P c f at st (placed_statement p.value)) (λ f st. spec.rows_in P c f at st (placed_view q.value)) (λ f st. (lowered.statement P c f st (placed_statement p.value)).behind) (λ f st. st) old new new x y z
      (subst (λ t. WalksOne (placed_statement t) old new x y) te g) (look_walks q.value (λ f st. st) new y z g.kept (λ f st. refl) (subst (λ a. Adds a new y z) ae h)))) b.0 b.1)

  effects_scope : (f : ℕ) (st : State) (es : PlacedTrees) → (lowered.effects P c f st es).behind.scope ≡ st.scope
  effects_scope f st NoPlacedTrees = refl
  effects_scope f st (MorePlacedTrees e es) = effects_scope f (with_temporaries st (lowered.lowered_in P c f st e).behind) es

  pub effect_walks : (es : List Expr) (names : Names) (x y : List Row) → WellKept names → AddsAll es names x y → Walks (λ f st. spec.effect_rows P c f at st (placed_views es)) (λ f st. (lowered.effects P c f st (placed_views es)).behind) names names x y
  effect_walks es names x y k h = walk_stay (λ f st. spec.effect_rows P c f at st (placed_views es)) (λ f st. (lowered.effects P c f st (placed_views es)).behind) names x y k (λ f st. effects_scope f st (placed_views es)) (λ f st s. h ∙ ap (λ r. x ++ r) (look_all P c at st names s (placed_views es)))

  -- a condition that may be absent
  abbrev gone : Option (Box Expr Global) → ℕ → State → State
  gone o f st = with_temporaries st (lowered.optional_test P c f st (placed_optional o)).behind

  abbrev more : Option (Box Expr Global) → Stmt → List Expr → ℕ → State → List Row
  more o t es f st = spec.statement_rows P c f at st (placed_statement t) ++ spec.effect_rows P c f at (lowered.statement P c f st (placed_statement t)).behind (placed_views es)

  abbrev rest : Option (Box Expr Global) → Stmt → List Expr → ℕ → State → List Row
  rest o t es f st = spec.optional_rows P c f at st (placed_optional o) ++ more o t es f (gone o f st)

  abbrev last : Option (Box Expr Global) → Stmt → ℕ → State → State
  last o t f st = (lowered.statement P c f (gone o f st) (placed_statement t)).behind

  for_placed : (i : ForInit) (o : Option (Box Expr Global)) (es : List Expr) (t : Stmt) (s : Span) (old mid new back : Names) (x y z w v : List Row) → WellKept old →
      Walks (λ f st. spec.init_rows P c f at st (placed_init i)) (λ f st. (lowered.init P c f st (placed_init i)).behind) old mid x y →
      Walks (λ f st. spec.optional_rows P c f at st (placed_optional o)) (λ f st. st) mid mid y z → WalksOne (placed_statement t) mid new z w → AddsAll es new w v → IsBack old new back →
      WalksOne (PlacedFor (placed_init i) (placed_optional o) (placed_views es) (placed_statement t) s) old back x v
  for_placed i o es t s old mid new back x y z w v k g h b u back_is =
      walk_back (λ f st. spec.init_rows P c f at (lowered.fresh st) (placed_init i) ++ rest o t es f (lowered.init P c f (lowered.fresh st) (placed_init i)).behind) (λ f st. last o t f (lowered.init P c f (lowered.fresh st) (placed_init i)).behind) (λ f st. (lowered.statement P c f st (PlacedFor (placed_init i) (placed_optional o) (placed_views es) (placed_statement t) s)).behind) old new back x v k (λ f st. refl)
      (walk_on (λ f st. spec.init_rows P c f at st (placed_init i) ++ rest o t es f (lowered.init P c f st (placed_init i)).behind) (λ f st. last o t f (lowered.init P c f st (placed_init i)).behind) (λ f st. lowered.fresh st) old new x v (λ f st. refl)
      (walk_then (λ f st. spec.init_rows P c f at st (placed_init i)) (rest o t es) (λ f st. (lowered.init P c f st (placed_init i)).behind) (last o t) old mid new x y v g
      (walk_then (λ f st. spec.optional_rows P c f at st (placed_optional o)) (more o t es) (gone o) (λ f st. (lowered.statement P c f st (placed_statement t)).behind) mid mid new y z v (walk_behind (λ f st. spec.optional_rows P c f at st (placed_optional o)) (λ f st. st) (gone o) mid mid y z (λ f st. refl) h)
      (walk_then (λ f st. spec.statement_rows P c f at st (placed_statement t)) (λ f st. spec.effect_rows P c f at st (placed_views es)) (λ f st. (lowered.statement P c f st (placed_statement t)).behind) (λ f st. st) mid new new z w v b
      (walk_behind (λ f st. spec.effect_rows P c f at st (placed_views es)) (λ f st. (lowered.effects P c f st (placed_views es)).behind) (λ f st. st) new new w v (λ f st. sym (effects_scope f st (placed_views es))) (effect_walks es new w v b.kept u)))))) back_is.0 back_is.1

  pub for_walks : (e : Stmt) (q : Box ForHead Global) (p : Box Stmt Global) (s : Span) (i : ForInit) (o : Option (Box Expr Global)) (t : Stmt) (es : List Expr) (old mid new back : Names) (x y z w v : List Row) → e ≡ For q p s → i ≡ q.value.init → o ≡ q.value.condition → t ≡ p.value → es ≡ q.value.update.items → WellKept old →
      Walks (λ f st. spec.init_rows P c f at st (placed_init i)) (λ f st. (lowered.init P c f st (placed_init i)).behind) old mid x y →
      Walks (λ f st. spec.optional_rows P c f at st (placed_optional o)) (λ f st. st) mid mid y z → WalksOne (placed_statement t) mid new z w → AddsAll es new w v → IsBack old new back → WalksOne (placed_statement e) old back x v
  for_walks e q p s i o t es old mid new back x y z w v is ie oe te ue k g h b u back_is =
      subst (λ r. WalksOne r old back x v) (sym (seen_for e q p s i o t es is ie oe te ue)) (for_placed i o es t s old mid new back x y z w v k g h b u back_is)

  -- a `for` over an array: the state in which its local is declared
  abbrev ready : Expr → ℕ → State → State
  ready a f st =
      let start = lowered.each_array P c f (lowered.fresh st) (placed_view a) in
      let test = lowered.each_tested P c f start.operand.span (length st.locals) start.behind in
      let element = lowered.each_element P c f start.operand.span (length st.locals) (elem_base (type_of P c st.scope (placed_view a))) test.behind in
      reserves (reserves (with_temporaries st element.behind) (type_of P c st.scope (placed_view a))) Int

  abbrev bound : TypeUse → List LocalModifier → Option Qualifier
  bound u marks = bound_of (own_annotations (placed_type_use u).array (annotations_of marks))

  -- the local, and the statement after it
  abbrev declared_then : Identifier → BaseType → Option Qualifier → Bool → List Row → Stmt → ℕ → State → List Row
  declared_then n base b fixed faults t f st = spec.declared_rows st.scope n.name.0 n.span ++ spec.statement_rows P c f at (declares st n.name.0 base b fixed faults) (placed_statement t)

  abbrev declared_behind : Identifier → BaseType → Option Qualifier → Bool → List Row → Stmt → ℕ → State → State
  declared_behind n base b fixed faults t f st = (lowered.statement P c f (declares st n.name.0 base b fixed faults) (placed_statement t)).behind

  each_placed : (ms : List LocalModifier) (u : TypeUse) (n : Identifier) (a : Expr) (t : Stmt) (s : Span) (notes : List Annotation) (base : BaseType) (fixed : Bool) (faults : List Row) (old mid new last back : Names) (x y z w v : List Row) →
      notes ≡ annotations_of ms → base ≡ type_of_use P (placed_type_use u) notes → fixed ≡ has_final ms → faults ≡ base_rows P u.base → WellKept old →
      Walks (λ f st. type_rows (placed_type_use u) both_kinds notes ++ base_rows P u.base) (λ f st. st) old mid x y → Walks (λ f st. spec.array_rows P c f at st (placed_view a)) (λ f st. st) mid mid y z →
      ((b : Option Qualifier) → Walks (λ f st. spec.declared_rows st.scope n.name.0 n.span) (λ f st. declares st n.name.0 base b fixed faults) mid new z w) → WalksOne (placed_statement t) new last w v → IsBack old last back →
      WalksOne (PlacedForEach ms (placed_type_use u) n (placed_view a) (placed_statement t) s) old back x v
  each_placed ms u n a t s notes base fixed faults old mid new last back x y z w v ne be fe he k g h d b back_is =
      walk_back (λ f st. (type_rows (placed_type_use u) both_kinds (annotations_of ms) ++ base_rows P u.base) ++ (spec.array_rows P c f at st (placed_view a) ++ declared_then n (type_of_use P (placed_type_use u) (annotations_of ms)) (bound u ms) (has_final ms) (base_rows P u.base) t f (ready a f st))) (λ f st. declared_behind n (type_of_use P (placed_type_use u) (annotations_of ms)) (bound u ms) (has_final ms) (base_rows P u.base) t f (ready a f st)) (λ f st. (lowered.statement P c f st (PlacedForEach ms (placed_type_use u) n (placed_view a) (placed_statement t) s)).behind) old last back x v k (λ f st. refl)
      (walk_then (λ f st. type_rows (placed_type_use u) both_kinds (annotations_of ms) ++ base_rows P u.base) (λ f st. spec.array_rows P c f at st (placed_view a) ++ declared_then n (type_of_use P (placed_type_use u) (annotations_of ms)) (bound u ms) (has_final ms) (base_rows P u.base) t f (ready a f st)) (λ f st. st) (λ f st. declared_behind n (type_of_use P (placed_type_use u) (annotations_of ms)) (bound u ms) (has_final ms) (base_rows P u.base) t f (ready a f st)) old mid last x y v
      (subst (λ ns. Walks (λ f st. type_rows (placed_type_use u) both_kinds ns ++ base_rows P u.base) (λ f st. st) old mid x y) ne g)
      (walk_then (λ f st. spec.array_rows P c f at st (placed_view a)) (λ f st. declared_then n (type_of_use P (placed_type_use u) (annotations_of ms)) (bound u ms) (has_final ms) (base_rows P u.base) t f (ready a f st)) (λ f st. st) (λ f st. declared_behind n (type_of_use P (placed_type_use u) (annotations_of ms)) (bound u ms) (has_final ms) (base_rows P u.base) t f (ready a f st)) mid mid last y z v h
      (walk_on (declared_then n (type_of_use P (placed_type_use u) (annotations_of ms)) (bound u ms) (has_final ms) (base_rows P u.base) t) (declared_behind n (type_of_use P (placed_type_use u) (annotations_of ms)) (bound u ms) (has_final ms) (base_rows P u.base) t) (ready a) mid last z v (λ f st. refl)
      (walk_then (λ f st. spec.declared_rows st.scope n.name.0 n.span) (λ f st. spec.statement_rows P c f at st (placed_statement t)) (λ f st. declares st n.name.0 (type_of_use P (placed_type_use u) (annotations_of ms)) (bound u ms) (has_final ms) (base_rows P u.base)) (λ f st. (lowered.statement P c f st (placed_statement t)).behind) mid new last z w v declared
      b)))) back_is.0 back_is.1
    where
      declared : Walks (λ f st. spec.declared_rows st.scope n.name.0 n.span) (λ f st. declares st n.name.0 (type_of_use P (placed_type_use u) (annotations_of ms)) (bound u ms) (has_final ms) (base_rows P u.base)) mid new z w
      declared =
          subst (λ q. Walks (λ f st. spec.declared_rows st.scope n.name.0 n.span) (λ f st. declares st n.name.0 (type_of_use P (placed_type_use u) (annotations_of ms)) (bound u ms) (has_final ms) q) mid new z w) he
          (subst (λ q. Walks (λ f st. spec.declared_rows st.scope n.name.0 n.span) (λ f st. declares st n.name.0 (type_of_use P (placed_type_use u) (annotations_of ms)) (bound u ms) q faults) mid new z w) fe
          (subst (λ q. Walks (λ f st. spec.declared_rows st.scope n.name.0 n.span) (λ f st. declares st n.name.0 q (bound u ms) fixed faults) mid new z w) (be ∙ ap (type_of_use P (placed_type_use u)) ne) (d (bound u ms))))

  pub each_walks : (e : Stmt) (q : Box Parameter Global) (r : Box Expr Global) (p : Box Stmt Global) (s : Span) (ms : List LocalModifier) (u : TypeUse) (n : Identifier) (a : Expr) (t : Stmt) (notes : List Annotation) (base : BaseType) (fixed : Bool) (faults : List Row) (old mid new last back : Names) (x y z w v : List Row) → e ≡ ForEach q r p s →
      ms ≡ q.value.modifiers.items → u ≡ q.value.type_use → n ≡ q.value.name → a ≡ r.value → t ≡ p.value →
      notes ≡ annotations_of ms → base ≡ type_of_use P (placed_type_use u) notes → fixed ≡ has_final ms → faults ≡ base_rows P u.base → WellKept old →
      Walks (λ f st. type_rows (placed_type_use u) both_kinds notes ++ base_rows P u.base) (λ f st. st) old mid x y → Walks (λ f st. spec.array_rows P c f at st (placed_view a)) (λ f st. st) mid mid y z →
      ((b : Option Qualifier) → Walks (λ f st. spec.declared_rows st.scope n.name.0 n.span) (λ f st. declares st n.name.0 base b fixed faults) mid new z w) → WalksOne (placed_statement t) new last w v → IsBack old last back → WalksOne (placed_statement e) old back x v
  each_walks e q r p s ms u n a t notes base fixed faults old mid new last back x y z w v is me ue name ae te ne be fe he k g h d b back_is =
      subst (λ o. WalksOne o old back x v) (sym (seen_each e q r p s ms u n a t is me ue name ae te)) (each_placed ms u n a t s notes base fixed faults old mid new last back x y z w v ne be fe he k g h d b back_is)

  -- statements one after the other, from the i-th one on

  pub more_walks : (ts : List Stmt) (i : ℕ) (t : Stmt) (old mid last : Names) (x y z : List Row) → i < length ts → t ≡ get_or ts i t → WalksOne (placed_statement t) old mid x y → WalksAll (placed_statements (drop (i + 1) ts)) mid last y z → WalksAll (placed_statements (drop i ts)) old last x z
  more_walks ts i t old mid end x y z l is g h = subst (λ us. WalksAll us old end x z) (sym left)
      (walk_then (λ f st. spec.statement_rows P c f at st (placed_statement t)) (λ f st. spec.all_rows P c f at st (placed_statements (drop (i + 1) ts))) (λ f st. (lowered.statement P c f st (placed_statement t)).behind) (λ f st. (lowered.statements P c f st (placed_statements (drop (i + 1) ts))).behind) old mid end x y z g h)
    where
      left : placed_statements (drop i ts) ≡ MorePlacedStatements (placed_statement t) (placed_statements (drop (i + 1) ts))
      left = ap placed_statements (drop_more ts i t l) ∙ ap (λ u. MorePlacedStatements (placed_statement u) (placed_statements (drop (i + 1) ts))) (sym is)

  pub end_walks : (ts : List Stmt) (i : ℕ) (names : Names) (x : List Row) → length ts ≤ i → WellKept names → WalksAll (placed_statements (drop i ts)) names names x x
  end_walks ts i names x l k = subst (λ us. WalksAll us names names x x) (sym (ap placed_statements (drop_of_length-le ts l))) (walk_stay (λ f st. []) (λ f st. st) names x x k (λ f st. refl) (λ f st s. sym (append-nil x)))

  -- declared names

  module _ (base : BaseType) (is_final : Bool) (faults : List Row) (b : Option Qualifier) where
    abbrev pub WalksName : PlacedDeclarator → Names → Names → List Row → List Row → Type 0
    WalksName d old new x y = Walks (λ f st. spec.declarator_rows P c f at base b is_final faults st d) (λ f st. (lowered.declarator P c f base b is_final faults st d).behind) old new x y

    abbrev pub WalksNames : List PlacedDeclarator → Names → Names → List Row → List Row → Type 0
    WalksNames ds old new x y = Walks (λ f st. spec.declarators_rows P c f at base b is_final faults st ds) (λ f st. (lowered.declarators P c f base b is_final faults st ds).behind) old new x y

    given_scope : (name : Span) (r : ℕ) (f : ℕ) (st : State) (o : Option PlacedTree) → (lowered.initialized P c f name r b st o).behind.scope ≡ st.scope
    given_scope name r f st None = refl
    given_scope name r f st (Some e) = refl

    pub name_walks : (d : Declarator) (fixed : Bool) (old new : Names) (x y z : List Row) → fixed ≡ (is_final && has_value (placed_declarator d)) → Walks (λ f st. spec.declared_rows st.scope d.name.name.0 d.name.span) (λ f st. declares st d.name.name.0 base b fixed faults) old new x y →
        Walks (λ f st. spec.optional_rows P c f at st (placed_optional d.value)) (λ f st. st) new new y z → WalksName (placed_declarator d) old new x z
    name_walks d fixed old new x y z fe g h =
        walk_behind (λ f st. spec.declarator_rows P c f at base b is_final faults st (placed_declarator d)) (λ f st. declares st d.name.name.0 base b (is_final && has_value (placed_declarator d)) faults) (λ f st. (lowered.declarator P c f base b is_final faults st (placed_declarator d)).behind) old new x z
        (λ f st. given_scope d.name.span (length st.locals) f (declares st d.name.name.0 base b (is_final && has_value (placed_declarator d)) faults) (placed_optional d.value))
        (walk_then (λ f st. spec.declared_rows st.scope d.name.name.0 d.name.span) (λ f st. spec.optional_rows P c f at st (placed_optional d.value)) (λ f st. declares st d.name.name.0 base b (is_final && has_value (placed_declarator d)) faults) (λ f st. st) old new new x y z
        (subst (λ q. Walks (λ f st. spec.declared_rows st.scope d.name.name.0 d.name.span) (λ f st. declares st d.name.name.0 base b q faults) old new x y) fe g) h)

    pub names_more : (ds : List Declarator) (i : ℕ) (d : Declarator) (old mid last : Names) (x y z : List Row) → i < length ds → d ≡ get_or ds i d → WalksName (placed_declarator d) old mid x y → WalksNames (placed_declarators (drop (i + 1) ds)) mid last y z → WalksNames (placed_declarators (drop i ds)) old last x z
    names_more ds i d old mid end x y z l is g h = subst (λ us. WalksNames us old end x z) (sym left) (names_then (placed_declarator d) (placed_declarators (drop (i + 1) ds)) old mid end x y z g h)
      where
        left : placed_declarators (drop i ds) ≡ placed_declarator d ∷ placed_declarators (drop (i + 1) ds)
        left = ap placed_declarators (drop_more ds i d l) ∙ ap (λ u. placed_declarator u ∷ placed_declarators (drop (i + 1) ds)) (sym is)

        names_then : (p : PlacedDeclarator) (ps : List PlacedDeclarator) (old mid last : Names) (x y z : List Row) → WalksName p old mid x y → WalksNames ps mid last y z → WalksNames (p ∷ ps) old last x z
        names_then p ps old mid end x y z g h = walk_then (λ f st. spec.declarator_rows P c f at base b is_final faults st p) (λ f st. spec.declarators_rows P c f at base b is_final faults st ps) (λ f st. (lowered.declarator P c f base b is_final faults st p).behind) (λ f st. (lowered.declarators P c f base b is_final faults st ps).behind) old mid end x y z g h

    pub names_end : (ds : List Declarator) (i : ℕ) (names : Names) (x : List Row) → length ds ≤ i → WellKept names → WalksNames (placed_declarators (drop i ds)) names names x x
    names_end ds i names x l k = subst (λ us. WalksNames us names names x x) (sym (ap placed_declarators (drop_of_length-le ds l))) (walk_stay (λ f st. []) (λ f st. st) names x x k (λ f st. refl) (λ f st s. sym (append-nil x)))

    pub both_names : (d : Declarator) (ds : List Declarator) (old mid last : Names) (x y z : List Row) → WalksName (placed_declarator d) old mid x y → WalksNames (placed_declarators ds) mid last y z → WalksNames (placed_declarator d ∷ placed_declarators ds) old last x z
    both_names d ds old mid end x y z g h = walk_then (λ f st. spec.declarator_rows P c f at base b is_final faults st (placed_declarator d)) (λ f st. spec.declarators_rows P c f at base b is_final faults st (placed_declarators ds)) (λ f st. (lowered.declarator P c f base b is_final faults st (placed_declarator d)).behind) (λ f st. (lowered.declarators P c f base b is_final faults st (placed_declarators ds)).behind) old mid end x y z g h

  -- a declaration: its type, then its names
  pub declaration_walks : (l : LocalDeclaration) (notes : List Annotation) (base : BaseType) (is_final : Bool) (faults : List Row) (old mid new : Names) (x y z : List Row) → notes ≡ annotations_of l.modifiers.items → base ≡ type_of_use P (placed_type_use l.type_use) notes → is_final ≡ has_final l.modifiers.items → faults ≡ base_rows P l.type_use.base →
      Walks (λ f st. type_rows (placed_type_use l.type_use) both_kinds notes ++ base_rows P l.type_use.base) (λ f st. st) old mid x y →
      ((b : Option Qualifier) → WalksNames base is_final faults b (placed_declarator l.first ∷ placed_declarators l.more.items) mid new y z) →
      Walks (λ f st. spec.declaration_rows P c f at st (placed_local l)) (λ f st. (lowered.declaration P c f st (placed_local l)).behind) old new x z
  declaration_walks l notes base is_final faults old mid new x y z ne be fe he g d =
      walk_then (λ f st. type_rows (placed_type_use l.type_use) both_kinds (annotations_of l.modifiers.items) ++ base_rows P l.type_use.base) (λ f st. spec.declarators_rows P c f at (type_of_use P (placed_type_use l.type_use) (annotations_of l.modifiers.items)) (bound l.type_use l.modifiers.items) (has_final l.modifiers.items) (base_rows P l.type_use.base) st (placed_declarator l.first ∷ placed_declarators l.more.items)) (λ f st. st)
      (λ f st. (lowered.declarators P c f (type_of_use P (placed_type_use l.type_use) (annotations_of l.modifiers.items)) (bound l.type_use l.modifiers.items) (has_final l.modifiers.items) (base_rows P l.type_use.base) st (placed_declarator l.first ∷ placed_declarators l.more.items)).behind) old mid new x y z
      (subst (λ ns. Walks (λ f st. type_rows (placed_type_use l.type_use) both_kinds ns ++ base_rows P l.type_use.base) (λ f st. st) old mid x y) ne g)
      (subst (λ q. WalksNames (type_of_use P (placed_type_use l.type_use) (annotations_of l.modifiers.items)) (has_final l.modifiers.items) q (bound l.type_use l.modifiers.items) (placed_declarator l.first ∷ placed_declarators l.more.items) mid new y z) he
      (subst (λ q. WalksNames (type_of_use P (placed_type_use l.type_use) (annotations_of l.modifiers.items)) q faults (bound l.type_use l.modifiers.items) (placed_declarator l.first ∷ placed_declarators l.more.items) mid new y z) fe
      (subst (λ q. WalksNames q is_final faults (bound l.type_use l.modifiers.items) (placed_declarator l.first ∷ placed_declarators l.more.items) mid new y z) (be ∙ ap (type_of_use P (placed_type_use l.type_use)) ne) (d (bound l.type_use l.modifiers.items)))))

  -- what a `for` goes over
  pub array_walks : (e : Expr) (base : BaseType) (clean : Bool) (names : Names) (x y z : List Row) → WellKept names → Adds e names x y → base ≡ type_of P c (scope_of names.faults.items names.scope) (placed_view e) → clean ≡ eqb (length y) (length x) →
      z ≡ y ++ cond clean (when (not (is_array base)) (row J2 (inner_span (placed_view e)))) [] → Walks (λ f st. spec.array_rows P c f at st (placed_view e)) (λ f st. st) names names x z
  array_walks e base clean names x y z k h t ce g = walk_stay (λ f st. spec.array_rows P c f at st (placed_view e)) (λ f st. st) names x z k (λ f st. refl) (λ f st s.
      let rows : y ≡ x ++ rows_of P c at st.scope (placed_view e) = h ∙ ap (λ r. x ++ r) (look_rows P c at st names s (placed_view e)) in
      two x (rows_of P c at st.scope (placed_view e)) (unless (rows_of P c at st.scope (placed_view e)) (when (not (is_array (type_of P c st.scope (placed_view e)))) (row J2 (inner_span (placed_view e))))) y z rows
      (g ∙ ap (λ b. y ++ cond b (when (not (is_array base)) (row J2 (inner_span (placed_view e)))) []) (ce ∙ counted x (rows_of P c at st.scope (placed_view e)) y rows)
      ∙ ap (λ b. y ++ cond (is_clean (rows_of P c at st.scope (placed_view e))) (when (not (is_array b)) (row J2 (inner_span (placed_view e)))) []) (t ∙ look_type P c at st names s (placed_view e))
      ∙ ap (λ r. y ++ r) (sym (unless_clean (rows_of P c at st.scope (placed_view e)) (when (not (is_array (type_of P c st.scope (placed_view e)))) (row J2 (inner_span (placed_view e))))))))

  pub empty_walks : (e : Stmt) (s : Span) (names : Names) (x : List Row) → e ≡ Empty s → WellKept names → WalksOne (placed_statement e) names names x x
  empty_walks e s names x is k = subst (λ e. WalksOne (placed_statement e) names names x x) (sym is) (still_walks (placed_statement (Empty s)) names x k (λ f st. refl) (λ f st. refl))

  pub break_walks : (e : Stmt) (s : Span) (names : Names) (x : List Row) → e ≡ Break s → WellKept names → WalksOne (placed_statement e) names names x x
  break_walks e s names x is k = subst (λ e. WalksOne (placed_statement e) names names x x) (sym is) (still_walks (placed_statement (Break s)) names x k (λ f st. refl) (λ f st. refl))

  pub continue_walks : (e : Stmt) (s : Span) (names : Names) (x : List Row) → e ≡ Continue s → WellKept names → WalksOne (placed_statement e) names names x x
  continue_walks e s names x is k = subst (λ e. WalksOne (placed_statement e) names names x x) (sym is) (still_walks (placed_statement (Continue s)) names x k (λ f st. refl) (λ f st. refl))

  pub this_walks : (e : Stmt) (v : Vec Expr Global) (s : Span) (names : Names) (x : List Row) → e ≡ ThisCall v s → WellKept names → WalksOne (placed_statement e) names names x x
  this_walks e v s names x is k = subst (λ e. WalksOne (placed_statement e) names names x x) (sym is) (still_walks (placed_statement (ThisCall v s)) names x k (λ f st. refl) (λ f st. refl))

  pub super_walks : (e : Stmt) (v : Vec Expr Global) (s : Span) (names : Names) (x : List Row) → e ≡ SuperCall v s → WellKept names → WalksOne (placed_statement e) names names x x
  super_walks e v s names x is k = subst (λ e. WalksOne (placed_statement e) names names x x) (sym is) (still_walks (placed_statement (SuperCall v s)) names x k (λ f st. refl) (λ f st. refl))

  abbrev pub WalksInit : ForInit → Names → Names → List Row → List Row → Type 0
  WalksInit i old new x y = Walks (λ f st. spec.init_rows P c f at st (placed_init i)) (λ f st. (lowered.init P c f st (placed_init i)).behind) old new x y

  pub init_effects : (i : ForInit) (v : Vec Expr Global) (es : List Expr) (names : Names) (x y : List Row) → i ≡ Expressions v → es ≡ v.items → WellKept names → AddsAll es names x y → WalksInit i names names x y
  init_effects i v es names x y is b k h = subst (λ i. WalksInit i names names x y) (sym is) (effect_walks v.items names x y k (subst (λ es. AddsAll es names x y) b h))

  pub init_local : (i : ForInit) (q : Box LocalDeclaration Global) (l : LocalDeclaration) (old new : Names) (x y : List Row) → i ≡ Declaration q → l ≡ q.value → Walks (λ f st. spec.declaration_rows P c f at st (placed_local l)) (λ f st. (lowered.declaration P c f st (placed_local l)).behind) old new x y → WalksInit i old new x y
  init_local i q l old new x y is le g = subst (λ i. WalksInit i old new x y) (sym is) (subst (λ l. Walks (λ f st. spec.declaration_rows P c f at st (placed_local l)) (λ f st. (lowered.declaration P c f st (placed_local l)).behind) old new x y) le g)
