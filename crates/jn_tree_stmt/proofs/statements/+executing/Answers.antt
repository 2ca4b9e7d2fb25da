use Rattle.std.proofs.Common.{◌≡◌, List, Option, true, false, Bool, refl, sym, ap, ◌∙◌, subst, drop, ◌+◌, ◌-◌}
use Rattle.std.specs.Global.{Box}
use Rattle.jn_base.specs.declared.place.Span.{Span}
use Rattle.jn_trees.specs.declared.declaration.Parameter.{Parameter}
use Rattle.jn_trees.specs.declared.expression.Expr.{Expr}
use Rattle.jn_trees.specs.declared.statement.Stmt.{Stmt}
use Rattle.jn_trees.specs.declared.statement.ForHead.{ForHead}
use Rattle.jn_trees.specs.declared.statement.LocalDeclaration.{LocalDeclaration}
use Rattle.jn_places.specs.Placed.{PlacedStatements, PlacedDo, PlacedExpression, PlacedFor, PlacedForEach, PlacedIf, PlacedLocalStatement}
use Rattle.jn_places.specs.PlacedView.{placed_init, placed_local, placed_optional, placed_parameter, placed_statement, placed_statements, placed_type_use, placed_view, placed_views}
use Rattle.jn_places.proofs.Rows.{statements_placed}
use Rattle.jn_heap.specs.Values.{usual_limits}
use Rattle.jn_lower_stmt.proofs.Stepping.{extends_on, extends_same}
use Rattle.jn_meaning.specs.Expressions.{operand_span}
use Rattle.jn_meaning.specs.Worlds.{Result, Has, Stops, FuelOut, then_do, spent}
use Rattle.jn_meaning.specs.Statements.{Flow, Onward, Standing, behind, behind_init, done_while, endless, for_loop, repeated, then_onward}
use Rattle.jn_tree_world.specs.Outcomes.{IsStop, MeansAs}
use Rattle.jn_tree_world.specs.Worlds.{world_of}
use Rattle.jn_tree_world.proofs.Binding.{bound, memory, stop_then, stops}
use Rattle.jn_tree_simple.specs.Doing.{each_holds, each_moves, each_takes, effects_at, holds_at}
use Rattle.jn_tree_simple.specs.Standings.{flow_of, standing_of}
use Rattle.jn_tree_simple.proofs.Founding.{has_behind, stop_behind}
use Rattle.jn_tree_stmt.specs.Leaving.{concluded, done_round, last_test, leaves, left_of, round, tested, updated}
use Rattle.jn_tree_stmt.specs.Running.{all_run_at, behind_variable, runs_at}
use Rattle.jn_tree_stmt.proofs.Extending.{back_behind, back_grown, behind_grows, grown_to, init_grows, no_statements_left, ok_kept, ok_on, ok_same, on_ok, statements_left, variable_grows}
use Rattle.jn_tree_stmt.proofs.Rounds.{begins, done_last, done_once, endless_last, endless_once, ends, goes_on, gone, gone_stops, is_left, last, onward_on, onward_out, spend_stops, spent_on, stop_same, tests, turned_on, turned_out, turns_once}
use Rattle.jn_tree_simple.specs.declared.flow.Flow as code
use Rattle.jn_tree_stmt.proofs.statements.+executing.Goals as goal

pub execute_all-returns-in_err-flow-clause-means : goal.execute_all-returns-in_err-flow-clause-means
execute_all-returns-in_err-flow-clause-means g t c = λ m k. stops flow_of _ c.in_err-flow.field-0.0 c.from_residual.result (world_of c.execute.new.w) c.from_residual.ensures.1 (stop_same c.in_err-flow.field-0.0 _ _ _ (c.loop-tree.invariant.1 m k ∙ ap (λ (xs : PlacedStatements). all_run_at c.args.b.now c.args.names.now m c.args.turns (standing_of c.loop-tree.st) xs (world_of c.loop-tree.w)) (statements_left c.args.trees.now c.loop-tree.tree-index c.tree-item.result c.loop-tree-test.true c.tree-item.is)) (stop_then c.in_err-flow.field-0.0 _ _ _ (c.in_err-flow.ensures.means m k)))

pub execute_all-returns-in-Some-clause-means : goal.execute_all-returns-in-Some-clause-means
execute_all-returns-in-Some-clause-means g t c = λ m k. c.loop-tree.invariant.1 m k ∙ ap (λ (xs : PlacedStatements). all_run_at c.args.b.now c.args.names.now m c.args.turns (standing_of c.loop-tree.st) xs (world_of c.loop-tree.w)) (statements_left c.args.trees.now c.loop-tree.tree-index c.tree-item.result c.loop-tree-test.true c.tree-item.is) ∙ has_behind _ _ (flow_of c.in_ok-flow.flow) (world_of c.execute.new.w) _ (c.in_ok-flow.ensures.means m k) (onward_out (flow_of c.in_ok-flow.flow) (flow_of c.in-Some.left) _ _ (sym c.stops_turn.ensures ∙ ap left_of c.in-Some.is))

pub execute_all-returns-in-Some-clause-scope : goal.execute_all-returns-in-Some-clause-scope
execute_all-returns-in-Some-clause-scope g t c = extends_on c.args.st.now.scope c.loop-tree.st.scope c.execute.new.st.scope c.loop-tree.invariant.0 (grown_to c.loop-tree.st.scope (behind c.args.b.now.program.now (standing_of c.loop-tree.st) (placed_statement c.tree-item.result)).scope c.execute.new.st.scope (behind_grows c.args.b.now.program.now (standing_of c.loop-tree.st) (placed_statement c.tree-item.result)) (ap (λ (s : Standing). s.scope) c.in_ok-flow.ensures.behind))

pub execute_all-loop-tree-init : goal.execute_all-loop-tree-init
execute_all-loop-tree-init g t c = (extends_same c.args.st.now.scope, λ m k. refl)

pub execute_all-loop-tree-preserved : goal.execute_all-loop-tree-preserved
execute_all-loop-tree-preserved g t c = (extends_on c.args.st.now.scope c.loop-tree.st.scope c.execute.new.st.scope c.loop-tree.invariant.0 (grown_to c.loop-tree.st.scope (behind c.args.b.now.program.now (standing_of c.loop-tree.st) (placed_statement c.tree-item.result)).scope c.execute.new.st.scope (behind_grows c.args.b.now.program.now (standing_of c.loop-tree.st) (placed_statement c.tree-item.result)) (ap (λ (s : Standing). s.scope) c.in_ok-flow.ensures.behind)), λ m k. c.loop-tree.invariant.1 m k ∙ ap (λ (xs : PlacedStatements). all_run_at c.args.b.now c.args.names.now m c.args.turns (standing_of c.loop-tree.st) xs (world_of c.loop-tree.w)) (statements_left c.args.trees.now c.loop-tree.tree-index c.tree-item.result c.loop-tree-test.true c.tree-item.is) ∙ has_behind _ _ (flow_of c.in_ok-flow.flow) (world_of c.execute.new.w) _ (c.in_ok-flow.ensures.means m k) (onward_on (flow_of c.in_ok-flow.flow) _ _ (sym c.stops_turn.ensures ∙ ap left_of c.in_default.is)) ∙ ap (λ (s : Standing). all_run_at c.args.b.now c.args.names.now m c.args.turns s (placed_statements (drop (c.loop-tree.tree-index + 1) c.args.trees.now)) (world_of c.execute.new.w)) (sym c.in_ok-flow.ensures.behind))

pub execute_all-returns-clause-means : goal.execute_all-returns-clause-means
execute_all-returns-clause-means g t c = λ m k. c.loop-tree.invariant.1 m k ∙ ap (λ (xs : PlacedStatements). all_run_at c.args.b.now c.args.names.now m c.args.turns (standing_of c.loop-tree.st) xs (world_of c.loop-tree.w)) (no_statements_left c.args.trees.now c.loop-tree.tree-index c.loop-tree-test.false)

pub execute-returns-in_err-flow-clause-means : goal.execute-returns-in_err-flow-clause-means
execute-returns-in_err-flow-clause-means g t c = λ m k. stops flow_of _ c.in_err-flow.field-0.0 c.from_residual.result (world_of c.inside.new.w) c.from_residual.ensures.1 (c.in_err-flow.ensures.means m k)

pub execute-returns-in_err-pass_over-clause-means : goal.execute-returns-in_err-pass_over-clause-means
execute-returns-in_err-pass_over-clause-means g t c = λ m k. stops flow_of _ c.in_err-pass_over.field-0.0 c.from_residual-in_err-pass_over.result (world_of c.inside.new.w) c.from_residual-in_err-pass_over.ensures.1 (memory c.in_err-pass_over.field-0.0 _ _ c.in_err-pass_over.ensures)

pub execute-returns-clause-behind : goal.execute-returns-clause-behind
execute-returns-clause-behind g t c = c.in_ok-pass_over.ensures ∙ ap (λ (s : Standing). behind c.args.b.now.program.now s (placed_statement c.args.tree.now)) (back_grown (standing_of c.args.st.now) (standing_of c.inside.new.st) (standing_of c.back.new.self) c.mark-before.result.names c.mark-before.result.count c.in_ok-flow.ensures.scope c.mark-before.ensures.names c.mark-before.ensures.count c.back.ensures)

pub inside-returns-in-Block-clause-means : goal.inside-returns-in-Block-clause-means
inside-returns-in-Block-clause-means g t c = λ m k. subst (λ (x : Stmt). MeansAs flow_of (runs_at c.args.b.now c.args.names.now m c.args.turns (standing_of c.args.st.now) (placed_statement x) (world_of c.args.w.now)) c.execute_all.result (world_of c.execute_all.new.w)) (sym c.in-Block.is) (subst (λ (b : PlacedStatements). MeansAs flow_of (all_run_at c.args.b.now c.args.names.now m c.args.turns (standing_of c.args.st.now) b (world_of c.args.w.now)) c.execute_all.result (world_of c.execute_all.new.w)) (sym (statements_placed c.in-Block.statements)) (subst (λ (xs : List Stmt). MeansAs flow_of (all_run_at c.args.b.now c.args.names.now m c.args.turns (standing_of c.args.st.now) (placed_statements xs) (world_of c.args.w.now)) c.execute_all.result (world_of c.execute_all.new.w)) c.deref.ensures.value (c.execute_all.ensures.means m k)))

pub inside-returns-in-Expression-clause-means : goal.inside-returns-in-Expression-clause-means
inside-returns-in-Expression-clause-means g t c = λ m k. subst (λ (x : Stmt). MeansAs flow_of (runs_at c.args.b.now c.args.names.now m c.args.turns (standing_of c.args.st.now) (placed_statement x) (world_of c.args.w.now)) c.expression.result (world_of c.expression.new.w)) (sym c.in-Expression.is) (subst (λ (e : Expr). MeansAs flow_of (runs_at c.args.b.now c.args.names.now m c.args.turns (standing_of c.args.st.now) (PlacedExpression (placed_view e) c.in-Expression.span) (world_of c.args.w.now)) c.expression.result (world_of c.expression.new.w)) c.deref-in-Expression.ensures (c.expression.ensures.means c.args.turns m k))

pub inside-returns-in-Return-clause-means : goal.inside-returns-in-Return-clause-means
inside-returns-in-Return-clause-means g t c = λ m k. subst (λ (x : Stmt). MeansAs flow_of (runs_at c.args.b.now c.args.names.now m c.args.turns (standing_of c.args.st.now) (placed_statement x) (world_of c.args.w.now)) c.returned.result (world_of c.returned.new.w)) (sym c.in-Return.is) (c.returned.ensures.means c.args.turns m k)

pub inside-returns-in-Local-clause-means : goal.inside-returns-in-Local-clause-means
inside-returns-in-Local-clause-means g t c = λ m k. subst (λ (x : Stmt). MeansAs flow_of (runs_at c.args.b.now c.args.names.now m c.args.turns (standing_of c.args.st.now) (placed_statement x) (world_of c.args.w.now)) c.declare.result (world_of c.declare.new.w)) (sym c.in-Local.is) (subst (λ (d : LocalDeclaration). MeansAs flow_of (runs_at c.args.b.now c.args.names.now m c.args.turns (standing_of c.args.st.now) (PlacedLocalStatement (placed_local d) c.in-Local.span) (world_of c.args.w.now)) c.declare.result (world_of c.declare.new.w)) c.deref-in-Local.ensures (c.declare.ensures.means c.args.turns m k))

pub inside-returns-in-If-clause-means : goal.inside-returns-in-If-clause-means
inside-returns-in-If-clause-means g t c = λ m k. subst (λ (x : Stmt). MeansAs flow_of (runs_at c.args.b.now c.args.names.now m c.args.turns (standing_of c.args.st.now) (placed_statement x) (world_of c.args.w.now)) c.if_then.result (world_of c.if_then.new.w)) (sym c.in-If.is) (subst (λ (t : Stmt). MeansAs flow_of (runs_at c.args.b.now c.args.names.now m c.args.turns (standing_of c.args.st.now) (PlacedIf (placed_view c.in-If.condition.value) (placed_statement t) c.in-If.span) (world_of c.args.w.now)) c.if_then.result (world_of c.if_then.new.w)) c.deref-in-If.ensures (subst (λ (q : Expr). MeansAs flow_of (runs_at c.args.b.now c.args.names.now m c.args.turns (standing_of c.args.st.now) (PlacedIf (placed_view q) (placed_statement c.deref-in-If.result.now) c.in-If.span) (world_of c.args.w.now)) c.if_then.result (world_of c.if_then.new.w)) c.deref-in-If-2.ensures (c.if_then.ensures.means m k c.in-If.span)))

pub inside-returns-in-While-clause-means : goal.inside-returns-in-While-clause-means
inside-returns-in-While-clause-means g t c = λ m k. subst (λ (x : Stmt). MeansAs flow_of (runs_at c.args.b.now c.args.names.now m c.args.turns (standing_of c.args.st.now) (placed_statement x) (world_of c.args.w.now)) c.repeat.result (world_of c.repeat.new.w)) (sym c.in-While.is) (subst (λ (t : Stmt). MeansAs flow_of (repeated c.args.turns (holds_at c.args.b.now c.args.names.now m c.args.turns (standing_of c.args.st.now) (placed_view c.in-While.condition.value)) (runs_at c.args.b.now c.args.names.now m c.args.turns (standing_of c.args.st.now) (placed_statement t)) (λ w. Has Onward w) (world_of c.args.w.now)) c.repeat.result (world_of c.repeat.new.w)) c.deref-in-While.ensures (subst (λ (q : Expr). MeansAs flow_of (repeated c.args.turns (holds_at c.args.b.now c.args.names.now m c.args.turns (standing_of c.args.st.now) (placed_view q)) (runs_at c.args.b.now c.args.names.now m c.args.turns (standing_of c.args.st.now) (placed_statement c.deref-in-While.result.now)) (λ w. Has Onward w) (world_of c.args.w.now)) c.repeat.result (world_of c.repeat.new.w)) c.deref-in-While-2.ensures (c.repeat.ensures.means m k)))

pub inside-returns-in-Do-clause-means : goal.inside-returns-in-Do-clause-means
inside-returns-in-Do-clause-means g t c = λ m k. subst (λ (x : Stmt). MeansAs flow_of (runs_at c.args.b.now c.args.names.now m c.args.turns (standing_of c.args.st.now) (placed_statement x) (world_of c.args.w.now)) c.repeat_do.result (world_of c.repeat_do.new.w)) (sym c.in-Do.is) (subst (λ (t : Stmt). MeansAs flow_of (runs_at c.args.b.now c.args.names.now m c.args.turns (standing_of c.args.st.now) (PlacedDo (placed_statement t) (placed_view c.in-Do.condition.value) c.in-Do.span) (world_of c.args.w.now)) c.repeat_do.result (world_of c.repeat_do.new.w)) c.deref-in-Do.ensures (subst (λ (q : Expr). MeansAs flow_of (runs_at c.args.b.now c.args.names.now m c.args.turns (standing_of c.args.st.now) (PlacedDo (placed_statement c.deref-in-Do.result.now) (placed_view q) c.in-Do.span) (world_of c.args.w.now)) c.repeat_do.result (world_of c.repeat_do.new.w)) c.deref-in-Do-2.ensures (c.repeat_do.ensures.means m k)))

pub inside-returns-in-For-clause-means : goal.inside-returns-in-For-clause-means
inside-returns-in-For-clause-means g t c = λ m k. subst (λ (x : Stmt). MeansAs flow_of (runs_at c.args.b.now c.args.names.now m c.args.turns (standing_of c.args.st.now) (placed_statement x) (world_of c.args.w.now)) c.repeat_for.result (world_of c.repeat_for.new.w)) (sym c.in-For.is) (subst (λ (t : Stmt). MeansAs flow_of (runs_at c.args.b.now c.args.names.now m c.args.turns (standing_of c.args.st.now) (PlacedFor (placed_init c.in-For.head.value.init) (placed_optional c.in-For.head.value.condition) (placed_views c.in-For.head.value.update.items) (placed_statement t) c.in-For.span) (world_of c.args.w.now)) c.repeat_for.result (world_of c.repeat_for.new.w)) c.deref-in-For.ensures (subst (λ (h : ForHead). MeansAs flow_of (runs_at c.args.b.now c.args.names.now m c.args.turns (standing_of c.args.st.now) (PlacedFor (placed_init h.init) (placed_optional h.condition) (placed_views h.update.items) (placed_statement c.deref-in-For.result.now) c.in-For.span) (world_of c.args.w.now)) c.repeat_for.result (world_of c.repeat_for.new.w)) c.deref-in-For-2.ensures (c.repeat_for.ensures.means m k c.in-For.span)))

pub inside-returns-in-ForEach-clause-means : goal.inside-returns-in-ForEach-clause-means
inside-returns-in-ForEach-clause-means g t c = λ m k. subst (λ (x : Stmt). MeansAs flow_of (runs_at c.args.b.now c.args.names.now m c.args.turns (standing_of c.args.st.now) (placed_statement x) (world_of c.args.w.now)) c.for_each.result (world_of c.for_each.new.w)) (sym c.in-ForEach.is) (subst (λ (t : Stmt). MeansAs flow_of (runs_at c.args.b.now c.args.names.now m c.args.turns (standing_of c.args.st.now) (PlacedForEach c.in-ForEach.variable.value.modifiers.items (placed_type_use c.in-ForEach.variable.value.type_use) c.in-ForEach.variable.value.name (placed_view c.in-ForEach.array.value) (placed_statement t) c.in-ForEach.span) (world_of c.args.w.now)) c.for_each.result (world_of c.for_each.new.w)) c.deref-in-ForEach.ensures (subst (λ (p : Parameter). MeansAs flow_of (runs_at c.args.b.now c.args.names.now m c.args.turns (standing_of c.args.st.now) (PlacedForEach p.modifiers.items (placed_type_use p.type_use) p.name (placed_view c.in-ForEach.array.value) (placed_statement c.deref-in-ForEach.result.now) c.in-ForEach.span) (world_of c.args.w.now)) c.for_each.result (world_of c.for_each.new.w)) c.deref-in-ForEach-2.ensures (subst (λ (a : Expr). MeansAs flow_of (runs_at c.args.b.now c.args.names.now m c.args.turns (standing_of c.args.st.now) (PlacedForEach c.deref-in-ForEach-2.result.now.modifiers.items (placed_type_use c.deref-in-ForEach-2.result.now.type_use) c.deref-in-ForEach-2.result.now.name (placed_view a) (placed_statement c.deref-in-ForEach.result.now) c.in-ForEach.span) (world_of c.args.w.now)) c.for_each.result (world_of c.for_each.new.w)) c.deref-in-ForEach-3.ensures (c.for_each.ensures.means m k c.in-ForEach.span))))

pub inside-returns-in-While-clause-scope : goal.inside-returns-in-While-clause-scope
inside-returns-in-While-clause-scope g t c = ok_kept c.repeat.result c.args.st.now.scope (standing_of c.repeat.new.st) (standing_of c.args.st.now) (extends_same c.args.st.now.scope) c.repeat.ensures.stays

pub inside-returns-in-Do-clause-scope : goal.inside-returns-in-Do-clause-scope
inside-returns-in-Do-clause-scope g t c = ok_kept c.repeat_do.result c.args.st.now.scope (standing_of c.repeat_do.new.st) (standing_of c.args.st.now) (extends_same c.args.st.now.scope) c.repeat_do.ensures.stays

pub if_then-returns-in_err-holds_in-clause-means : goal.if_then-returns-in_err-holds_in-clause-means
if_then-returns-in_err-holds_in-clause-means g t c = λ m k span. stops flow_of _ c.in_err-holds_in.field-0.0 c.from_residual.result (world_of c.holds_in.new.w) c.from_residual.ensures.1 (stop_then c.in_err-holds_in.field-0.0 _ _ _ (c.in_err-holds_in.ensures.means c.args.turns m k))

pub if_then-returns-then-branch-clause-means : goal.if_then-returns-then-branch-clause-means
if_then-returns-then-branch-clause-means g t c = λ m k span. bound flow_of _ _ true (world_of c.holds_in.new.w) c.execute.result (world_of c.execute.new.w) (subst (λ (b : Bool). holds_at c.args.b.now c.args.names.now m c.args.turns (standing_of c.args.st.now) (placed_view c.args.condition.now) (world_of c.args.w.now) ≡ Has b (world_of c.holds_in.new.w)) c.if-branch.true (c.in_ok-holds_in.ensures.means c.args.turns m k)) (c.execute.ensures.means m k)

pub if_then-returns-then-branch-clause-scope : goal.if_then-returns-then-branch-clause-scope
if_then-returns-then-branch-clause-scope g t c = ok_kept c.execute.result c.args.st.now.scope (standing_of c.execute.new.st) (behind c.args.b.now.program.now (standing_of c.args.st.now) (placed_statement c.args.then.now)) (behind_grows c.args.b.now.program.now (standing_of c.args.st.now) (placed_statement c.args.then.now)) c.execute.ensures.behind

pub if_then-returns-else-branch-clause-means : goal.if_then-returns-else-branch-clause-means
if_then-returns-else-branch-clause-means g t c = λ m k span. has_behind _ _ false (world_of c.holds_in.new.w) _ (subst (λ (b : Bool). holds_at c.args.b.now c.args.names.now m c.args.turns (standing_of c.args.st.now) (placed_view c.args.condition.now) (world_of c.args.w.now) ≡ Has b (world_of c.holds_in.new.w)) c.if-branch.false (c.in_ok-holds_in.ensures.means c.args.turns m k)) refl

pub if_else-returns-in_err-holds_in-in-IfElse-clause-means : goal.if_else-returns-in_err-holds_in-in-IfElse-clause-means
if_else-returns-in_err-holds_in-in-IfElse-clause-means g t c = λ m k. subst (λ (x : Stmt). MeansAs flow_of (runs_at c.args.b.now c.args.names.now m c.args.turns (standing_of c.args.st.now) (placed_statement x) (world_of c.args.w.now)) c.from_residual.result (world_of c.holds_in.new.w)) (sym c.in-IfElse.is) (stops flow_of _ c.in_err-holds_in-in-IfElse.field-0.0 c.from_residual.result (world_of c.holds_in.new.w) c.from_residual.ensures.1 (stop_then c.in_err-holds_in-in-IfElse.field-0.0 _ _ _ (subst (λ (q : Expr). IsStop c.in_err-holds_in-in-IfElse.field-0.0 (holds_at c.args.b.now c.args.names.now m c.args.turns (standing_of c.args.st.now) (placed_view q) (world_of c.args.w.now)) c.holds_in.new.w.out.items) c.deref.ensures (c.in_err-holds_in-in-IfElse.ensures.means c.args.turns m k))))

pub if_else-returns-then-branch-clause-means : goal.if_else-returns-then-branch-clause-means
if_else-returns-then-branch-clause-means g t c = λ m k. subst (λ (x : Stmt). MeansAs flow_of (runs_at c.args.b.now c.args.names.now m c.args.turns (standing_of c.args.st.now) (placed_statement x) (world_of c.args.w.now)) c.execute.result (world_of c.execute.new.w)) (sym c.in-IfElse.is) (bound flow_of _ _ true (world_of c.holds_in.new.w) c.execute.result (world_of c.execute.new.w) (subst (λ (b : Bool). holds_at c.args.b.now c.args.names.now m c.args.turns (standing_of c.args.st.now) (placed_view c.in-IfElse.condition.value) (world_of c.args.w.now) ≡ Has b (world_of c.holds_in.new.w)) c.if-branch.true (subst (λ (q : Expr). holds_at c.args.b.now c.args.names.now m c.args.turns (standing_of c.args.st.now) (placed_view q) (world_of c.args.w.now) ≡ Has c.in_ok-holds_in-in-IfElse.field-0 (world_of c.holds_in.new.w)) c.deref.ensures (c.in_ok-holds_in-in-IfElse.ensures.means c.args.turns m k))) (subst (λ (x : Stmt). MeansAs flow_of (runs_at c.args.b.now c.args.names.now m c.args.turns (standing_of c.args.st.now) (placed_statement x) (world_of c.holds_in.new.w)) c.execute.result (world_of c.execute.new.w)) c.deref-then-branch.ensures (c.execute.ensures.means m k)))

pub if_else-returns-then-branch-clause-scope : goal.if_else-returns-then-branch-clause-scope
if_else-returns-then-branch-clause-scope g t c = ok_kept c.execute.result c.args.st.now.scope (standing_of c.execute.new.st) (behind c.args.b.now.program.now (standing_of c.args.st.now) (placed_statement c.deref-then-branch.result.now)) (behind_grows c.args.b.now.program.now (standing_of c.args.st.now) (placed_statement c.deref-then-branch.result.now)) c.execute.ensures.behind

pub if_else-returns-in_err-pass_over-in-IfElse-clause-means : goal.if_else-returns-in_err-pass_over-in-IfElse-clause-means
if_else-returns-in_err-pass_over-in-IfElse-clause-means g t c = λ m k. stops flow_of _ c.in_err-pass_over-in-IfElse.field-0.0 c.from_residual-in_err-pass_over-in-IfElse.result (world_of c.holds_in.new.w) c.from_residual-in_err-pass_over-in-IfElse.ensures.1 (memory c.in_err-pass_over-in-IfElse.field-0.0 _ _ c.in_err-pass_over-in-IfElse.ensures)

pub if_else-returns-clause-means : goal.if_else-returns-clause-means
if_else-returns-clause-means g t c = λ m k. subst (λ (x : Stmt). MeansAs flow_of (runs_at c.args.b.now c.args.names.now m c.args.turns (standing_of c.args.st.now) (placed_statement x) (world_of c.args.w.now)) c.execute-in-IfElse.result (world_of c.execute-in-IfElse.new.w)) (sym c.in-IfElse.is) (bound flow_of _ _ false (world_of c.holds_in.new.w) c.execute-in-IfElse.result (world_of c.execute-in-IfElse.new.w) (subst (λ (b : Bool). holds_at c.args.b.now c.args.names.now m c.args.turns (standing_of c.args.st.now) (placed_view c.in-IfElse.condition.value) (world_of c.args.w.now) ≡ Has b (world_of c.holds_in.new.w)) c.if-branch.false (subst (λ (q : Expr). holds_at c.args.b.now c.args.names.now m c.args.turns (standing_of c.args.st.now) (placed_view q) (world_of c.args.w.now) ≡ Has c.in_ok-holds_in-in-IfElse.field-0 (world_of c.holds_in.new.w)) c.deref.ensures (c.in_ok-holds_in-in-IfElse.ensures.means c.args.turns m k))) (subst (λ (x : Stmt). MeansAs flow_of (runs_at c.args.b.now c.args.names.now m c.args.turns (behind c.args.b.now.program.now (standing_of c.args.st.now) (placed_statement x)) (placed_statement c.in-IfElse.otherwise.value) (world_of c.holds_in.new.w)) c.execute-in-IfElse.result (world_of c.execute-in-IfElse.new.w)) c.deref-in-IfElse.ensures (subst (λ (s : Standing). MeansAs flow_of (runs_at c.args.b.now c.args.names.now m c.args.turns s (placed_statement c.in-IfElse.otherwise.value) (world_of c.holds_in.new.w)) c.execute-in-IfElse.result (world_of c.execute-in-IfElse.new.w)) c.in_ok-pass_over-in-IfElse.ensures (subst (λ (x : Stmt). MeansAs flow_of (runs_at c.args.b.now c.args.names.now m c.args.turns (standing_of c.pass_over.new.st) (placed_statement x) (world_of c.holds_in.new.w)) c.execute-in-IfElse.result (world_of c.execute-in-IfElse.new.w)) c.deref-in-IfElse-2.ensures (c.execute-in-IfElse.ensures.means m k)))))

pub if_else-returns-clause-scope : goal.if_else-returns-clause-scope
if_else-returns-clause-scope g t c = ok_on c.execute-in-IfElse.result c.args.st.now.scope c.pass_over.new.st.scope c.execute-in-IfElse.new.st.scope (grown_to c.args.st.now.scope (behind c.args.b.now.program.now (standing_of c.args.st.now) (placed_statement c.deref-in-IfElse.result.now)).scope c.pass_over.new.st.scope (behind_grows c.args.b.now.program.now (standing_of c.args.st.now) (placed_statement c.deref-in-IfElse.result.now)) (ap (λ (s : Standing). s.scope) c.in_ok-pass_over-in-IfElse.ensures)) (ok_kept c.execute-in-IfElse.result c.pass_over.new.st.scope (standing_of c.execute-in-IfElse.new.st) (behind c.args.b.now.program.now (standing_of c.pass_over.new.st) (placed_statement c.deref-in-IfElse-2.result.now)) (behind_grows c.args.b.now.program.now (standing_of c.pass_over.new.st) (placed_statement c.deref-in-IfElse-2.result.now)) c.execute-in-IfElse.ensures.behind)

pub turn-returns-in_err-flow-clause-means : goal.turn-returns-in_err-flow-clause-means
turn-returns-in_err-flow-clause-means g t c = λ m k. stops left_of _ c.in_err-flow.field-0.0 c.from_residual.result (world_of c.execute.new.w) c.from_residual.ensures.1 (stop_then c.in_err-flow.field-0.0 _ _ _ (c.in_err-flow.ensures.means m k))

pub turn-returns-in_err-left-clause-means : goal.turn-returns-in_err-left-clause-means
turn-returns-in_err-left-clause-means g t c = λ m k. stops left_of _ c.in_err-left.field-0.0 c.from_residual-in_err-left.result (world_of c.update.new.w) c.from_residual-in_err-left.ensures.1 (stop_behind c.in_err-left.field-0.0 _ _ (flow_of c.in_ok-flow.flow) (world_of c.execute.new.w) _ (c.in_ok-flow.ensures.means m k) (subst (λ (s : Standing). IsStop c.in_err-left.field-0.0 (updated (leaves (flow_of c.in_ok-flow.flow)) (world_of c.execute.new.w) (effects_at c.args.b.now c.args.names.now m c.args.turns s (placed_views c.args.updates.now))) c.update.new.w.out.items) c.in_ok-flow.ensures.behind (subst (λ (o : Option Flow). IsStop c.in_err-left.field-0.0 (updated o (world_of c.execute.new.w) (effects_at c.args.b.now c.args.names.now m c.args.turns (standing_of c.execute.new.st) (placed_views c.args.updates.now))) c.update.new.w.out.items) c.leaves.ensures (c.in_err-left.ensures.means c.args.turns m k))))

pub turn-returns-clause-means : goal.turn-returns-clause-means
turn-returns-clause-means g t c = λ m k. has_behind _ _ (flow_of c.in_ok-flow.flow) (world_of c.execute.new.w) _ (c.in_ok-flow.ensures.means m k) (subst (λ (s : Standing). updated (leaves (flow_of c.in_ok-flow.flow)) (world_of c.execute.new.w) (effects_at c.args.b.now c.args.names.now m c.args.turns s (placed_views c.args.updates.now)) ≡ Has (left_of c.in_ok-left.left) (world_of c.update.new.w)) c.in_ok-flow.ensures.behind (subst (λ (o : Option Flow). updated o (world_of c.execute.new.w) (effects_at c.args.b.now c.args.names.now m c.args.turns (standing_of c.execute.new.st) (placed_views c.args.updates.now)) ≡ Has (left_of c.in_ok-left.left) (world_of c.update.new.w)) c.leaves.ensures (c.in_ok-left.ensures.means c.args.turns m k)))

pub turn-returns-clause-stays : goal.turn-returns-clause-stays
turn-returns-clause-stays g t c = back_behind c.args.b.now.program.now (standing_of c.args.st.now) (standing_of c.execute.new.st) (standing_of c.back.new.self) (placed_statement c.args.body.now) c.mark-before.result.names c.mark-before.result.count c.in_ok-flow.ensures.behind c.mark-before.ensures.names c.mark-before.ensures.count c.back.ensures

pub turn_do-returns-in_err-flow-clause-means : goal.turn_do-returns-in_err-flow-clause-means
turn_do-returns-in_err-flow-clause-means g t c = λ m k. stops left_of _ c.in_err-flow.field-0.0 c.from_residual.result (world_of c.execute.new.w) c.from_residual.ensures.1 (stop_then c.in_err-flow.field-0.0 _ _ _ (c.in_err-flow.ensures.means m k))

pub turn_do-returns-in_err-left-clause-means : goal.turn_do-returns-in_err-left-clause-means
turn_do-returns-in_err-left-clause-means g t c = λ m k. stops left_of _ c.in_err-left.field-0.0 c.from_residual-in_err-left.result (world_of c.conclude.new.w) c.from_residual-in_err-left.ensures.1 (stop_behind c.in_err-left.field-0.0 _ _ (flow_of c.in_ok-flow.flow) (world_of c.execute.new.w) _ (c.in_ok-flow.ensures.means m k) (subst (λ (s : Standing). IsStop c.in_err-left.field-0.0 (concluded (leaves (flow_of c.in_ok-flow.flow)) (world_of c.execute.new.w) (holds_at c.args.b.now c.args.names.now m c.args.turns s (placed_view c.args.condition.now))) c.conclude.new.w.out.items) c.in_ok-flow.ensures.behind (subst (λ (o : Option Flow). IsStop c.in_err-left.field-0.0 (concluded o (world_of c.execute.new.w) (holds_at c.args.b.now c.args.names.now m c.args.turns (standing_of c.execute.new.st) (placed_view c.args.condition.now))) c.conclude.new.w.out.items) c.leaves.ensures (c.in_err-left.ensures.means c.args.turns m k))))

pub turn_do-returns-clause-means : goal.turn_do-returns-clause-means
turn_do-returns-clause-means g t c = λ m k. has_behind _ _ (flow_of c.in_ok-flow.flow) (world_of c.execute.new.w) _ (c.in_ok-flow.ensures.means m k) (subst (λ (s : Standing). concluded (leaves (flow_of c.in_ok-flow.flow)) (world_of c.execute.new.w) (holds_at c.args.b.now c.args.names.now m c.args.turns s (placed_view c.args.condition.now)) ≡ Has (left_of c.in_ok-left.left) (world_of c.conclude.new.w)) c.in_ok-flow.ensures.behind (subst (λ (o : Option Flow). concluded o (world_of c.execute.new.w) (holds_at c.args.b.now c.args.names.now m c.args.turns (standing_of c.execute.new.st) (placed_view c.args.condition.now)) ≡ Has (left_of c.in_ok-left.left) (world_of c.conclude.new.w)) c.leaves.ensures (c.in_ok-left.ensures.means c.args.turns m k)))

pub turn_do-returns-clause-stays : goal.turn_do-returns-clause-stays
turn_do-returns-clause-stays g t c = back_behind c.args.b.now.program.now (standing_of c.args.st.now) (standing_of c.execute.new.st) (standing_of c.back.new.self) (placed_statement c.args.body.now) c.mark-before.result.names c.mark-before.result.count c.in_ok-flow.ensures.behind c.mark-before.ensures.names c.mark-before.ensures.count c.back.ensures

pub turn_each-returns-in_err-take-clause-means : goal.turn_each-returns-in_err-take-clause-means
turn_each-returns-in_err-take-clause-means g t c = λ m k r hidden. stops left_of _ c.in_err-take.field-0.0 c.from_residual.result (world_of c.take.new.w) c.from_residual.ensures.1 (stop_then c.in_err-take.field-0.0 _ _ _ (stop_then c.in_err-take.field-0.0 _ _ _ (c.in_err-take.ensures c.args.names.now c.args.turns m r hidden)))

pub turn_each-returns-in_err-flow-clause-means : goal.turn_each-returns-in_err-flow-clause-means
turn_each-returns-in_err-flow-clause-means g t c = λ m k r hidden. stops left_of _ c.in_err-flow.field-0.0 c.from_residual-in_err-flow.result (world_of c.execute.new.w) c.from_residual-in_err-flow.ensures.1 (stop_then c.in_err-flow.field-0.0 _ _ _ (stop_behind c.in_err-flow.field-0.0 _ _ c.in_ok-take.field-0 (world_of c.take.new.w) _ (c.in_ok-take.ensures c.args.names.now c.args.turns m r hidden) (c.in_err-flow.ensures.means m k)))

pub turn_each-returns-in_err-left-clause-means : goal.turn_each-returns-in_err-left-clause-means
turn_each-returns-in_err-left-clause-means g t c = λ m k r hidden. stops left_of _ c.in_err-left.field-0.0 c.from_residual-in_err-left.result (world_of c.update.new.w) c.from_residual-in_err-left.ensures.1 (stop_behind c.in_err-left.field-0.0 _ _ (flow_of c.in_ok-flow.flow) (world_of c.execute.new.w) _ (has_behind _ _ c.in_ok-take.field-0 (world_of c.take.new.w) _ (c.in_ok-take.ensures c.args.names.now c.args.turns m r hidden) (c.in_ok-flow.ensures.means m k)) (subst (λ (o : Option Flow). IsStop c.in_err-left.field-0.0 (updated o (world_of c.execute.new.w) (λ w. then_onward (each_moves c.args.b.now c.args.names.now m c.args.turns c.args.locals.at r w))) c.update.new.w.out.items) c.leaves.ensures (c.in_err-left.ensures c.args.names.now c.args.turns m r hidden)))

pub turn_each-returns-clause-means : goal.turn_each-returns-clause-means
turn_each-returns-clause-means g t c = λ m k r hidden. has_behind _ _ (flow_of c.in_ok-flow.flow) (world_of c.execute.new.w) _ (has_behind _ _ c.in_ok-take.field-0 (world_of c.take.new.w) _ (c.in_ok-take.ensures c.args.names.now c.args.turns m r hidden) (c.in_ok-flow.ensures.means m k)) (subst (λ (o : Option Flow). updated o (world_of c.execute.new.w) (λ w. then_onward (each_moves c.args.b.now c.args.names.now m c.args.turns c.args.locals.at r w)) ≡ Has (left_of c.in_ok-left.left) (world_of c.update.new.w)) c.leaves.ensures (c.in_ok-left.ensures c.args.names.now c.args.turns m r hidden))

pub turn_each-returns-clause-stays : goal.turn_each-returns-clause-stays
turn_each-returns-clause-stays g t c = back_behind c.args.b.now.program.now (standing_of c.args.st.now) (standing_of c.execute.new.st) (standing_of c.back.new.self) (placed_statement c.args.body.now) c.mark-before.result.names c.mark-before.result.count c.in_ok-flow.ensures.behind c.mark-before.ensures.names c.mark-before.ensures.count c.back.ensures

pub repeat-returns-in_err-tested-clause-means : goal.repeat-returns-in_err-tested-clause-means
repeat-returns-in_err-tested-clause-means g t c = λ m k. stops flow_of _ c.in_err-tested.field-0.0 c.from_residual.result (world_of c.tested.new.w) c.from_residual.ensures.1 (stop_same c.in_err-tested.field-0.0 _ _ _ (c.loop.invariant.1 m k ∙ tests c.args.turns c.loop.counter (holds_at c.args.b.now c.args.names.now m c.args.turns (standing_of c.args.st.now) (placed_view c.args.condition.now)) (runs_at c.args.b.now c.args.names.now m c.args.turns (standing_of c.args.st.now) (placed_statement c.args.body.now)) (effects_at c.args.b.now c.args.names.now m c.args.turns (behind c.args.b.now.program.now (standing_of c.args.st.now) (placed_statement c.args.body.now)) (placed_views c.args.updates.now)) (world_of c.loop.w) c.loop-test.true) (stop_then c.in_err-tested.field-0.0 _ _ _ ((subst (λ (s : Standing). IsStop c.in_err-tested.field-0.0 (tested (holds_at c.args.b.now c.args.names.now m c.args.turns s (placed_view c.args.condition.now)) (world_of c.loop.w)) c.tested.new.w.out.items) c.loop.invariant.0 (c.in_err-tested.ensures.means c.args.turns m k)))))

pub repeat-returns-then-not-branch-clause-means : goal.repeat-returns-then-not-branch-clause-means
repeat-returns-then-not-branch-clause-means g t c = λ m k. c.loop.invariant.1 m k ∙ ends c.args.turns c.loop.counter (holds_at c.args.b.now c.args.names.now m c.args.turns (standing_of c.args.st.now) (placed_view c.args.condition.now)) (runs_at c.args.b.now c.args.names.now m c.args.turns (standing_of c.args.st.now) (placed_statement c.args.body.now)) (effects_at c.args.b.now c.args.names.now m c.args.turns (behind c.args.b.now.program.now (standing_of c.args.st.now) (placed_statement c.args.body.now)) (placed_views c.args.updates.now)) (world_of c.loop.w) (world_of c.tested.new.w) c.loop-test.true (subst (λ (b : Bool). tested (holds_at c.args.b.now c.args.names.now m c.args.turns (standing_of c.args.st.now) (placed_view c.args.condition.now)) (world_of c.loop.w) ≡ Has b (world_of c.tested.new.w)) c.if-not-branch.true (subst (λ (s : Standing). tested (holds_at c.args.b.now c.args.names.now m c.args.turns s (placed_view c.args.condition.now)) (world_of c.loop.w) ≡ Has c.in_ok-tested.field-0 (world_of c.tested.new.w)) c.loop.invariant.0 (c.in_ok-tested.ensures.means c.args.turns m k)))

pub repeat-returns-then-not-branch-clause-stays : goal.repeat-returns-then-not-branch-clause-stays
repeat-returns-then-not-branch-clause-stays g t c = c.loop.invariant.0

pub repeat-returns-in_err-flow-clause-means : goal.repeat-returns-in_err-flow-clause-means
repeat-returns-in_err-flow-clause-means g t c = λ m k. stops flow_of _ c.in_err-flow.field-0.0 c.from_residual-in_err-flow.result (world_of c.turn.new.w) c.from_residual-in_err-flow.ensures.1 (stop_same c.in_err-flow.field-0.0 _ _ _ (c.loop.invariant.1 m k ∙ turns_once c.args.turns c.loop.counter (holds_at c.args.b.now c.args.names.now m c.args.turns (standing_of c.args.st.now) (placed_view c.args.condition.now)) (runs_at c.args.b.now c.args.names.now m c.args.turns (standing_of c.args.st.now) (placed_statement c.args.body.now)) (effects_at c.args.b.now c.args.names.now m c.args.turns (behind c.args.b.now.program.now (standing_of c.args.st.now) (placed_statement c.args.body.now)) (placed_views c.args.updates.now)) (world_of c.loop.w) (world_of c.tested.new.w) c.loop-test.true (subst (λ (b : Bool). tested (holds_at c.args.b.now c.args.names.now m c.args.turns (standing_of c.args.st.now) (placed_view c.args.condition.now)) (world_of c.loop.w) ≡ Has b (world_of c.tested.new.w)) c.if-not-branch.false (subst (λ (s : Standing). tested (holds_at c.args.b.now c.args.names.now m c.args.turns s (placed_view c.args.condition.now)) (world_of c.loop.w) ≡ Has c.in_ok-tested.field-0 (world_of c.tested.new.w)) c.loop.invariant.0 (c.in_ok-tested.ensures.means c.args.turns m k)))) (stop_then c.in_err-flow.field-0.0 _ _ _ ((subst (λ (s : Standing). IsStop c.in_err-flow.field-0.0 (round (runs_at c.args.b.now c.args.names.now m c.args.turns s (placed_statement c.args.body.now)) (effects_at c.args.b.now c.args.names.now m c.args.turns (behind c.args.b.now.program.now s (placed_statement c.args.body.now)) (placed_views c.args.updates.now)) (world_of c.tested.new.w)) c.turn.new.w.out.items) c.loop.invariant.0 (c.in_err-flow.ensures.means m k)))))

pub repeat-returns-in-Some-clause-means : goal.repeat-returns-in-Some-clause-means
repeat-returns-in-Some-clause-means g t c = λ m k. c.loop.invariant.1 m k ∙ turns_once c.args.turns c.loop.counter (holds_at c.args.b.now c.args.names.now m c.args.turns (standing_of c.args.st.now) (placed_view c.args.condition.now)) (runs_at c.args.b.now c.args.names.now m c.args.turns (standing_of c.args.st.now) (placed_statement c.args.body.now)) (effects_at c.args.b.now c.args.names.now m c.args.turns (behind c.args.b.now.program.now (standing_of c.args.st.now) (placed_statement c.args.body.now)) (placed_views c.args.updates.now)) (world_of c.loop.w) (world_of c.tested.new.w) c.loop-test.true (subst (λ (b : Bool). tested (holds_at c.args.b.now c.args.names.now m c.args.turns (standing_of c.args.st.now) (placed_view c.args.condition.now)) (world_of c.loop.w) ≡ Has b (world_of c.tested.new.w)) c.if-not-branch.false (subst (λ (s : Standing). tested (holds_at c.args.b.now c.args.names.now m c.args.turns s (placed_view c.args.condition.now)) (world_of c.loop.w) ≡ Has c.in_ok-tested.field-0 (world_of c.tested.new.w)) c.loop.invariant.0 (c.in_ok-tested.ensures.means c.args.turns m k))) ∙ is_left _ _ (flow_of c.in-Some.flow) (world_of c.turn.new.w) (subst (λ (o : Option code.Flow). round (runs_at c.args.b.now c.args.names.now m c.args.turns (standing_of c.args.st.now) (placed_statement c.args.body.now)) (effects_at c.args.b.now c.args.names.now m c.args.turns (behind c.args.b.now.program.now (standing_of c.args.st.now) (placed_statement c.args.body.now)) (placed_views c.args.updates.now)) (world_of c.tested.new.w) ≡ Has (left_of o) (world_of c.turn.new.w)) c.in-Some.is (subst (λ (s : Standing). round (runs_at c.args.b.now c.args.names.now m c.args.turns s (placed_statement c.args.body.now)) (effects_at c.args.b.now c.args.names.now m c.args.turns (behind c.args.b.now.program.now s (placed_statement c.args.body.now)) (placed_views c.args.updates.now)) (world_of c.tested.new.w) ≡ Has (left_of c.in_ok-flow.field-0) (world_of c.turn.new.w)) c.loop.invariant.0 (c.in_ok-flow.ensures.means m k)))

pub repeat-returns-in-Some-clause-stays : goal.repeat-returns-in-Some-clause-stays
repeat-returns-in-Some-clause-stays g t c = c.in_ok-flow.ensures.stays ∙ c.loop.invariant.0

pub repeat-loop-init : goal.repeat-loop-init
repeat-loop-init g t c = (refl, λ m k. ap (λ n. repeated n (holds_at c.args.b.now c.args.names.now m c.args.turns (standing_of c.args.st.now) (placed_view c.args.condition.now)) (runs_at c.args.b.now c.args.names.now m c.args.turns (standing_of c.args.st.now) (placed_statement c.args.body.now)) (effects_at c.args.b.now c.args.names.now m c.args.turns (behind c.args.b.now.program.now (standing_of c.args.st.now) (placed_statement c.args.body.now)) (placed_views c.args.updates.now)) (world_of c.args.w.now)) (begins c.args.turns))

pub repeat-loop-preserved : goal.repeat-loop-preserved
repeat-loop-preserved g t c = (c.in_ok-flow.ensures.stays ∙ c.loop.invariant.0, λ m k. c.loop.invariant.1 m k ∙ turns_once c.args.turns c.loop.counter (holds_at c.args.b.now c.args.names.now m c.args.turns (standing_of c.args.st.now) (placed_view c.args.condition.now)) (runs_at c.args.b.now c.args.names.now m c.args.turns (standing_of c.args.st.now) (placed_statement c.args.body.now)) (effects_at c.args.b.now c.args.names.now m c.args.turns (behind c.args.b.now.program.now (standing_of c.args.st.now) (placed_statement c.args.body.now)) (placed_views c.args.updates.now)) (world_of c.loop.w) (world_of c.tested.new.w) c.loop-test.true (subst (λ (b : Bool). tested (holds_at c.args.b.now c.args.names.now m c.args.turns (standing_of c.args.st.now) (placed_view c.args.condition.now)) (world_of c.loop.w) ≡ Has b (world_of c.tested.new.w)) c.if-not-branch.false (subst (λ (s : Standing). tested (holds_at c.args.b.now c.args.names.now m c.args.turns s (placed_view c.args.condition.now)) (world_of c.loop.w) ≡ Has c.in_ok-tested.field-0 (world_of c.tested.new.w)) c.loop.invariant.0 (c.in_ok-tested.ensures.means c.args.turns m k))) ∙ goes_on _ _ (world_of c.turn.new.w) (subst (λ (o : Option code.Flow). round (runs_at c.args.b.now c.args.names.now m c.args.turns (standing_of c.args.st.now) (placed_statement c.args.body.now)) (effects_at c.args.b.now c.args.names.now m c.args.turns (behind c.args.b.now.program.now (standing_of c.args.st.now) (placed_statement c.args.body.now)) (placed_views c.args.updates.now)) (world_of c.tested.new.w) ≡ Has (left_of o) (world_of c.turn.new.w)) c.in_default.is (subst (λ (s : Standing). round (runs_at c.args.b.now c.args.names.now m c.args.turns s (placed_statement c.args.body.now)) (effects_at c.args.b.now c.args.names.now m c.args.turns (behind c.args.b.now.program.now s (placed_statement c.args.body.now)) (placed_views c.args.updates.now)) (world_of c.tested.new.w) ≡ Has (left_of c.in_ok-flow.field-0) (world_of c.turn.new.w)) c.loop.invariant.0 (c.in_ok-flow.ensures.means m k))))

pub repeat-returns-clause-means : goal.repeat-returns-clause-means
repeat-returns-clause-means g t c = λ m k. subst (λ (q : Result Flow). MeansAs flow_of q c.last_test.result (world_of c.last_test.new.w)) (sym (c.loop.invariant.1 m k ∙ last c.args.turns c.loop.counter (holds_at c.args.b.now c.args.names.now m c.args.turns (standing_of c.args.st.now) (placed_view c.args.condition.now)) (runs_at c.args.b.now c.args.names.now m c.args.turns (standing_of c.args.st.now) (placed_statement c.args.body.now)) (effects_at c.args.b.now c.args.names.now m c.args.turns (behind c.args.b.now.program.now (standing_of c.args.st.now) (placed_statement c.args.body.now)) (placed_views c.args.updates.now)) (world_of c.loop.w) c.loop-test.false)) (subst (λ (s : Standing). MeansAs flow_of (last_test (holds_at c.args.b.now c.args.names.now m c.args.turns s (placed_view c.args.condition.now)) (world_of c.loop.w)) c.last_test.result (world_of c.last_test.new.w)) c.loop.invariant.0 (c.last_test.ensures.means c.args.turns m k))

pub repeat-returns-clause-stays : goal.repeat-returns-clause-stays
repeat-returns-clause-stays g t c = on_ok c.last_test.result c.loop.invariant.0

pub repeat_each-returns-in_err-tested-clause-means : goal.repeat_each-returns-in_err-tested-clause-means
repeat_each-returns-in_err-tested-clause-means g t c = λ m k r hidden. stops flow_of _ c.in_err-tested.field-0.0 c.from_residual.result (world_of c.tested.new.w) c.from_residual.ensures.1 (stop_same c.in_err-tested.field-0.0 _ _ _ (c.loop.invariant.1 m k r hidden ∙ tests c.args.turns c.loop.counter (each_holds c.args.b.now c.args.names.now m c.args.turns c.args.locals.at r) (λ w. then_do (each_takes c.args.b.now c.args.names.now m c.args.turns c.args.locals.at r w) (λ x w. runs_at c.args.b.now c.args.names.now m c.args.turns (standing_of c.args.st.now) (placed_statement c.args.body.now) w)) (λ w. then_onward (each_moves c.args.b.now c.args.names.now m c.args.turns c.args.locals.at r w)) (world_of c.loop.w) c.loop-test.true) (stop_then c.in_err-tested.field-0.0 _ _ _ ((subst (λ (s : Standing). IsStop c.in_err-tested.field-0.0 (tested (each_holds c.args.b.now c.args.names.now m c.args.turns c.args.locals.at r) (world_of c.loop.w)) c.tested.new.w.out.items) c.loop.invariant.0 (c.in_err-tested.ensures c.args.names.now c.args.turns m r hidden)))))

pub repeat_each-returns-then-not-branch-clause-means : goal.repeat_each-returns-then-not-branch-clause-means
repeat_each-returns-then-not-branch-clause-means g t c = λ m k r hidden. c.loop.invariant.1 m k r hidden ∙ ends c.args.turns c.loop.counter (each_holds c.args.b.now c.args.names.now m c.args.turns c.args.locals.at r) (λ w. then_do (each_takes c.args.b.now c.args.names.now m c.args.turns c.args.locals.at r w) (λ x w. runs_at c.args.b.now c.args.names.now m c.args.turns (standing_of c.args.st.now) (placed_statement c.args.body.now) w)) (λ w. then_onward (each_moves c.args.b.now c.args.names.now m c.args.turns c.args.locals.at r w)) (world_of c.loop.w) (world_of c.tested.new.w) c.loop-test.true (subst (λ (b : Bool). tested (each_holds c.args.b.now c.args.names.now m c.args.turns c.args.locals.at r) (world_of c.loop.w) ≡ Has b (world_of c.tested.new.w)) c.if-not-branch.true (subst (λ (s : Standing). tested (each_holds c.args.b.now c.args.names.now m c.args.turns c.args.locals.at r) (world_of c.loop.w) ≡ Has c.in_ok-tested.field-0 (world_of c.tested.new.w)) c.loop.invariant.0 (c.in_ok-tested.ensures c.args.names.now c.args.turns m r hidden)))

pub repeat_each-returns-then-not-branch-clause-stays : goal.repeat_each-returns-then-not-branch-clause-stays
repeat_each-returns-then-not-branch-clause-stays g t c = c.loop.invariant.0

pub repeat_each-returns-in_err-flow-clause-means : goal.repeat_each-returns-in_err-flow-clause-means
repeat_each-returns-in_err-flow-clause-means g t c = λ m k r hidden. stops flow_of _ c.in_err-flow.field-0.0 c.from_residual-in_err-flow.result (world_of c.turn_each.new.w) c.from_residual-in_err-flow.ensures.1 (stop_same c.in_err-flow.field-0.0 _ _ _ (c.loop.invariant.1 m k r hidden ∙ turns_once c.args.turns c.loop.counter (each_holds c.args.b.now c.args.names.now m c.args.turns c.args.locals.at r) (λ w. then_do (each_takes c.args.b.now c.args.names.now m c.args.turns c.args.locals.at r w) (λ x w. runs_at c.args.b.now c.args.names.now m c.args.turns (standing_of c.args.st.now) (placed_statement c.args.body.now) w)) (λ w. then_onward (each_moves c.args.b.now c.args.names.now m c.args.turns c.args.locals.at r w)) (world_of c.loop.w) (world_of c.tested.new.w) c.loop-test.true (subst (λ (b : Bool). tested (each_holds c.args.b.now c.args.names.now m c.args.turns c.args.locals.at r) (world_of c.loop.w) ≡ Has b (world_of c.tested.new.w)) c.if-not-branch.false (subst (λ (s : Standing). tested (each_holds c.args.b.now c.args.names.now m c.args.turns c.args.locals.at r) (world_of c.loop.w) ≡ Has c.in_ok-tested.field-0 (world_of c.tested.new.w)) c.loop.invariant.0 (c.in_ok-tested.ensures c.args.names.now c.args.turns m r hidden)))) (stop_then c.in_err-flow.field-0.0 _ _ _ ((subst (λ (s : Standing). IsStop c.in_err-flow.field-0.0 (round (λ w. then_do (each_takes c.args.b.now c.args.names.now m c.args.turns c.args.locals.at r w) (λ x w. runs_at c.args.b.now c.args.names.now m c.args.turns s (placed_statement c.args.body.now) w)) (λ w. then_onward (each_moves c.args.b.now c.args.names.now m c.args.turns c.args.locals.at r w)) (world_of c.tested.new.w)) c.turn_each.new.w.out.items) c.loop.invariant.0 (c.in_err-flow.ensures.means m k r hidden)))))

pub repeat_each-returns-in-Some-clause-means : goal.repeat_each-returns-in-Some-clause-means
repeat_each-returns-in-Some-clause-means g t c = λ m k r hidden. c.loop.invariant.1 m k r hidden ∙ turns_once c.args.turns c.loop.counter (each_holds c.args.b.now c.args.names.now m c.args.turns c.args.locals.at r) (λ w. then_do (each_takes c.args.b.now c.args.names.now m c.args.turns c.args.locals.at r w) (λ x w. runs_at c.args.b.now c.args.names.now m c.args.turns (standing_of c.args.st.now) (placed_statement c.args.body.now) w)) (λ w. then_onward (each_moves c.args.b.now c.args.names.now m c.args.turns c.args.locals.at r w)) (world_of c.loop.w) (world_of c.tested.new.w) c.loop-test.true (subst (λ (b : Bool). tested (each_holds c.args.b.now c.args.names.now m c.args.turns c.args.locals.at r) (world_of c.loop.w) ≡ Has b (world_of c.tested.new.w)) c.if-not-branch.false (subst (λ (s : Standing). tested (each_holds c.args.b.now c.args.names.now m c.args.turns c.args.locals.at r) (world_of c.loop.w) ≡ Has c.in_ok-tested.field-0 (world_of c.tested.new.w)) c.loop.invariant.0 (c.in_ok-tested.ensures c.args.names.now c.args.turns m r hidden))) ∙ is_left _ _ (flow_of c.in-Some.flow) (world_of c.turn_each.new.w) (subst (λ (o : Option code.Flow). round (λ w. then_do (each_takes c.args.b.now c.args.names.now m c.args.turns c.args.locals.at r w) (λ x w. runs_at c.args.b.now c.args.names.now m c.args.turns (standing_of c.args.st.now) (placed_statement c.args.body.now) w)) (λ w. then_onward (each_moves c.args.b.now c.args.names.now m c.args.turns c.args.locals.at r w)) (world_of c.tested.new.w) ≡ Has (left_of o) (world_of c.turn_each.new.w)) c.in-Some.is (subst (λ (s : Standing). round (λ w. then_do (each_takes c.args.b.now c.args.names.now m c.args.turns c.args.locals.at r w) (λ x w. runs_at c.args.b.now c.args.names.now m c.args.turns s (placed_statement c.args.body.now) w)) (λ w. then_onward (each_moves c.args.b.now c.args.names.now m c.args.turns c.args.locals.at r w)) (world_of c.tested.new.w) ≡ Has (left_of c.in_ok-flow.field-0) (world_of c.turn_each.new.w)) c.loop.invariant.0 (c.in_ok-flow.ensures.means m k r hidden)))

pub repeat_each-returns-in-Some-clause-stays : goal.repeat_each-returns-in-Some-clause-stays
repeat_each-returns-in-Some-clause-stays g t c = c.in_ok-flow.ensures.stays ∙ c.loop.invariant.0

pub repeat_each-loop-init : goal.repeat_each-loop-init
repeat_each-loop-init g t c = (refl, λ m k r hidden. ap (λ n. repeated n (each_holds c.args.b.now c.args.names.now m c.args.turns c.args.locals.at r) (λ w. then_do (each_takes c.args.b.now c.args.names.now m c.args.turns c.args.locals.at r w) (λ x w. runs_at c.args.b.now c.args.names.now m c.args.turns (standing_of c.args.st.now) (placed_statement c.args.body.now) w)) (λ w. then_onward (each_moves c.args.b.now c.args.names.now m c.args.turns c.args.locals.at r w)) (world_of c.args.w.now)) (begins c.args.turns))

pub repeat_each-loop-preserved : goal.repeat_each-loop-preserved
repeat_each-loop-preserved g t c = (c.in_ok-flow.ensures.stays ∙ c.loop.invariant.0, λ m k r hidden. c.loop.invariant.1 m k r hidden ∙ turns_once c.args.turns c.loop.counter (each_holds c.args.b.now c.args.names.now m c.args.turns c.args.locals.at r) (λ w. then_do (each_takes c.args.b.now c.args.names.now m c.args.turns c.args.locals.at r w) (λ x w. runs_at c.args.b.now c.args.names.now m c.args.turns (standing_of c.args.st.now) (placed_statement c.args.body.now) w)) (λ w. then_onward (each_moves c.args.b.now c.args.names.now m c.args.turns c.args.locals.at r w)) (world_of c.loop.w) (world_of c.tested.new.w) c.loop-test.true (subst (λ (b : Bool). tested (each_holds c.args.b.now c.args.names.now m c.args.turns c.args.locals.at r) (world_of c.loop.w) ≡ Has b (world_of c.tested.new.w)) c.if-not-branch.false (subst (λ (s : Standing). tested (each_holds c.args.b.now c.args.names.now m c.args.turns c.args.locals.at r) (world_of c.loop.w) ≡ Has c.in_ok-tested.field-0 (world_of c.tested.new.w)) c.loop.invariant.0 (c.in_ok-tested.ensures c.args.names.now c.args.turns m r hidden))) ∙ goes_on _ _ (world_of c.turn_each.new.w) (subst (λ (o : Option code.Flow). round (λ w. then_do (each_takes c.args.b.now c.args.names.now m c.args.turns c.args.locals.at r w) (λ x w. runs_at c.args.b.now c.args.names.now m c.args.turns (standing_of c.args.st.now) (placed_statement c.args.body.now) w)) (λ w. then_onward (each_moves c.args.b.now c.args.names.now m c.args.turns c.args.locals.at r w)) (world_of c.tested.new.w) ≡ Has (left_of o) (world_of c.turn_each.new.w)) c.in_default.is (subst (λ (s : Standing). round (λ w. then_do (each_takes c.args.b.now c.args.names.now m c.args.turns c.args.locals.at r w) (λ x w. runs_at c.args.b.now c.args.names.now m c.args.turns s (placed_statement c.args.body.now) w)) (λ w. then_onward (each_moves c.args.b.now c.args.names.now m c.args.turns c.args.locals.at r w)) (world_of c.tested.new.w) ≡ Has (left_of c.in_ok-flow.field-0) (world_of c.turn_each.new.w)) c.loop.invariant.0 (c.in_ok-flow.ensures.means m k r hidden))))

pub repeat_each-returns-clause-means : goal.repeat_each-returns-clause-means
repeat_each-returns-clause-means g t c = λ m k r hidden. subst (λ (q : Result Flow). MeansAs flow_of q c.last_test.result (world_of c.loop.w)) (sym (c.loop.invariant.1 m k r hidden ∙ last c.args.turns c.loop.counter (each_holds c.args.b.now c.args.names.now m c.args.turns c.args.locals.at r) (λ w. then_do (each_takes c.args.b.now c.args.names.now m c.args.turns c.args.locals.at r w) (λ x w. runs_at c.args.b.now c.args.names.now m c.args.turns (standing_of c.args.st.now) (placed_statement c.args.body.now) w)) (λ w. then_onward (each_moves c.args.b.now c.args.names.now m c.args.turns c.args.locals.at r w)) (world_of c.loop.w) c.loop-test.false)) (subst (λ (s : Standing). MeansAs flow_of (last_test (each_holds c.args.b.now c.args.names.now m c.args.turns c.args.locals.at r) (world_of c.loop.w)) c.last_test.result (world_of c.loop.w)) c.loop.invariant.0 (c.last_test.ensures c.args.names.now c.args.turns m r hidden))

pub repeat_each-returns-clause-stays : goal.repeat_each-returns-clause-stays
repeat_each-returns-clause-stays g t c = on_ok c.last_test.result c.loop.invariant.0

pub repeat_endless-returns-in_err-flow-clause-means : goal.repeat_endless-returns-in_err-flow-clause-means
repeat_endless-returns-in_err-flow-clause-means g t c = λ m k. stops flow_of _ c.in_err-flow.field-0.0 c.from_residual.result (world_of c.turn.new.w) c.from_residual.ensures.1 (stop_same c.in_err-flow.field-0.0 _ _ _ (c.loop.invariant.1 m k ∙ endless_once c.args.turns c.loop.counter (runs_at c.args.b.now c.args.names.now m c.args.turns (standing_of c.args.st.now) (placed_statement c.args.body.now)) (effects_at c.args.b.now c.args.names.now m c.args.turns (behind c.args.b.now.program.now (standing_of c.args.st.now) (placed_statement c.args.body.now)) (placed_views c.args.updates.now)) (world_of c.loop.w) c.loop-test.true) (stop_then c.in_err-flow.field-0.0 _ _ _ ((subst (λ (s : Standing). IsStop c.in_err-flow.field-0.0 (round (runs_at c.args.b.now c.args.names.now m c.args.turns s (placed_statement c.args.body.now)) (effects_at c.args.b.now c.args.names.now m c.args.turns (behind c.args.b.now.program.now s (placed_statement c.args.body.now)) (placed_views c.args.updates.now)) (world_of c.loop.w)) c.turn.new.w.out.items) c.loop.invariant.0 (c.in_err-flow.ensures.means m k)))))

pub repeat_endless-returns-in-Some-clause-means : goal.repeat_endless-returns-in-Some-clause-means
repeat_endless-returns-in-Some-clause-means g t c = λ m k. c.loop.invariant.1 m k ∙ endless_once c.args.turns c.loop.counter (runs_at c.args.b.now c.args.names.now m c.args.turns (standing_of c.args.st.now) (placed_statement c.args.body.now)) (effects_at c.args.b.now c.args.names.now m c.args.turns (behind c.args.b.now.program.now (standing_of c.args.st.now) (placed_statement c.args.body.now)) (placed_views c.args.updates.now)) (world_of c.loop.w) c.loop-test.true ∙ is_left _ _ (flow_of c.in-Some.flow) (world_of c.turn.new.w) (subst (λ (o : Option code.Flow). round (runs_at c.args.b.now c.args.names.now m c.args.turns (standing_of c.args.st.now) (placed_statement c.args.body.now)) (effects_at c.args.b.now c.args.names.now m c.args.turns (behind c.args.b.now.program.now (standing_of c.args.st.now) (placed_statement c.args.body.now)) (placed_views c.args.updates.now)) (world_of c.loop.w) ≡ Has (left_of o) (world_of c.turn.new.w)) c.in-Some.is (subst (λ (s : Standing). round (runs_at c.args.b.now c.args.names.now m c.args.turns s (placed_statement c.args.body.now)) (effects_at c.args.b.now c.args.names.now m c.args.turns (behind c.args.b.now.program.now s (placed_statement c.args.body.now)) (placed_views c.args.updates.now)) (world_of c.loop.w) ≡ Has (left_of c.in_ok-flow.field-0) (world_of c.turn.new.w)) c.loop.invariant.0 (c.in_ok-flow.ensures.means m k)))

pub repeat_endless-returns-in-Some-clause-stays : goal.repeat_endless-returns-in-Some-clause-stays
repeat_endless-returns-in-Some-clause-stays g t c = c.in_ok-flow.ensures.stays ∙ c.loop.invariant.0

pub repeat_endless-loop-init : goal.repeat_endless-loop-init
repeat_endless-loop-init g t c = (refl, λ m k. ap (λ n. endless n (runs_at c.args.b.now c.args.names.now m c.args.turns (standing_of c.args.st.now) (placed_statement c.args.body.now)) (effects_at c.args.b.now c.args.names.now m c.args.turns (behind c.args.b.now.program.now (standing_of c.args.st.now) (placed_statement c.args.body.now)) (placed_views c.args.updates.now)) (world_of c.args.w.now)) (begins c.args.turns))

pub repeat_endless-returns-in_err-spend-clause-means : goal.repeat_endless-returns-in_err-spend-clause-means
repeat_endless-returns-in_err-spend-clause-means g t c = λ m k. stops flow_of _ c.in_err-spend.field-0.0 c.from_residual-in_err-spend.result (world_of c.spend.new.self) c.from_residual-in_err-spend.ensures.1 (stop_same c.in_err-spend.field-0.0 _ _ _ (c.loop.invariant.1 m k ∙ endless_once c.args.turns c.loop.counter (runs_at c.args.b.now c.args.names.now m c.args.turns (standing_of c.args.st.now) (placed_statement c.args.body.now)) (effects_at c.args.b.now c.args.names.now m c.args.turns (behind c.args.b.now.program.now (standing_of c.args.st.now) (placed_statement c.args.body.now)) (placed_views c.args.updates.now)) (world_of c.loop.w) c.loop-test.true ∙ goes_on _ (λ w. spent w (endless (c.args.turns - (c.loop.counter + 1)) (runs_at c.args.b.now c.args.names.now m c.args.turns (standing_of c.args.st.now) (placed_statement c.args.body.now)) (effects_at c.args.b.now c.args.names.now m c.args.turns (behind c.args.b.now.program.now (standing_of c.args.st.now) (placed_statement c.args.body.now)) (placed_views c.args.updates.now)))) (world_of c.turn.new.w) (subst (λ (o : Option code.Flow). round (runs_at c.args.b.now c.args.names.now m c.args.turns (standing_of c.args.st.now) (placed_statement c.args.body.now)) (effects_at c.args.b.now c.args.names.now m c.args.turns (behind c.args.b.now.program.now (standing_of c.args.st.now) (placed_statement c.args.body.now)) (placed_views c.args.updates.now)) (world_of c.loop.w) ≡ Has (left_of o) (world_of c.turn.new.w)) c.in_default.is (subst (λ (s : Standing). round (runs_at c.args.b.now c.args.names.now m c.args.turns s (placed_statement c.args.body.now)) (effects_at c.args.b.now c.args.names.now m c.args.turns (behind c.args.b.now.program.now s (placed_statement c.args.body.now)) (placed_views c.args.updates.now)) (world_of c.loop.w) ≡ Has (left_of c.in_ok-flow.field-0) (world_of c.turn.new.w)) c.loop.invariant.0 (c.in_ok-flow.ensures.means m k)))) (spend_stops c.in_err-spend.field-0.0 _ _ _ c.in_err-spend.ensures))

pub repeat_endless-loop-preserved : goal.repeat_endless-loop-preserved
repeat_endless-loop-preserved g t c = (c.in_ok-flow.ensures.stays ∙ c.loop.invariant.0, λ m k. c.loop.invariant.1 m k ∙ endless_once c.args.turns c.loop.counter (runs_at c.args.b.now c.args.names.now m c.args.turns (standing_of c.args.st.now) (placed_statement c.args.body.now)) (effects_at c.args.b.now c.args.names.now m c.args.turns (behind c.args.b.now.program.now (standing_of c.args.st.now) (placed_statement c.args.body.now)) (placed_views c.args.updates.now)) (world_of c.loop.w) c.loop-test.true ∙ goes_on _ (λ w. spent w (endless (c.args.turns - (c.loop.counter + 1)) (runs_at c.args.b.now c.args.names.now m c.args.turns (standing_of c.args.st.now) (placed_statement c.args.body.now)) (effects_at c.args.b.now c.args.names.now m c.args.turns (behind c.args.b.now.program.now (standing_of c.args.st.now) (placed_statement c.args.body.now)) (placed_views c.args.updates.now)))) (world_of c.turn.new.w) (subst (λ (o : Option code.Flow). round (runs_at c.args.b.now c.args.names.now m c.args.turns (standing_of c.args.st.now) (placed_statement c.args.body.now)) (effects_at c.args.b.now c.args.names.now m c.args.turns (behind c.args.b.now.program.now (standing_of c.args.st.now) (placed_statement c.args.body.now)) (placed_views c.args.updates.now)) (world_of c.loop.w) ≡ Has (left_of o) (world_of c.turn.new.w)) c.in_default.is (subst (λ (s : Standing). round (runs_at c.args.b.now c.args.names.now m c.args.turns s (placed_statement c.args.body.now)) (effects_at c.args.b.now c.args.names.now m c.args.turns (behind c.args.b.now.program.now s (placed_statement c.args.body.now)) (placed_views c.args.updates.now)) (world_of c.loop.w) ≡ Has (left_of c.in_ok-flow.field-0) (world_of c.turn.new.w)) c.loop.invariant.0 (c.in_ok-flow.ensures.means m k))) ∙ spent_on (world_of c.turn.new.w) (world_of c.spend.new.self) (endless (c.args.turns - (c.loop.counter + 1)) (runs_at c.args.b.now c.args.names.now m c.args.turns (standing_of c.args.st.now) (placed_statement c.args.body.now)) (effects_at c.args.b.now c.args.names.now m c.args.turns (behind c.args.b.now.program.now (standing_of c.args.st.now) (placed_statement c.args.body.now)) (placed_views c.args.updates.now))) c.in_ok-spend.ensures)

pub repeat_endless-returns-in_err-flow-2-clause-means : goal.repeat_endless-returns-in_err-flow-2-clause-means
repeat_endless-returns-in_err-flow-2-clause-means g t c = λ m k. stops flow_of _ c.in_err-flow-2.field-0.0 c.from_residual-in_err-flow-2.result (world_of c.turn-2.new.w) c.from_residual-in_err-flow-2.ensures.1 (stop_same c.in_err-flow-2.field-0.0 _ _ _ (c.loop.invariant.1 m k ∙ endless_last c.args.turns c.loop.counter (runs_at c.args.b.now c.args.names.now m c.args.turns (standing_of c.args.st.now) (placed_statement c.args.body.now)) (effects_at c.args.b.now c.args.names.now m c.args.turns (behind c.args.b.now.program.now (standing_of c.args.st.now) (placed_statement c.args.body.now)) (placed_views c.args.updates.now)) (world_of c.loop.w) c.loop-test.false) (stop_then c.in_err-flow-2.field-0.0 _ _ _ ((subst (λ (s : Standing). IsStop c.in_err-flow-2.field-0.0 (round (runs_at c.args.b.now c.args.names.now m c.args.turns s (placed_statement c.args.body.now)) (effects_at c.args.b.now c.args.names.now m c.args.turns (behind c.args.b.now.program.now s (placed_statement c.args.body.now)) (placed_views c.args.updates.now)) (world_of c.loop.w)) c.turn-2.new.w.out.items) c.loop.invariant.0 (c.in_err-flow-2.ensures.means m k)))))

pub repeat_endless-returns-in-Some-2-clause-means : goal.repeat_endless-returns-in-Some-2-clause-means
repeat_endless-returns-in-Some-2-clause-means g t c = λ m k. c.loop.invariant.1 m k ∙ endless_last c.args.turns c.loop.counter (runs_at c.args.b.now c.args.names.now m c.args.turns (standing_of c.args.st.now) (placed_statement c.args.body.now)) (effects_at c.args.b.now c.args.names.now m c.args.turns (behind c.args.b.now.program.now (standing_of c.args.st.now) (placed_statement c.args.body.now)) (placed_views c.args.updates.now)) (world_of c.loop.w) c.loop-test.false ∙ is_left _ _ (flow_of c.in-Some-2.flow) (world_of c.turn-2.new.w) (subst (λ (o : Option code.Flow). round (runs_at c.args.b.now c.args.names.now m c.args.turns (standing_of c.args.st.now) (placed_statement c.args.body.now)) (effects_at c.args.b.now c.args.names.now m c.args.turns (behind c.args.b.now.program.now (standing_of c.args.st.now) (placed_statement c.args.body.now)) (placed_views c.args.updates.now)) (world_of c.loop.w) ≡ Has (left_of o) (world_of c.turn-2.new.w)) c.in-Some-2.is (subst (λ (s : Standing). round (runs_at c.args.b.now c.args.names.now m c.args.turns s (placed_statement c.args.body.now)) (effects_at c.args.b.now c.args.names.now m c.args.turns (behind c.args.b.now.program.now s (placed_statement c.args.body.now)) (placed_views c.args.updates.now)) (world_of c.loop.w) ≡ Has (left_of c.in_ok-flow-2.field-0) (world_of c.turn-2.new.w)) c.loop.invariant.0 (c.in_ok-flow-2.ensures.means m k)))

pub repeat_endless-returns-in-Some-2-clause-stays : goal.repeat_endless-returns-in-Some-2-clause-stays
repeat_endless-returns-in-Some-2-clause-stays g t c = c.in_ok-flow-2.ensures.stays ∙ c.loop.invariant.0

pub repeat_endless-returns-in-None-clause-means : goal.repeat_endless-returns-in-None-clause-means
repeat_endless-returns-in-None-clause-means g t c = λ m k. c.loop.invariant.1 m k ∙ endless_last c.args.turns c.loop.counter (runs_at c.args.b.now c.args.names.now m c.args.turns (standing_of c.args.st.now) (placed_statement c.args.body.now)) (effects_at c.args.b.now c.args.names.now m c.args.turns (behind c.args.b.now.program.now (standing_of c.args.st.now) (placed_statement c.args.body.now)) (placed_views c.args.updates.now)) (world_of c.loop.w) c.loop-test.false ∙ goes_on _ (λ w. Stops FuelOut w.out) (world_of c.turn-2.new.w) (subst (λ (o : Option code.Flow). round (runs_at c.args.b.now c.args.names.now m c.args.turns (standing_of c.args.st.now) (placed_statement c.args.body.now)) (effects_at c.args.b.now c.args.names.now m c.args.turns (behind c.args.b.now.program.now (standing_of c.args.st.now) (placed_statement c.args.body.now)) (placed_views c.args.updates.now)) (world_of c.loop.w) ≡ Has (left_of o) (world_of c.turn-2.new.w)) c.in-None.is (subst (λ (s : Standing). round (runs_at c.args.b.now c.args.names.now m c.args.turns s (placed_statement c.args.body.now)) (effects_at c.args.b.now c.args.names.now m c.args.turns (behind c.args.b.now.program.now s (placed_statement c.args.body.now)) (placed_views c.args.updates.now)) (world_of c.loop.w) ≡ Has (left_of c.in_ok-flow-2.field-0) (world_of c.turn-2.new.w)) c.loop.invariant.0 (c.in_ok-flow-2.ensures.means m k)))

pub repeat_do-returns-in_err-flow-clause-means : goal.repeat_do-returns-in_err-flow-clause-means
repeat_do-returns-in_err-flow-clause-means g t c = λ m k. stops flow_of _ c.in_err-flow.field-0.0 c.from_residual.result (world_of c.turn_do.new.w) c.from_residual.ensures.1 (stop_same c.in_err-flow.field-0.0 _ _ _ (c.loop.invariant.1 m k ∙ done_once c.args.turns c.loop.counter (runs_at c.args.b.now c.args.names.now m c.args.turns (standing_of c.args.st.now) (placed_statement c.args.body.now)) (holds_at c.args.b.now c.args.names.now m c.args.turns (behind c.args.b.now.program.now (standing_of c.args.st.now) (placed_statement c.args.body.now)) (placed_view c.args.condition.now)) (world_of c.loop.w) c.loop-test.true) (stop_then c.in_err-flow.field-0.0 _ _ _ ((subst (λ (s : Standing). IsStop c.in_err-flow.field-0.0 (done_round (runs_at c.args.b.now c.args.names.now m c.args.turns s (placed_statement c.args.body.now)) (holds_at c.args.b.now c.args.names.now m c.args.turns (behind c.args.b.now.program.now s (placed_statement c.args.body.now)) (placed_view c.args.condition.now)) (world_of c.loop.w)) c.turn_do.new.w.out.items) c.loop.invariant.0 (c.in_err-flow.ensures.means m k)))))

pub repeat_do-returns-in-Some-clause-means : goal.repeat_do-returns-in-Some-clause-means
repeat_do-returns-in-Some-clause-means g t c = λ m k. c.loop.invariant.1 m k ∙ done_once c.args.turns c.loop.counter (runs_at c.args.b.now c.args.names.now m c.args.turns (standing_of c.args.st.now) (placed_statement c.args.body.now)) (holds_at c.args.b.now c.args.names.now m c.args.turns (behind c.args.b.now.program.now (standing_of c.args.st.now) (placed_statement c.args.body.now)) (placed_view c.args.condition.now)) (world_of c.loop.w) c.loop-test.true ∙ is_left _ _ (flow_of c.in-Some.flow) (world_of c.turn_do.new.w) (subst (λ (o : Option code.Flow). done_round (runs_at c.args.b.now c.args.names.now m c.args.turns (standing_of c.args.st.now) (placed_statement c.args.body.now)) (holds_at c.args.b.now c.args.names.now m c.args.turns (behind c.args.b.now.program.now (standing_of c.args.st.now) (placed_statement c.args.body.now)) (placed_view c.args.condition.now)) (world_of c.loop.w) ≡ Has (left_of o) (world_of c.turn_do.new.w)) c.in-Some.is (subst (λ (s : Standing). done_round (runs_at c.args.b.now c.args.names.now m c.args.turns s (placed_statement c.args.body.now)) (holds_at c.args.b.now c.args.names.now m c.args.turns (behind c.args.b.now.program.now s (placed_statement c.args.body.now)) (placed_view c.args.condition.now)) (world_of c.loop.w) ≡ Has (left_of c.in_ok-flow.field-0) (world_of c.turn_do.new.w)) c.loop.invariant.0 (c.in_ok-flow.ensures.means m k)))

pub repeat_do-returns-in-Some-clause-stays : goal.repeat_do-returns-in-Some-clause-stays
repeat_do-returns-in-Some-clause-stays g t c = c.in_ok-flow.ensures.stays ∙ c.loop.invariant.0

pub repeat_do-loop-init : goal.repeat_do-loop-init
repeat_do-loop-init g t c = (refl, λ m k. ap (λ n. done_while n (runs_at c.args.b.now c.args.names.now m c.args.turns (standing_of c.args.st.now) (placed_statement c.args.body.now)) (holds_at c.args.b.now c.args.names.now m c.args.turns (behind c.args.b.now.program.now (standing_of c.args.st.now) (placed_statement c.args.body.now)) (placed_view c.args.condition.now)) (world_of c.args.w.now)) (begins c.args.turns))

pub repeat_do-loop-preserved : goal.repeat_do-loop-preserved
repeat_do-loop-preserved g t c = (c.in_ok-flow.ensures.stays ∙ c.loop.invariant.0, λ m k. c.loop.invariant.1 m k ∙ done_once c.args.turns c.loop.counter (runs_at c.args.b.now c.args.names.now m c.args.turns (standing_of c.args.st.now) (placed_statement c.args.body.now)) (holds_at c.args.b.now c.args.names.now m c.args.turns (behind c.args.b.now.program.now (standing_of c.args.st.now) (placed_statement c.args.body.now)) (placed_view c.args.condition.now)) (world_of c.loop.w) c.loop-test.true ∙ goes_on _ (done_while (c.args.turns - (c.loop.counter + 1)) (runs_at c.args.b.now c.args.names.now m c.args.turns (standing_of c.args.st.now) (placed_statement c.args.body.now)) (holds_at c.args.b.now c.args.names.now m c.args.turns (behind c.args.b.now.program.now (standing_of c.args.st.now) (placed_statement c.args.body.now)) (placed_view c.args.condition.now))) (world_of c.turn_do.new.w) (subst (λ (o : Option code.Flow). done_round (runs_at c.args.b.now c.args.names.now m c.args.turns (standing_of c.args.st.now) (placed_statement c.args.body.now)) (holds_at c.args.b.now c.args.names.now m c.args.turns (behind c.args.b.now.program.now (standing_of c.args.st.now) (placed_statement c.args.body.now)) (placed_view c.args.condition.now)) (world_of c.loop.w) ≡ Has (left_of o) (world_of c.turn_do.new.w)) c.in_default.is (subst (λ (s : Standing). done_round (runs_at c.args.b.now c.args.names.now m c.args.turns s (placed_statement c.args.body.now)) (holds_at c.args.b.now c.args.names.now m c.args.turns (behind c.args.b.now.program.now s (placed_statement c.args.body.now)) (placed_view c.args.condition.now)) (world_of c.loop.w) ≡ Has (left_of c.in_ok-flow.field-0) (world_of c.turn_do.new.w)) c.loop.invariant.0 (c.in_ok-flow.ensures.means m k))))

pub repeat_do-returns-clause-means : goal.repeat_do-returns-clause-means
repeat_do-returns-clause-means g t c = λ m k. subst (λ (q : Result Flow). MeansAs flow_of q c.end_do.result (world_of c.end_do.new.w)) (sym (c.loop.invariant.1 m k ∙ done_last c.args.turns c.loop.counter (runs_at c.args.b.now c.args.names.now m c.args.turns (standing_of c.args.st.now) (placed_statement c.args.body.now)) (holds_at c.args.b.now c.args.names.now m c.args.turns (behind c.args.b.now.program.now (standing_of c.args.st.now) (placed_statement c.args.body.now)) (placed_view c.args.condition.now)) (world_of c.loop.w) c.loop-test.false)) (subst (λ (s : Standing). MeansAs flow_of (done_while 0 (runs_at c.args.b.now c.args.names.now m c.args.turns s (placed_statement c.args.body.now)) (holds_at c.args.b.now c.args.names.now m c.args.turns (behind c.args.b.now.program.now s (placed_statement c.args.body.now)) (placed_view c.args.condition.now)) (world_of c.loop.w)) c.end_do.result (world_of c.end_do.new.w)) c.loop.invariant.0 (c.end_do.ensures.means m k))

pub repeat_do-returns-clause-stays : goal.repeat_do-returns-clause-stays
repeat_do-returns-clause-stays g t c = ok_same c.end_do.result (standing_of c.end_do.new.st) (standing_of c.loop.st) (standing_of c.args.st.now) c.end_do.ensures.stays c.loop.invariant.0

pub end_do-returns-in_err-flow-clause-means : goal.end_do-returns-in_err-flow-clause-means
end_do-returns-in_err-flow-clause-means g t c = λ m k. stops flow_of _ c.in_err-flow.field-0.0 c.from_residual.result (world_of c.execute.new.w) c.from_residual.ensures.1 (stop_then c.in_err-flow.field-0.0 _ _ _ (c.in_err-flow.ensures.means m k))

pub end_do-returns-in-Some-clause-means : goal.end_do-returns-in-Some-clause-means
end_do-returns-in-Some-clause-means g t c = λ m k. has_behind _ _ (flow_of c.in_ok-flow.flow) (world_of c.execute.new.w) _ (c.in_ok-flow.ensures.means m k) (turned_out (flow_of c.in_ok-flow.flow) (flow_of c.in-Some.left) (world_of c.execute.new.w) _ (sym c.leaves.ensures ∙ ap left_of c.in-Some.is))

pub end_do-returns-in-Some-clause-stays : goal.end_do-returns-in-Some-clause-stays
end_do-returns-in-Some-clause-stays g t c = back_behind c.args.b.now.program.now (standing_of c.args.st.now) (standing_of c.execute.new.st) (standing_of c.back.new.self) (placed_statement c.args.body.now) c.mark-before.result.names c.mark-before.result.count c.in_ok-flow.ensures.behind c.mark-before.ensures.names c.mark-before.ensures.count c.back.ensures

pub end_do-returns-clause-means : goal.end_do-returns-clause-means
end_do-returns-clause-means g t c = λ m k. bound flow_of _ _ (flow_of c.in_ok-flow.flow) (world_of c.execute.new.w) c.last_test-last.result (world_of c.last_test-last.new.w) (c.in_ok-flow.ensures.means m k) (subst (λ (q : Result Flow). MeansAs flow_of q c.last_test-last.result (world_of c.last_test-last.new.w)) (sym (turned_on (flow_of c.in_ok-flow.flow) (world_of c.execute.new.w) _ (sym c.leaves.ensures ∙ ap left_of c.in_default.is))) (subst (λ (s : Standing). MeansAs flow_of (last_test (holds_at c.args.b.now c.args.names.now m c.args.turns s (placed_view c.args.condition.now)) (world_of c.execute.new.w)) c.last_test-last.result (world_of c.last_test-last.new.w)) c.in_ok-flow.ensures.behind (c.last_test-last.ensures.means c.args.turns m k)))

pub end_do-returns-clause-stays : goal.end_do-returns-clause-stays
end_do-returns-clause-stays g t c = on_ok c.last_test-last.result (back_behind c.args.b.now.program.now (standing_of c.args.st.now) (standing_of c.execute.new.st) (standing_of c.back-2.new.self) (placed_statement c.args.body.now) c.mark-before.result.names c.mark-before.result.count c.in_ok-flow.ensures.behind c.mark-before.ensures.names c.mark-before.ensures.count c.back-2.ensures)

pub repeat_for-returns-in_err-begin-clause-means : goal.repeat_for-returns-in_err-begin-clause-means
repeat_for-returns-in_err-begin-clause-means g t c = λ m k span. stops flow_of _ c.in_err-begin.field-0.0 c.from_residual.result (world_of c.begin.new.w) c.from_residual.ensures.1 (stop_then c.in_err-begin.field-0.0 _ _ _ (c.in_err-begin.ensures.means c.args.turns m k))

pub repeat_for-returns-in-None-clause-means : goal.repeat_for-returns-in-None-clause-means
repeat_for-returns-in-None-clause-means g t c = λ m k span. bound flow_of _ _ Onward (world_of c.begin.new.w) c.repeat_endless.result (world_of c.repeat_endless.new.w) (c.in_ok-begin.ensures.means c.args.turns m k) (subst (λ (o : Option (Box Expr)). MeansAs flow_of (for_loop c.args.b.now.program.now c.args.names.now usual_limits.longest m c.args.turns c.args.b.now.class.0 (behind_init c.args.b.now.program.now (standing_of c.args.st.now) (placed_init c.args.head.now.init)) (placed_optional o) (runs_at c.args.b.now c.args.names.now m c.args.turns (behind_init c.args.b.now.program.now (standing_of c.args.st.now) (placed_init c.args.head.now.init)) (placed_statement c.args.body.now)) (effects_at c.args.b.now c.args.names.now m c.args.turns (behind c.args.b.now.program.now (behind_init c.args.b.now.program.now (standing_of c.args.st.now) (placed_init c.args.head.now.init)) (placed_statement c.args.body.now)) (placed_views c.args.head.now.update.items)) (world_of c.begin.new.w)) c.repeat_endless.result (world_of c.repeat_endless.new.w)) (sym c.in-None.is) (subst (λ (us : List Expr). MeansAs flow_of (endless c.args.turns (runs_at c.args.b.now c.args.names.now m c.args.turns (behind_init c.args.b.now.program.now (standing_of c.args.st.now) (placed_init c.args.head.now.init)) (placed_statement c.args.body.now)) (effects_at c.args.b.now c.args.names.now m c.args.turns (behind c.args.b.now.program.now (behind_init c.args.b.now.program.now (standing_of c.args.st.now) (placed_init c.args.head.now.init)) (placed_statement c.args.body.now)) (placed_views us)) (world_of c.begin.new.w)) c.repeat_endless.result (world_of c.repeat_endless.new.w)) c.deref.ensures.value (subst (λ (s : Standing). MeansAs flow_of (endless c.args.turns (runs_at c.args.b.now c.args.names.now m c.args.turns s (placed_statement c.args.body.now)) (effects_at c.args.b.now c.args.names.now m c.args.turns (behind c.args.b.now.program.now s (placed_statement c.args.body.now)) (placed_views c.deref.result.now)) (world_of c.begin.new.w)) c.repeat_endless.result (world_of c.repeat_endless.new.w)) c.in_ok-begin.ensures.behind (c.repeat_endless.ensures.means m k))))

pub repeat_for-returns-in-Some-clause-means : goal.repeat_for-returns-in-Some-clause-means
repeat_for-returns-in-Some-clause-means g t c = λ m k span. bound flow_of _ _ Onward (world_of c.begin.new.w) c.repeat.result (world_of c.repeat.new.w) (c.in_ok-begin.ensures.means c.args.turns m k) (subst (λ (o : Option (Box Expr)). MeansAs flow_of (for_loop c.args.b.now.program.now c.args.names.now usual_limits.longest m c.args.turns c.args.b.now.class.0 (behind_init c.args.b.now.program.now (standing_of c.args.st.now) (placed_init c.args.head.now.init)) (placed_optional o) (runs_at c.args.b.now c.args.names.now m c.args.turns (behind_init c.args.b.now.program.now (standing_of c.args.st.now) (placed_init c.args.head.now.init)) (placed_statement c.args.body.now)) (effects_at c.args.b.now c.args.names.now m c.args.turns (behind c.args.b.now.program.now (behind_init c.args.b.now.program.now (standing_of c.args.st.now) (placed_init c.args.head.now.init)) (placed_statement c.args.body.now)) (placed_views c.args.head.now.update.items)) (world_of c.begin.new.w)) c.repeat.result (world_of c.repeat.new.w)) (sym c.in-Some.is) (subst (λ (q : Expr). MeansAs flow_of (repeated c.args.turns (holds_at c.args.b.now c.args.names.now m c.args.turns (behind_init c.args.b.now.program.now (standing_of c.args.st.now) (placed_init c.args.head.now.init)) (placed_view q)) (runs_at c.args.b.now c.args.names.now m c.args.turns (behind_init c.args.b.now.program.now (standing_of c.args.st.now) (placed_init c.args.head.now.init)) (placed_statement c.args.body.now)) (effects_at c.args.b.now c.args.names.now m c.args.turns (behind c.args.b.now.program.now (behind_init c.args.b.now.program.now (standing_of c.args.st.now) (placed_init c.args.head.now.init)) (placed_statement c.args.body.now)) (placed_views c.args.head.now.update.items)) (world_of c.begin.new.w)) c.repeat.result (world_of c.repeat.new.w)) c.deref-in-Some.ensures (subst (λ (us : List Expr). MeansAs flow_of (repeated c.args.turns (holds_at c.args.b.now c.args.names.now m c.args.turns (behind_init c.args.b.now.program.now (standing_of c.args.st.now) (placed_init c.args.head.now.init)) (placed_view c.deref-in-Some.result.now)) (runs_at c.args.b.now c.args.names.now m c.args.turns (behind_init c.args.b.now.program.now (standing_of c.args.st.now) (placed_init c.args.head.now.init)) (placed_statement c.args.body.now)) (effects_at c.args.b.now c.args.names.now m c.args.turns (behind c.args.b.now.program.now (behind_init c.args.b.now.program.now (standing_of c.args.st.now) (placed_init c.args.head.now.init)) (placed_statement c.args.body.now)) (placed_views us)) (world_of c.begin.new.w)) c.repeat.result (world_of c.repeat.new.w)) c.deref-in-Some-2.ensures.value (subst (λ (s : Standing). MeansAs flow_of (repeated c.args.turns (holds_at c.args.b.now c.args.names.now m c.args.turns s (placed_view c.deref-in-Some.result.now)) (runs_at c.args.b.now c.args.names.now m c.args.turns s (placed_statement c.args.body.now)) (effects_at c.args.b.now c.args.names.now m c.args.turns (behind c.args.b.now.program.now s (placed_statement c.args.body.now)) (placed_views c.deref-in-Some-2.result.now)) (world_of c.begin.new.w)) c.repeat.result (world_of c.repeat.new.w)) c.in_ok-begin.ensures.behind (c.repeat.ensures.means m k)))))

pub repeat_for-returns-in-None-clause-scope : goal.repeat_for-returns-in-None-clause-scope
repeat_for-returns-in-None-clause-scope g t c = ok_kept c.repeat_endless.result c.args.st.now.scope (standing_of c.repeat_endless.new.st) (standing_of c.begin.new.st) (grown_to c.args.st.now.scope (behind_init c.args.b.now.program.now (standing_of c.args.st.now) (placed_init c.args.head.now.init)).scope c.begin.new.st.scope (init_grows c.args.b.now.program.now (standing_of c.args.st.now) (placed_init c.args.head.now.init)) (ap (λ (s : Standing). s.scope) c.in_ok-begin.ensures.behind)) c.repeat_endless.ensures.stays

pub repeat_for-returns-in-Some-clause-scope : goal.repeat_for-returns-in-Some-clause-scope
repeat_for-returns-in-Some-clause-scope g t c = ok_kept c.repeat.result c.args.st.now.scope (standing_of c.repeat.new.st) (standing_of c.begin.new.st) (grown_to c.args.st.now.scope (behind_init c.args.b.now.program.now (standing_of c.args.st.now) (placed_init c.args.head.now.init)).scope c.begin.new.st.scope (init_grows c.args.b.now.program.now (standing_of c.args.st.now) (placed_init c.args.head.now.init)) (ap (λ (s : Standing). s.scope) c.in_ok-begin.ensures.behind)) c.repeat.ensures.stays

pub for_each-returns-in_err-locals-clause-means : goal.for_each-returns-in_err-locals-clause-means
for_each-returns-in_err-locals-clause-means g t c = λ m k span. stops flow_of _ c.in_err-locals.field-0.0 c.from_residual.result (world_of c.start.new.w) c.from_residual.ensures.1 (gone_stops c.in_err-locals.field-0.0 _ _ _ (c.in_err-locals.ensures.means c.args.turns m k))

pub for_each-returns-clause-means : goal.for_each-returns-clause-means
for_each-returns-clause-means g t c = λ m k span. subst (λ (q : Result Flow). MeansAs flow_of q c.repeat_each.result (world_of c.repeat_each.new.w)) (sym (gone _ (repeated c.args.turns (each_holds c.args.b.now c.args.names.now m c.args.turns (operand_span (placed_view c.args.array.now)) c.args.st.now.count) (λ w. then_do (each_takes c.args.b.now c.args.names.now m c.args.turns (operand_span (placed_view c.args.array.now)) c.args.st.now.count w) (λ x w. runs_at c.args.b.now c.args.names.now m c.args.turns (behind_variable c.args.b.now.program.now (standing_of c.args.st.now) (placed_parameter c.args.variable.now)) (placed_statement c.args.body.now) w)) (λ w. then_onward (each_moves c.args.b.now c.args.names.now m c.args.turns (operand_span (placed_view c.args.array.now)) c.args.st.now.count w))) (world_of c.start.new.w) (c.in_ok-locals.ensures.means c.args.turns m k))) (subst (λ (at : Span). MeansAs flow_of (repeated c.args.turns (each_holds c.args.b.now c.args.names.now m c.args.turns at c.args.st.now.count) (λ w. then_do (each_takes c.args.b.now c.args.names.now m c.args.turns at c.args.st.now.count w) (λ x w. runs_at c.args.b.now c.args.names.now m c.args.turns (behind_variable c.args.b.now.program.now (standing_of c.args.st.now) (placed_parameter c.args.variable.now)) (placed_statement c.args.body.now) w)) (λ w. then_onward (each_moves c.args.b.now c.args.names.now m c.args.turns at c.args.st.now.count w)) (world_of c.start.new.w)) c.repeat_each.result (world_of c.repeat_each.new.w)) c.in_ok-locals.ensures.at (subst (λ (s : Standing). MeansAs flow_of (repeated c.args.turns (each_holds c.args.b.now c.args.names.now m c.args.turns c.in_ok-locals.locals.at c.args.st.now.count) (λ w. then_do (each_takes c.args.b.now c.args.names.now m c.args.turns c.in_ok-locals.locals.at c.args.st.now.count w) (λ x w. runs_at c.args.b.now c.args.names.now m c.args.turns s (placed_statement c.args.body.now) w)) (λ w. then_onward (each_moves c.args.b.now c.args.names.now m c.args.turns c.in_ok-locals.locals.at c.args.st.now.count w)) (world_of c.start.new.w)) c.repeat_each.result (world_of c.repeat_each.new.w)) c.in_ok-locals.ensures.behind (c.repeat_each.ensures.means m k c.args.st.now.count c.in_ok-locals.ensures.hidden)))

pub for_each-returns-clause-scope : goal.for_each-returns-clause-scope
for_each-returns-clause-scope g t c = ok_kept c.repeat_each.result c.args.st.now.scope (standing_of c.repeat_each.new.st) (standing_of c.start.new.st) (grown_to c.args.st.now.scope (behind_variable c.args.b.now.program.now (standing_of c.args.st.now) (placed_parameter c.args.variable.now)).scope c.start.new.st.scope (variable_grows c.args.b.now.program.now (standing_of c.args.st.now) (placed_parameter c.args.variable.now)) (ap (λ (s : Standing). s.scope) c.in_ok-locals.ensures.behind)) c.repeat_each.ensures.stays
