use Rattle.std.proofs.Common.{◌≡◌, ◌∙◌, ap, sym, subst, drop, length, ◌+◌, List, [], None, arith}
use Rattle.jn_trees.specs.declared.declaration.Parameter.{Parameter}
use Rattle.jn_trees.specs.declared.expression.Expr.{Expr}
use Rattle.jn_trees.specs.declared.statement.ForHead.{ForHead}
use Rattle.jn_trees.specs.declared.statement.Stmt.{Stmt}
use Rattle.jn_places.specs.Placed.{PlacedStatements, PlacedBlock, PlacedDo, PlacedExpression, PlacedFor, PlacedForEach, PlacedIf, PlacedReturn, PlacedLocalStatement, PlacedWhile}
use Rattle.jn_places.specs.PlacedView.{placed_init, placed_local, placed_optional, placed_statement, placed_statements, placed_type_use, placed_view, placed_views}
use Rattle.jn_places.proofs.Rows.{statements_placed}
use Rattle.jn_lowering.specs.Locals.{State}
use Rattle.jn_trees.specs.declared.statement.LocalDeclaration.{LocalDeclaration}
use Rattle.jn_trees.specs.declared.statement.LocalModifier.{LocalModifier}
use Rattle.jn_lowering.specs.Bases.{type_of}
use Rattle.jn_lowering.specs.Annotations.{base_rows}
use Rattle.jn_lowering.specs.Forms.{Value}
use Rattle.jn_lowering.specs.Locals.{has_final}
use Rattle.jn_lowering.specs.Statements.{Step, each_start, effects, fresh, init, local_bound, local_type, optional_test}
use Rattle.jn_scopes.specs.Views.{bound_of}
use Rattle.jn_lower_stmt.specs.Views.{rows_of}
use Rattle.jn_lower_stmt.proofs.Looping.{each_done, each_same, in_state}
use Rattle.jn_lower_stmt.specs.Stating.{Steps, StepsOn, TestsIn, all_stated, moved_to, stated, tested, valued}
use Rattle.jn_lower_stmt.proofs.Piecing.{both_stepped}
use Rattle.jn_lower_stmt.proofs.Stepping.{any_way, block_done, do_done, effects_extends, for_done, if_done, if_else_done, init_extends, nothing_stepped, put_back, statement_extends, statements_extends, statements_hold, statements_left, no_statements_left, while_done}
use Rattle.jn_lower_stmt.proofs.forms.+statements.Goals as goal

pub statements-loop-tree-preserved : goal.statements-loop-tree-preserved
statements-loop-tree-preserved t c = λ g u all. c.loop-tree.invariant g u
    (subst (λ (xs : PlacedStatements). Steps (all_stated c.args.c.now c.loop-tree.s xs) c.args.ways.out.0 c.args.ways.again.0 c.loop-tree.e g u) (sym (statements_left c.args.trees.now c.loop-tree.tree-index c.tree-item.result c.loop-tree-test.true c.tree-item.is))
    (both_stepped (stated c.args.c.now c.loop-tree.s (placed_statement c.tree-item.result)) (λ st. all_stated c.args.c.now st (placed_statements (drop (c.loop-tree.tree-index + 1) c.args.trees.now))) c.args.ways.out.0 c.args.ways.again.0 c.loop-tree.e c.statement.new.e g c.statement.new.s u c.in_ok-statement.ensures all))

pub statements-returns : goal.statements-returns
statements-returns t c = c.loop-tree.invariant c.loop-tree.e c.loop-tree.s
    (subst (λ (xs : PlacedStatements). Steps (all_stated c.args.c.now c.loop-tree.s xs) c.args.ways.out.0 c.args.ways.again.0 c.loop-tree.e c.loop-tree.e c.loop-tree.s) (sym (no_statements_left c.args.trees.now c.loop-tree.tree-index c.loop-tree-test.false)) (nothing_stepped c.args.ways.out.0 c.args.ways.again.0 c.loop-tree.e c.loop-tree.s))

pub block-returns : goal.block-returns
block-returns t c =
    block_done (all_stated c.args.c.now c.args.s.now (placed_statements c.args.trees.now)) c.args.s.now c.statements.new.s c.leave.new.self c.names-names.result c.args.ways.out.0 c.args.ways.again.0 c.args.e.now c.statements.new.e c.names-names.ensures c.in_ok-statements.ensures c.leave.ensures
    (statements_hold c.args.c.now.program.now c.args.c.now.class.0 c.args.c.now.first c.args.s.now (placed_statements c.args.trees.now)) (statements_extends c.args.c.now.program.now c.args.c.now.class.0 c.args.c.now.first c.args.s.now (placed_statements c.args.trees.now))

pub if_then-returns : goal.if_then-returns
if_then-returns t c =
    if_done (tested c.args.c.now (fresh c.args.s.now) (placed_view c.args.condition.now)) (λ u. stated c.args.c.now u (placed_statement c.args.then.now)) c.args.s.now c.decide.new.s c.statement.new.s c.end.new.self c.args.ways.out.0 c.args.ways.again.0 c.in_ok-inside.inside.0 c.in_ok-end.end.0
    c.args.e.now c.label.new.e c.label-2.new.e c.decide.new.e c.place.new.e c.statement.new.e c.place-2.new.e c.in_ok-inside.ensures c.in_ok-end.ensures
    (subst (λ (st : State). TestsIn (tested c.args.c.now st (placed_view c.args.condition.now)) st c.in_ok-inside.inside.0 c.in_ok-end.end.0 c.label-2.new.e c.decide.new.e c.decide.new.s) c.begin-outer.ensures.begun c.in_ok-decide.ensures)
    c.in_ok-place.ensures c.in_ok-statement.ensures c.in_ok-place-2.ensures (λ u. statement_extends c.args.c.now.program.now c.args.c.now.class.0 c.args.c.now.first u (placed_statement c.args.then.now)) (put_back c.args.s.now c.statement.new.s c.end.new.self c.begin-outer.result.names c.begin-outer.result.held c.begin-outer.ensures.names c.begin-outer.ensures.held c.end.ensures)

pub while_loop-place-requires-3 : goal.while_loop-place-requires-3
while_loop-place-requires-3 t c =
    let made = c.in_ok-end.ensures in
    record { there = (c.in_ok-jump.ensures 0).kept _ _ (c.in_ok-statement.ensures.adds.kept _ _ (c.in_ok-place-2.ensures.kept _ _ (λ same. let s : c.in_ok-end.end.0 ≡ c.in_ok-inside.inside.0 = same in absurd (omega (arith, s, c.in_ok-end.ensures.is, c.in_ok-inside.ensures.is, c.in_ok-inside.ensures.more))) (c.in_ok-decide.ensures.adds.kept _ _ (c.in_ok-place.ensures.kept _ _ (λ same. let s : c.in_ok-end.end.0 ≡ c.in_ok-start.start.0 = same in absurd (omega (arith, s, c.in_ok-end.ensures.is, c.in_ok-start.ensures.is, c.in_ok-start.ensures.more, c.in_ok-inside.ensures.more))) made.free)))) }

pub while_loop-returns : goal.while_loop-returns
while_loop-returns t c =
    while_done (tested c.args.c.now (fresh c.args.s.now) (placed_view c.args.condition.now)) (λ u. stated c.args.c.now u (placed_statement c.args.body.now)) c.args.span c.args.s.now c.decide.new.s c.statement.new.s c.end.new.self c.args.ways.out.0 c.args.ways.again.0 c.in_ok-start.start.0 c.in_ok-inside.inside.0 c.in_ok-end.end.0
    c.args.e.now c.label.new.e c.label-2.new.e c.label-3.new.e c.place.new.e c.decide.new.e c.place-2.new.e c.statement.new.e c.jump.new.e c.place-3.new.e c.in_ok-start.ensures c.in_ok-inside.ensures c.in_ok-end.ensures c.in_ok-place.ensures
    (subst (λ (st : State). TestsIn (tested c.args.c.now st (placed_view c.args.condition.now)) st c.in_ok-inside.inside.0 c.in_ok-end.end.0 c.place.new.e c.decide.new.e c.decide.new.s) c.begin-outer.ensures.begun c.in_ok-decide.ensures)
    c.in_ok-place-2.ensures c.in_ok-statement.ensures c.in_ok-jump.ensures c.in_ok-place-3.ensures (λ u. statement_extends c.args.c.now.program.now c.args.c.now.class.0 c.args.c.now.first u (placed_statement c.args.body.now)) (put_back c.args.s.now c.statement.new.s c.end.new.self c.begin-outer.result.names c.begin-outer.result.held c.begin-outer.ensures.names c.begin-outer.ensures.held c.end.ensures)

pub do_loop-returns : goal.do_loop-returns
do_loop-returns t c =
    do_done (stated c.args.c.now (fresh c.args.s.now) (placed_statement c.args.body.now)) (λ u. tested c.args.c.now u (placed_view c.args.condition.now)) c.args.s.now c.statement.new.s c.decide.new.s c.end.new.self c.args.ways.out.0 c.args.ways.again.0 c.in_ok-start.start.0 c.in_ok-test.test.0 c.in_ok-end.end.0
    c.args.e.now c.label.new.e c.label-2.new.e c.label-3.new.e c.place.new.e c.statement.new.e c.place-2.new.e c.decide.new.e c.place-3.new.e c.in_ok-start.ensures c.in_ok-test.ensures c.in_ok-end.ensures c.in_ok-place.ensures
    (subst (λ (st : State). Steps (stated c.args.c.now st (placed_statement c.args.body.now)) c.in_ok-end.end.0 c.in_ok-test.test.0 c.place.new.e c.statement.new.e c.statement.new.s) c.begin-outer.ensures.begun c.in_ok-statement.ensures)
    c.in_ok-place-2.ensures c.in_ok-decide.ensures c.in_ok-place-3.ensures (statement_extends c.args.c.now.program.now c.args.c.now.class.0 c.args.c.now.first (fresh c.args.s.now) (placed_statement c.args.body.now)) (put_back c.args.s.now c.decide.new.s c.end.new.self c.begin-outer.result.names c.begin-outer.result.held c.begin-outer.ensures.names c.begin-outer.ensures.held c.end.ensures)

pub for_loop-place-requires : goal.for_loop-place-requires
for_loop-place-requires t c = record { there = (c.in_ok-init.ensures.runs 0 0).kept _ _ (c.in_ok-end.ensures.kept _ _ (c.in_ok-next.ensures.kept _ _ (c.in_ok-inside.ensures.kept _ _ c.in_ok-test.ensures.free))) }

pub for_loop-place-requires-2 : goal.for_loop-place-requires-2
for_loop-place-requires-2 t c = record { there = c.in_ok-optional_test.ensures.adds.kept _ _ (c.in_ok-place.ensures.kept _ _ (λ same. let s : c.in_ok-inside.inside.0 ≡ c.in_ok-test.test.0 = same in absurd (omega (arith, s, c.in_ok-inside.ensures.is, c.in_ok-test.ensures.is, c.in_ok-test.ensures.more))) ((c.in_ok-init.ensures.runs 0 0).kept _ _ (c.in_ok-end.ensures.kept _ _ (c.in_ok-next.ensures.kept _ _ c.in_ok-inside.ensures.free)))) }

pub for_loop-place-requires-3 : goal.for_loop-place-requires-3
for_loop-place-requires-3 t c = record { there = c.in_ok-statement.ensures.adds.kept _ _ (c.in_ok-place-2.ensures.kept _ _ (λ same. let s : c.in_ok-next.next.0 ≡ c.in_ok-inside.inside.0 = same in absurd (omega (arith, s, c.in_ok-next.ensures.is, c.in_ok-inside.ensures.is, c.in_ok-inside.ensures.more))) (c.in_ok-optional_test.ensures.adds.kept _ _ (c.in_ok-place.ensures.kept _ _ (λ same. let s : c.in_ok-next.next.0 ≡ c.in_ok-test.test.0 = same in absurd (omega (arith, s, c.in_ok-next.ensures.is, c.in_ok-test.ensures.is, c.in_ok-test.ensures.more, c.in_ok-inside.ensures.more))) ((c.in_ok-init.ensures.runs 0 0).kept _ _ (c.in_ok-end.ensures.kept _ _ c.in_ok-next.ensures.free))))) }

pub for_loop-place-requires-4 : goal.for_loop-place-requires-4
for_loop-place-requires-4 t c = record { there = (c.in_ok-jump.ensures 0).kept _ _ ((c.in_ok-effects.ensures.runs 0 0).kept _ _ (c.in_ok-place-3.ensures.kept _ _ (λ same. let s : c.in_ok-end.end.0 ≡ c.in_ok-next.next.0 = same in absurd (omega (arith, s, c.in_ok-end.ensures.is, c.in_ok-next.ensures.is, c.in_ok-next.ensures.more))) (c.in_ok-statement.ensures.adds.kept _ _ (c.in_ok-place-2.ensures.kept _ _ (λ same. let s : c.in_ok-end.end.0 ≡ c.in_ok-inside.inside.0 = same in absurd (omega (arith, s, c.in_ok-end.ensures.is, c.in_ok-inside.ensures.is, c.in_ok-inside.ensures.more, c.in_ok-next.ensures.more))) (c.in_ok-optional_test.ensures.adds.kept _ _ (c.in_ok-place.ensures.kept _ _ (λ same. let s : c.in_ok-end.end.0 ≡ c.in_ok-test.test.0 = same in absurd (omega (arith, s, c.in_ok-end.ensures.is, c.in_ok-test.ensures.is, c.in_ok-test.ensures.more, c.in_ok-inside.ensures.more, c.in_ok-next.ensures.more))) ((c.in_ok-init.ensures.runs 0 0).kept _ _ c.in_ok-end.ensures.free))))))) }

pub for_loop-returns : goal.for_loop-returns
for_loop-returns t c =
    for_done (init c.args.c.now.program.now c.args.c.now.class.0 c.args.c.now.first (fresh c.args.s.now) (placed_init c.args.head.now.init)) (λ u. optional_test c.args.c.now.program.now c.args.c.now.class.0 c.args.c.now.first u (placed_optional c.args.head.now.condition)) (λ u. stated c.args.c.now u (placed_statement c.args.body.now)) (λ u. effects c.args.c.now.program.now c.args.c.now.class.0 c.args.c.now.first u (placed_views c.args.head.now.update.items)) c.args.span
    c.args.s.now c.init.new.s c.optional_test.new.s c.statement.new.s c.effects.new.s c.end.new.self c.args.ways.out.0 c.args.ways.again.0 c.in_ok-test.test.0 c.in_ok-inside.inside.0 c.in_ok-next.next.0 c.in_ok-end.end.0
    c.args.e.now c.label.new.e c.label-2.new.e c.label-3.new.e c.label-4.new.e c.init.new.e c.place.new.e c.optional_test.new.e c.place-2.new.e c.statement.new.e c.place-3.new.e c.effects.new.e c.jump.new.e c.place-4.new.e
    c.in_ok-test.ensures c.in_ok-inside.ensures c.in_ok-next.ensures c.in_ok-end.ensures
    (subst (λ (st : State). StepsOn (init c.args.c.now.program.now c.args.c.now.class.0 c.args.c.now.first st (placed_init c.args.head.now.init)) c.label-4.new.e c.init.new.e c.init.new.s) c.begin-outer.ensures.begun c.in_ok-init.ensures)
    c.in_ok-place.ensures c.in_ok-optional_test.ensures c.in_ok-place-2.ensures c.in_ok-statement.ensures c.in_ok-place-3.ensures
    (subst (λ (es : List Expr). StepsOn (effects c.args.c.now.program.now c.args.c.now.class.0 c.args.c.now.first c.statement.new.s (placed_views es)) c.place-3.new.e c.effects.new.e c.effects.new.s) c.deref.ensures.value c.in_ok-effects.ensures)
    c.in_ok-jump.ensures c.in_ok-place-4.ensures
    (init_extends c.args.c.now.program.now c.args.c.now.class.0 c.args.c.now.first (fresh c.args.s.now) (placed_init c.args.head.now.init)) (λ u. statement_extends c.args.c.now.program.now c.args.c.now.class.0 c.args.c.now.first u (placed_statement c.args.body.now)) (λ u. ([], effects_extends c.args.c.now.program.now c.args.c.now.class.0 c.args.c.now.first u (placed_views c.args.head.now.update.items))) (put_back c.args.s.now c.effects.new.s c.end.new.self c.begin-outer.result.names c.begin-outer.result.held c.begin-outer.ensures.names c.begin-outer.ensures.held c.end.ensures)

pub statement-returns-in_ok-block-in-Block : goal.statement-returns-in_ok-block-in-Block
statement-returns-in_ok-block-in-Block t c =
    subst (λ (x : Stmt). Steps (stated c.args.c.now c.args.s.now (placed_statement x)) c.args.ways.out.0 c.args.ways.again.0 c.args.e.now c.block.new.e c.block.new.s) (sym c.in-Block.is)
    (subst (λ (b : PlacedStatements). Steps (stated c.args.c.now c.args.s.now (PlacedBlock b c.in-Block.span)) c.args.ways.out.0 c.args.ways.again.0 c.args.e.now c.block.new.e c.block.new.s) (sym (statements_placed c.in-Block.statements))
    (subst (λ (xs : List Stmt). Steps (stated c.args.c.now c.args.s.now (PlacedBlock (placed_statements xs) c.in-Block.span)) c.args.ways.out.0 c.args.ways.again.0 c.args.e.now c.block.new.e c.block.new.s) c.deref.ensures.value c.in_ok-block-in-Block.ensures))

pub statement-returns-in_ok-evaluated-in-Expression : goal.statement-returns-in_ok-evaluated-in-Expression
statement-returns-in_ok-evaluated-in-Expression t c =
    subst (λ (x : Stmt). Steps (stated c.args.c.now c.args.s.now (placed_statement x)) c.args.ways.out.0 c.args.ways.again.0 c.args.e.now c.evaluated.new.e c.evaluated.new.s) (sym c.in-Expression.is)
    (any_way (stated c.args.c.now c.args.s.now (PlacedExpression (placed_view c.in-Expression.expression.value) c.in-Expression.span)) c.args.ways.out.0 c.args.ways.again.0 c.args.e.now c.evaluated.new.e c.evaluated.new.s
    (subst (λ (x : Expr). StepsOn (stated c.args.c.now c.args.s.now (PlacedExpression (placed_view x) c.in-Expression.span)) c.args.e.now c.evaluated.new.e c.evaluated.new.s) c.deref-in-Expression.ensures c.in_ok-evaluated-in-Expression.ensures))

pub statement-returns-in_ok-returns-in-Return : goal.statement-returns-in_ok-returns-in-Return
statement-returns-in_ok-returns-in-Return t c =
    subst (λ (x : Stmt). Steps (stated c.args.c.now c.args.s.now (placed_statement x)) c.args.ways.out.0 c.args.ways.again.0 c.args.e.now c.returns.new.e c.returns.new.s) (sym c.in-Return.is)
    (any_way (stated c.args.c.now c.args.s.now (PlacedReturn (placed_optional c.in-Return.value) c.in-Return.span)) c.args.ways.out.0 c.args.ways.again.0 c.args.e.now c.returns.new.e c.returns.new.s c.in_ok-returns-in-Return.ensures)

pub statement-returns-in_ok-local-in-Local : goal.statement-returns-in_ok-local-in-Local
statement-returns-in_ok-local-in-Local t c =
    subst (λ (x : Stmt). Steps (stated c.args.c.now c.args.s.now (placed_statement x)) c.args.ways.out.0 c.args.ways.again.0 c.args.e.now c.local.new.e c.local.new.s) (sym c.in-Local.is)
    (any_way (stated c.args.c.now c.args.s.now (PlacedLocalStatement (placed_local c.in-Local.declaration.value) c.in-Local.span)) c.args.ways.out.0 c.args.ways.again.0 c.args.e.now c.local.new.e c.local.new.s
    (subst (λ (l : LocalDeclaration). StepsOn (stated c.args.c.now c.args.s.now (PlacedLocalStatement (placed_local l) c.in-Local.span)) c.args.e.now c.local.new.e c.local.new.s) c.deref-in-Local.ensures c.in_ok-local-in-Local.ensures))

pub statement-place-requires-in-IfElse : goal.statement-place-requires-in-IfElse
statement-place-requires-in-IfElse t c = record { there = (c.in_ok-jump-in-IfElse.ensures 0).kept _ _ (c.in_ok-statement-in-IfElse.ensures.adds.kept _ _ (c.in_ok-place-in-IfElse.ensures.kept _ _ (λ same. let s : c.in_ok-second-in-IfElse.second.0 ≡ c.in_ok-first-in-IfElse.first.0 = same in absurd (omega (arith, s, c.in_ok-second-in-IfElse.ensures.is, c.in_ok-first-in-IfElse.ensures.is, c.in_ok-first-in-IfElse.ensures.more))) (c.in_ok-decide-in-IfElse.ensures.adds.kept _ _ (c.in_ok-end-in-IfElse.ensures.kept _ _ c.in_ok-second-in-IfElse.ensures.free)))) }

pub statement-place-requires-in-IfElse-2 : goal.statement-place-requires-in-IfElse-2
statement-place-requires-in-IfElse-2 t c = record { there = c.in_ok-statement-in-IfElse-2.ensures.adds.kept _ _ (c.in_ok-place-in-IfElse-2.ensures.kept _ _ (λ same. let s : c.in_ok-end-in-IfElse.end.0 ≡ c.in_ok-second-in-IfElse.second.0 = same in absurd (omega (arith, s, c.in_ok-end-in-IfElse.ensures.is, c.in_ok-second-in-IfElse.ensures.is, c.in_ok-second-in-IfElse.ensures.more))) ((c.in_ok-jump-in-IfElse.ensures 0).kept _ _ (c.in_ok-statement-in-IfElse.ensures.adds.kept _ _ (c.in_ok-place-in-IfElse.ensures.kept _ _ (λ same. let s : c.in_ok-end-in-IfElse.end.0 ≡ c.in_ok-first-in-IfElse.first.0 = same in absurd (omega (arith, s, c.in_ok-end-in-IfElse.ensures.is, c.in_ok-first-in-IfElse.ensures.is, c.in_ok-first-in-IfElse.ensures.more, c.in_ok-second-in-IfElse.ensures.more))) (c.in_ok-decide-in-IfElse.ensures.adds.kept _ _ c.in_ok-end-in-IfElse.ensures.free))))) }

pub statement-returns-in_ok-place-in-IfElse-3 : goal.statement-returns-in_ok-place-in-IfElse-3
statement-returns-in_ok-place-in-IfElse-3 t c =
    subst (λ (x : Stmt). Steps (stated c.args.c.now c.args.s.now (placed_statement x)) c.args.ways.out.0 c.args.ways.again.0 c.args.e.now c.place-in-IfElse-2.new.e c.end.new.self) (sym c.in-IfElse.is)
    (if_else_done (tested c.args.c.now (fresh c.args.s.now) (placed_view c.in-IfElse.condition.value)) (λ u. stated c.args.c.now u (placed_statement c.in-IfElse.then.value)) (λ u. stated c.args.c.now u (placed_statement c.in-IfElse.otherwise.value)) c.in-IfElse.span
    c.args.s.now c.decide.new.s c.statement.new.s c.statement-in-IfElse.new.s c.end.new.self c.args.ways.out.0 c.args.ways.again.0 c.in_ok-first-in-IfElse.first.0 c.in_ok-second-in-IfElse.second.0 c.in_ok-end-in-IfElse.end.0
    c.args.e.now c.label.new.e c.label-in-IfElse.new.e c.label-in-IfElse-2.new.e c.decide.new.e c.place.new.e c.statement.new.e c.jump.new.e c.place-in-IfElse.new.e c.statement-in-IfElse.new.e c.place-in-IfElse-2.new.e
    c.in_ok-first-in-IfElse.ensures c.in_ok-second-in-IfElse.ensures c.in_ok-end-in-IfElse.ensures
    (subst (λ (x : Expr). TestsIn (tested c.args.c.now (fresh c.args.s.now) (placed_view x)) (fresh c.args.s.now) c.in_ok-first-in-IfElse.first.0 c.in_ok-second-in-IfElse.second.0 c.label-in-IfElse-2.new.e c.decide.new.e c.decide.new.s) c.deref-in-IfElse.ensures
    (subst (λ (st : State). TestsIn (tested c.args.c.now st (placed_view c.deref-in-IfElse.result.now)) st c.in_ok-first-in-IfElse.first.0 c.in_ok-second-in-IfElse.second.0 c.label-in-IfElse-2.new.e c.decide.new.e c.decide.new.s) c.begin-outer.ensures.begun c.in_ok-decide-in-IfElse.ensures))
    c.in_ok-place-in-IfElse.ensures
    (subst (λ (x : Stmt). Steps (stated c.args.c.now c.decide.new.s (placed_statement x)) c.args.ways.out.0 c.args.ways.again.0 c.place.new.e c.statement.new.e c.statement.new.s) c.deref-in-IfElse-2.ensures c.in_ok-statement-in-IfElse.ensures)
    c.in_ok-jump-in-IfElse.ensures c.in_ok-place-in-IfElse-2.ensures
    (subst (λ (x : Stmt). Steps (stated c.args.c.now c.statement.new.s (placed_statement x)) c.args.ways.out.0 c.args.ways.again.0 c.place-in-IfElse.new.e c.statement-in-IfElse.new.e c.statement-in-IfElse.new.s) c.deref-in-IfElse-3.ensures c.in_ok-statement-in-IfElse-2.ensures)
    c.in_ok-place-in-IfElse-3.ensures (λ u. statement_extends c.args.c.now.program.now c.args.c.now.class.0 c.args.c.now.first u (placed_statement c.in-IfElse.then.value)) (λ u. statement_extends c.args.c.now.program.now c.args.c.now.class.0 c.args.c.now.first u (placed_statement c.in-IfElse.otherwise.value)) (put_back c.args.s.now c.statement-in-IfElse.new.s c.end.new.self c.begin-outer.result.names c.begin-outer.result.held c.begin-outer.ensures.names c.begin-outer.ensures.held c.end.ensures))

pub each_loop-place-requires : goal.each_loop-place-requires
each_loop-place-requires t c = record { there = (c.in_ok-at.ensures.1.runs 0 0).kept _ _ (c.in_ok-end.ensures.kept _ _ (c.in_ok-again.ensures.kept _ _ (c.in_ok-inside.ensures.kept _ _ (c.in_ok-test.ensures.free)))) }

pub each_loop-place-requires-2 : goal.each_loop-place-requires-2
each_loop-place-requires-2 t c = record { there = c.in_ok-goes_on.ensures.adds.kept _ _ (c.in_ok-place.ensures.kept _ _ (λ same. let s : c.in_ok-inside.inside.0 ≡ c.in_ok-test.test.0 = same in absurd (omega (arith, s, c.in_ok-inside.ensures.is, c.in_ok-test.ensures.is, c.in_ok-test.ensures.more))) ((c.in_ok-at.ensures.1.runs 0 0).kept _ _ (c.in_ok-end.ensures.kept _ _ (c.in_ok-again.ensures.kept _ _ (c.in_ok-inside.ensures.free))))) }

pub each_loop-place-requires-3 : goal.each_loop-place-requires-3
each_loop-place-requires-3 t c = record { there = c.in_ok-statement.ensures.adds.kept _ _ ((c.in_ok-item.ensures.runs 0 0).kept _ _ (c.in_ok-place-2.ensures.kept _ _ (λ same. let s : c.in_ok-again.again.0 ≡ c.in_ok-inside.inside.0 = same in absurd (omega (arith, s, c.in_ok-again.ensures.is, c.in_ok-inside.ensures.is, c.in_ok-inside.ensures.more))) (c.in_ok-goes_on.ensures.adds.kept _ _ (c.in_ok-place.ensures.kept _ _ (λ same. let s : c.in_ok-again.again.0 ≡ c.in_ok-test.test.0 = same in absurd (omega (arith, s, c.in_ok-again.ensures.is, c.in_ok-test.ensures.is, c.in_ok-test.ensures.more, c.in_ok-inside.ensures.more))) ((c.in_ok-at.ensures.1.runs 0 0).kept _ _ (c.in_ok-end.ensures.kept _ _ (c.in_ok-again.ensures.free))))))) }

pub each_loop-place-requires-4 : goal.each_loop-place-requires-4
each_loop-place-requires-4 t c = record { there = (c.in_ok-jump.ensures 0).kept _ _ ((c.in_ok-moves_on.ensures.runs 0 0).kept _ _ (c.in_ok-place-3.ensures.kept _ _ (λ same. let s : c.in_ok-end.end.0 ≡ c.in_ok-again.again.0 = same in absurd (omega (arith, s, c.in_ok-end.ensures.is, c.in_ok-again.ensures.is, c.in_ok-again.ensures.more))) (c.in_ok-statement.ensures.adds.kept _ _ ((c.in_ok-item.ensures.runs 0 0).kept _ _ (c.in_ok-place-2.ensures.kept _ _ (λ same. let s : c.in_ok-end.end.0 ≡ c.in_ok-inside.inside.0 = same in absurd (omega (arith, s, c.in_ok-end.ensures.is, c.in_ok-inside.ensures.is, c.in_ok-inside.ensures.more, c.in_ok-again.ensures.more))) (c.in_ok-goes_on.ensures.adds.kept _ _ (c.in_ok-place.ensures.kept _ _ (λ same. let s : c.in_ok-end.end.0 ≡ c.in_ok-test.test.0 = same in absurd (omega (arith, s, c.in_ok-end.ensures.is, c.in_ok-test.ensures.is, c.in_ok-test.ensures.more, c.in_ok-inside.ensures.more, c.in_ok-again.ensures.more))) ((c.in_ok-at.ensures.1.runs 0 0).kept _ _ (c.in_ok-end.ensures.free))))))))) }

pub each_loop-returns : goal.each_loop-returns
each_loop-returns t c = λ span.
    let begun = c.begin-outer.ensures.begun in
    let v : Value = valued c.args.c.now (fresh c.args.s.now) (placed_view c.args.array.now) in
    let f : State → Step = λ u. stated c.args.c.now u (placed_statement c.args.body.now) in
    subst (λ (x : Step). Steps x c.args.ways.out.0 c.args.ways.again.0 c.args.e.now c.place-4.new.e c.end.new.self)
    (each_same c.args.c.now.program.now c.args.c.now.class.0 c.args.c.now.first f c.args.s.now v c.args.variable.now.name.name.0 c.in_ok-at.at v.operand.span c.in_ok-reg.reg.0 (length c.args.s.now.locals) c.type_in-base.result (type_of c.args.c.now.program.now c.args.c.now.class.0 c.args.s.now.scope (placed_view c.args.array.now))
    c.kind_of-kind.result.base (local_type c.args.c.now.program.now c.args.c.now.class.0 c.args.c.now.first c.args.variable.now.modifiers.items (placed_type_use c.args.variable.now.type_use)) (bound_of c.kind_of-kind.result.bound) (local_bound c.args.c.now.program.now c.args.c.now.class.0 c.args.c.now.first c.args.variable.now.modifiers.items (placed_type_use c.args.variable.now.type_use)) c.has_final-fixed.result (has_final c.args.variable.now.modifiers.items) (rows_of c.kind_of-kind.result.fault) (base_rows c.args.c.now.program.now c.args.variable.now.type_use.base)
    (in_state (λ (s : State). (valued c.args.c.now s (placed_view c.args.array.now)).operand.span) c.in_ok-at.at _ (fresh c.args.s.now) c.in_ok-at.ensures.0 begun)
    (in_state (λ (s : State). length s.locals) c.in_ok-reg.reg.0 _ (fresh c.args.s.now) c.in_ok-reg.ensures begun)
    (in_state (λ (s : State). type_of c.args.c.now.program.now c.args.c.now.class.0 s.scope (placed_view c.args.array.now)) c.type_in-base.result _ (fresh c.args.s.now) c.type_in-base.ensures begun)
    (c.kind_of-kind.ensures.base ∙ ap (λ (ms : List LocalModifier). local_type c.args.c.now.program.now c.args.c.now.class.0 c.args.c.now.first ms (placed_type_use c.args.variable.now.type_use)) c.deref.ensures.value)
    (c.kind_of-kind.ensures.bound ∙ ap (λ (ms : List LocalModifier). local_bound c.args.c.now.program.now c.args.c.now.class.0 c.args.c.now.first ms (placed_type_use c.args.variable.now.type_use)) c.deref.ensures.value)
    (c.has_final-fixed.ensures ∙ ap has_final c.deref-2.ensures.value) c.kind_of-kind.ensures.fault)
    (each_done c.args.c.now.program.now c.args.c.now.class.0 c.args.c.now.first f c.args.s.now v c.args.variable.now.name.name.0 c.in_ok-at.at c.in_ok-reg.reg.0 c.type_in-base.result c.kind_of-kind.result.base (bound_of c.kind_of-kind.result.bound) c.has_final-fixed.result (rows_of c.kind_of-kind.result.fault)
    c.start_with.new.s c.goes_on.new.s c.item.new.s c.declare_each.new.self c.statement.new.s c.moves_on.new.s c.end.new.self c.args.ways.out.0 c.args.ways.again.0 c.in_ok-test.test.0 c.in_ok-inside.inside.0 c.in_ok-again.again.0 c.in_ok-end.end.0
    c.args.e.now c.label.new.e c.label-2.new.e c.label-3.new.e c.label-4.new.e c.start_with.new.e c.place.new.e c.goes_on.new.e c.place-2.new.e c.item.new.e c.statement.new.e c.place-3.new.e c.moves_on.new.e c.jump.new.e c.place-4.new.e
    c.in_ok-test.ensures c.in_ok-inside.ensures c.in_ok-again.ensures c.in_ok-end.ensures
    (subst (λ (s : State). StepsOn (moved_to c.in_ok-at.at (c.in_ok-reg.reg.0 + 1) None s (each_start c.args.c.now.program.now c.args.c.now.class.0 c.args.c.now.first c.in_ok-at.at c.in_ok-reg.reg.0 (valued c.args.c.now s (placed_view c.args.array.now)))) c.label-4.new.e c.start_with.new.e c.start_with.new.s) begun c.in_ok-at.ensures.1)
    c.in_ok-place.ensures c.in_ok-goes_on.ensures c.in_ok-place-2.ensures c.in_ok-item.ensures c.in_ok-declare_each.ensures c.in_ok-statement.ensures c.in_ok-place-3.ensures c.in_ok-moves_on.ensures c.in_ok-jump.ensures c.in_ok-place-4.ensures
    (λ u. statement_extends c.args.c.now.program.now c.args.c.now.class.0 c.args.c.now.first u (placed_statement c.args.body.now)) (put_back c.args.s.now c.moves_on.new.s c.end.new.self c.begin-outer.result.names c.begin-outer.result.held c.begin-outer.ensures.names c.begin-outer.ensures.held c.end.ensures))

pub statement-returns-in_ok-if_then-in-If : goal.statement-returns-in_ok-if_then-in-If
statement-returns-in_ok-if_then-in-If t c =
    subst (λ (x : Stmt). Steps (stated c.args.c.now c.args.s.now (placed_statement x)) c.args.ways.out.0 c.args.ways.again.0 c.args.e.now c.if_then.new.e c.if_then.new.s) (sym c.in-If.is)
    (subst (λ (b : Stmt). Steps (stated c.args.c.now c.args.s.now (PlacedIf (placed_view c.in-If.condition.value) (placed_statement b) c.in-If.span)) c.args.ways.out.0 c.args.ways.again.0 c.args.e.now c.if_then.new.e c.if_then.new.s) c.deref-in-If.ensures
    (subst (λ (q : Expr). Steps (stated c.args.c.now c.args.s.now (PlacedIf (placed_view q) (placed_statement c.deref-in-If.result.now) c.in-If.span)) c.args.ways.out.0 c.args.ways.again.0 c.args.e.now c.if_then.new.e c.if_then.new.s) c.deref-in-If-2.ensures c.in_ok-if_then-in-If.ensures))

pub statement-returns-in_ok-while_loop-in-While : goal.statement-returns-in_ok-while_loop-in-While
statement-returns-in_ok-while_loop-in-While t c =
    subst (λ (x : Stmt). Steps (stated c.args.c.now c.args.s.now (placed_statement x)) c.args.ways.out.0 c.args.ways.again.0 c.args.e.now c.while_loop.new.e c.while_loop.new.s) (sym c.in-While.is)
    (subst (λ (b : Stmt). Steps (stated c.args.c.now c.args.s.now (PlacedWhile (placed_view c.in-While.condition.value) (placed_statement b) c.in-While.span)) c.args.ways.out.0 c.args.ways.again.0 c.args.e.now c.while_loop.new.e c.while_loop.new.s) c.deref-in-While.ensures
    (subst (λ (q : Expr). Steps (stated c.args.c.now c.args.s.now (PlacedWhile (placed_view q) (placed_statement c.deref-in-While.result.now) c.in-While.span)) c.args.ways.out.0 c.args.ways.again.0 c.args.e.now c.while_loop.new.e c.while_loop.new.s) c.deref-in-While-2.ensures c.in_ok-while_loop-in-While.ensures))

pub statement-returns-in_ok-do_loop-in-Do : goal.statement-returns-in_ok-do_loop-in-Do
statement-returns-in_ok-do_loop-in-Do t c =
    subst (λ (x : Stmt). Steps (stated c.args.c.now c.args.s.now (placed_statement x)) c.args.ways.out.0 c.args.ways.again.0 c.args.e.now c.do_loop.new.e c.do_loop.new.s) (sym c.in-Do.is)
    (subst (λ (b : Stmt). Steps (stated c.args.c.now c.args.s.now (PlacedDo (placed_statement b) (placed_view c.in-Do.condition.value) c.in-Do.span)) c.args.ways.out.0 c.args.ways.again.0 c.args.e.now c.do_loop.new.e c.do_loop.new.s) c.deref-in-Do.ensures
    (subst (λ (q : Expr). Steps (stated c.args.c.now c.args.s.now (PlacedDo (placed_statement c.deref-in-Do.result.now) (placed_view q) c.in-Do.span)) c.args.ways.out.0 c.args.ways.again.0 c.args.e.now c.do_loop.new.e c.do_loop.new.s) c.deref-in-Do-2.ensures c.in_ok-do_loop-in-Do.ensures))

pub statement-returns-in_ok-for_loop-in-For : goal.statement-returns-in_ok-for_loop-in-For
statement-returns-in_ok-for_loop-in-For t c =
    subst (λ (x : Stmt). Steps (stated c.args.c.now c.args.s.now (placed_statement x)) c.args.ways.out.0 c.args.ways.again.0 c.args.e.now c.for_loop.new.e c.for_loop.new.s) (sym c.in-For.is)
    (subst (λ (b : Stmt). Steps (stated c.args.c.now c.args.s.now (PlacedFor (placed_init c.in-For.head.value.init) (placed_optional c.in-For.head.value.condition) (placed_views c.in-For.head.value.update.items) (placed_statement b) c.in-For.span)) c.args.ways.out.0 c.args.ways.again.0 c.args.e.now c.for_loop.new.e c.for_loop.new.s) c.deref-in-For.ensures
    (subst (λ (h : ForHead). Steps (stated c.args.c.now c.args.s.now (PlacedFor (placed_init h.init) (placed_optional h.condition) (placed_views h.update.items) (placed_statement c.deref-in-For.result.now) c.in-For.span)) c.args.ways.out.0 c.args.ways.again.0 c.args.e.now c.for_loop.new.e c.for_loop.new.s) c.deref-in-For-2.ensures c.in_ok-for_loop-in-For.ensures))

pub statement-returns-in_ok-each_loop-in-ForEach : goal.statement-returns-in_ok-each_loop-in-ForEach
statement-returns-in_ok-each_loop-in-ForEach t c =
    subst (λ (x : Stmt). Steps (stated c.args.c.now c.args.s.now (placed_statement x)) c.args.ways.out.0 c.args.ways.again.0 c.args.e.now c.each_loop.new.e c.each_loop.new.s) (sym c.in-ForEach.is)
    (subst (λ (b : Stmt). Steps (stated c.args.c.now c.args.s.now (PlacedForEach c.in-ForEach.variable.value.modifiers.items (placed_type_use c.in-ForEach.variable.value.type_use) c.in-ForEach.variable.value.name (placed_view c.in-ForEach.array.value) (placed_statement b) c.in-ForEach.span)) c.args.ways.out.0 c.args.ways.again.0 c.args.e.now c.each_loop.new.e c.each_loop.new.s) c.deref-in-ForEach.ensures
    (subst (λ (p : Parameter). Steps (stated c.args.c.now c.args.s.now (PlacedForEach p.modifiers.items (placed_type_use p.type_use) p.name (placed_view c.in-ForEach.array.value) (placed_statement c.deref-in-ForEach.result.now) c.in-ForEach.span)) c.args.ways.out.0 c.args.ways.again.0 c.args.e.now c.each_loop.new.e c.each_loop.new.s) c.deref-in-ForEach-2.ensures
    (subst (λ (a : Expr). Steps (stated c.args.c.now c.args.s.now (PlacedForEach c.deref-in-ForEach-2.result.now.modifiers.items (placed_type_use c.deref-in-ForEach-2.result.now.type_use) c.deref-in-ForEach-2.result.now.name (placed_view a) (placed_statement c.deref-in-ForEach.result.now) c.in-ForEach.span)) c.args.ways.out.0 c.args.ways.again.0 c.args.e.now c.each_loop.new.e c.each_loop.new.s) c.deref-in-ForEach-3.ensures (c.in_ok-each_loop-in-ForEach.ensures c.in-ForEach.span))))
