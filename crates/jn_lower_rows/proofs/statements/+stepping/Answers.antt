use Rattle.std.proofs.Common.{◌∙◌, ap, take, sym}
use Rattle.jn_trees.specs.declared.declaration.Parameter.{Parameter}
use Rattle.jn_trees.specs.declared.statement.ForHead.{ForHead}
use Rattle.jn_places.specs.PlacedView.{placed_type_use}
use Rattle.jn_lowering.specs.Bases.{type_of_use}
use Rattle.jn_lowering.specs.Locals.{has_final}
use Rattle.jn_scopes.specs.Views.{faults_of}
use Rattle.jn_lower_rows.specs.Views.{setting_of}
use Rattle.jn_lower_rows.proofs.Stepping.{block_walks, break_walks, continue_walks, do_walks, each_walks, else_walks, empty_walks, end_walks, expression_walks, for_walks, if_walks, local_walks, more_walks, return_walks, super_walks, this_walks, while_walks}
use Rattle.jn_lower_rows.proofs.statements.+stepping.Goals as goal

pub statement-returns-in_ok-statements-in-Block : goal.statement-returns-in_ok-statements-in-Block
statement-returns-in_ok-statements-in-Block t c = block_walks c.args.place.now.program.now c.args.place.now.class.0 (setting_of c.args.place.now.at) _ c.in-Block.inner c.in-Block.span _ c.args.names.now c.statements.new.names c.back_to.new.names _ _ c.in-Block.is c.deref.ensures.value c.requires.kept c.in_ok-statements-in-Block.ensures (c.back_to.ensures.0 ∙ ap (λ n. take n c.statements.new.names.scope) c.mark_of-before.ensures.0, c.back_to.ensures.1 ∙ ap (λ n. take n c.statements.new.names.faults.items) c.mark_of-before.ensures.1)

pub statement-returns-in_ok-look-in-Expression : goal.statement-returns-in_ok-look-in-Expression
statement-returns-in_ok-look-in-Expression t c = expression_walks c.args.place.now.program.now c.args.place.now.class.0 (setting_of c.args.place.now.at) _ c.in-Expression.inner _ c.in-Expression.span c.args.names.now _ _ c.in-Expression.is c.deref-in-Expression.ensures c.requires.kept c.in_ok-look-in-Expression.ensures.1

pub statement-returns-in_ok-optional-in-Return : goal.statement-returns-in_ok-optional-in-Return
statement-returns-in_ok-optional-in-Return t c = return_walks c.args.place.now.program.now c.args.place.now.class.0 (setting_of c.args.place.now.at) _ c.in-Return.value c.in-Return.span c.args.names.now _ _ c.in-Return.is c.in_ok-optional-in-Return.ensures

pub statement-returns-in_ok-declaration-in-Local : goal.statement-returns-in_ok-declaration-in-Local
statement-returns-in_ok-declaration-in-Local t c = local_walks c.args.place.now.program.now c.args.place.now.class.0 (setting_of c.args.place.now.at) _ c.in-Local.local _ c.in-Local.span c.args.names.now _ _ _ c.in-Local.is c.deref-in-Local.ensures c.in_ok-declaration-in-Local.ensures

pub statement-returns-in_ok-statement-in-If : goal.statement-returns-in_ok-statement-in-If
statement-returns-in_ok-statement-in-If t c = if_walks c.args.place.now.program.now c.args.place.now.class.0 (setting_of c.args.place.now.at) _ c.in-If.condition c.in-If.then c.in-If.span _ _ c.args.names.now c.statement.new.names c.back_to-in-If.new.names _ _ _ c.in-If.is c.deref-in-If.ensures c.deref-in-If-2.ensures c.requires.kept c.in_ok-look-in-If.ensures.1 c.in_ok-statement-in-If.ensures (c.back_to-in-If.ensures.0 ∙ ap (λ n. take n c.statement.new.names.scope) c.mark_of-before-in-If.ensures.0, c.back_to-in-If.ensures.1 ∙ ap (λ n. take n c.statement.new.names.faults.items) c.mark_of-before-in-If.ensures.1)

pub statement-returns-in_ok-statement-in-IfElse-2 : goal.statement-returns-in_ok-statement-in-IfElse-2
statement-returns-in_ok-statement-in-IfElse-2 t c = else_walks c.args.place.now.program.now c.args.place.now.class.0 (setting_of c.args.place.now.at) _ c.in-IfElse.condition c.in-IfElse.then c.in-IfElse.otherwise c.in-IfElse.span _ _ _ c.args.names.now c.statement-in-IfElse.new.names c.statement-in-IfElse-2.new.names c.back_to-in-IfElse.new.names _ _ _ _ c.in-IfElse.is c.deref-in-IfElse.ensures c.deref-in-IfElse-2.ensures c.deref-in-IfElse-3.ensures c.requires.kept c.in_ok-look-in-IfElse.ensures.1 c.in_ok-statement-in-IfElse.ensures c.in_ok-statement-in-IfElse-2.ensures (c.back_to-in-IfElse.ensures.0 ∙ ap (λ n. take n c.statement-in-IfElse-2.new.names.scope) c.mark_of-before-in-IfElse.ensures.0, c.back_to-in-IfElse.ensures.1 ∙ ap (λ n. take n c.statement-in-IfElse-2.new.names.faults.items) c.mark_of-before-in-IfElse.ensures.1)

pub statement-returns-in_ok-statement-in-While : goal.statement-returns-in_ok-statement-in-While
statement-returns-in_ok-statement-in-While t c = while_walks c.args.place.now.program.now c.args.place.now.class.0 (setting_of c.args.place.now.at) _ c.in-While.condition c.in-While.body c.in-While.span _ _ c.args.names.now c.statement-in-While.new.names c.back_to-in-While.new.names _ _ _ c.in-While.is c.deref-in-While.ensures c.deref-in-While-2.ensures c.requires.kept c.in_ok-look-in-While.ensures.1 c.in_ok-statement-in-While.ensures (c.back_to-in-While.ensures.0 ∙ ap (λ n. take n c.statement-in-While.new.names.scope) c.mark_of-before-in-While.ensures.0, c.back_to-in-While.ensures.1 ∙ ap (λ n. take n c.statement-in-While.new.names.faults.items) c.mark_of-before-in-While.ensures.1)

pub statement-returns-in_ok-look-in-Do : goal.statement-returns-in_ok-look-in-Do
statement-returns-in_ok-look-in-Do t c = do_walks c.args.place.now.program.now c.args.place.now.class.0 (setting_of c.args.place.now.at) _ c.in-Do.condition c.in-Do.body c.in-Do.span _ _ c.args.names.now c.statement-in-Do.new.names c.back_to-in-Do.new.names _ _ _ c.in-Do.is c.deref-in-Do-2.ensures c.deref-in-Do.ensures c.requires.kept c.in_ok-statement-in-Do.ensures c.in_ok-look-in-Do.ensures.1 (c.back_to-in-Do.ensures.0 ∙ ap (λ n. take n c.statement-in-Do.new.names.scope) c.mark_of-before-in-Do.ensures.0, c.back_to-in-Do.ensures.1 ∙ ap (λ n. take n c.statement-in-Do.new.names.faults.items) c.mark_of-before-in-Do.ensures.1)

pub statement-returns-in_ok-look_all-in-For : goal.statement-returns-in_ok-look_all-in-For
statement-returns-in_ok-look_all-in-For t c = for_walks c.args.place.now.program.now c.args.place.now.class.0 (setting_of c.args.place.now.at) _ c.in-For.head c.in-For.body c.in-For.span _ _ _ _ c.args.names.now c.init.new.names c.statement-in-For.new.names c.back_to-in-For.new.names _ _ _ _ _ c.in-For.is (ap (λ (h : ForHead). h.init) c.deref-in-For.ensures) (ap (λ (h : ForHead). h.condition) c.deref-in-For-2.ensures) c.deref-in-For-3.ensures (c.deref-in-For-5.ensures.value ∙ ap (λ (h : ForHead). h.update.items) c.deref-in-For-4.ensures) c.requires.kept c.in_ok-init-in-For.ensures c.in_ok-optional-in-For.ensures c.in_ok-statement-in-For.ensures c.in_ok-look_all-in-For.ensures (c.back_to-in-For.ensures.0 ∙ ap (λ n. take n c.statement-in-For.new.names.scope) c.mark_of-before-in-For.ensures.0, c.back_to-in-For.ensures.1 ∙ ap (λ n. take n c.statement-in-For.new.names.faults.items) c.mark_of-before-in-For.ensures.1)

pub statement-returns-in_ok-statement-in-ForEach : goal.statement-returns-in_ok-statement-in-ForEach
statement-returns-in_ok-statement-in-ForEach t c = each_walks c.args.place.now.program.now c.args.place.now.class.0 (setting_of c.args.place.now.at) _ c.in-ForEach.variable c.in-ForEach.over c.in-ForEach.body c.in-ForEach.span _ _ _ _ _ c.deref-in-ForEach-4.result.now _ _ (faults_of c.declare_type.new.names.faults.items c.in_ok-faults-in-ForEach.faults) c.args.names.now c.declare_type.new.names c.declare.new.names c.statement-in-ForEach.new.names c.back_to-in-ForEach.new.names _ _ _ _ _ c.in-ForEach.is
    (c.deref-in-ForEach-2.ensures.value ∙ ap (λ (p : Parameter). p.modifiers.items) c.deref-in-ForEach.ensures) (ap (λ (p : Parameter). p.type_use) c.deref-in-ForEach-3.ensures) (ap (λ (p : Parameter). p.name) c.deref-in-ForEach-8.ensures) c.deref-in-ForEach-5.ensures c.deref-in-ForEach-11.ensures
    (c.deref-in-ForEach-4.ensures.value ∙ c.in_ok-notes-in-ForEach.ensures)
    (c.type_of_use-base.ensures ∙ ap (λ (p : Parameter). type_of_use c.args.place.now.program.now (placed_type_use p.type_use) c.deref-in-ForEach-7.result.now) (c.deref-in-ForEach-6.ensures ∙ sym c.deref-in-ForEach-3.ensures) ∙ ap (type_of_use c.args.place.now.program.now (placed_type_use c.deref-in-ForEach-3.result.now.type_use)) (c.deref-in-ForEach-7.ensures.value ∙ sym c.deref-in-ForEach-4.ensures.value))
    (c.has_final.ensures ∙ ap has_final (c.deref-in-ForEach-10.ensures.value ∙ ap (λ (p : Parameter). p.modifiers.items) (c.deref-in-ForEach-9.ensures ∙ sym c.deref-in-ForEach.ensures) ∙ sym c.deref-in-ForEach-2.ensures.value))
    c.in_ok-faults-in-ForEach.ensures.faults.0 c.requires.kept c.in_ok-faults-in-ForEach.ensures.walks c.in_ok-array-in-ForEach.ensures c.in_ok-declare-in-ForEach.ensures.walks c.in_ok-statement-in-ForEach.ensures (c.back_to-in-ForEach.ensures.0 ∙ ap (λ n. take n c.statement-in-ForEach.new.names.scope) c.mark_of-before-in-ForEach.ensures.0, c.back_to-in-ForEach.ensures.1 ∙ ap (λ n. take n c.statement-in-ForEach.new.names.faults.items) c.mark_of-before-in-ForEach.ensures.1)

pub statement-returns-in-Empty : goal.statement-returns-in-Empty
statement-returns-in-Empty t c = empty_walks c.args.place.now.program.now c.args.place.now.class.0 (setting_of c.args.place.now.at) _ c.in-Empty.span c.args.names.now c.args.rows.now c.in-Empty.is c.requires.kept

pub statement-returns-in-Break : goal.statement-returns-in-Break
statement-returns-in-Break t c = break_walks c.args.place.now.program.now c.args.place.now.class.0 (setting_of c.args.place.now.at) _ c.in-Break.span c.args.names.now c.args.rows.now c.in-Break.is c.requires.kept

pub statement-returns-in-Continue : goal.statement-returns-in-Continue
statement-returns-in-Continue t c = continue_walks c.args.place.now.program.now c.args.place.now.class.0 (setting_of c.args.place.now.at) _ c.in-Continue.span c.args.names.now c.args.rows.now c.in-Continue.is c.requires.kept

pub statement-returns-in-ThisCall : goal.statement-returns-in-ThisCall
statement-returns-in-ThisCall t c = this_walks c.args.place.now.program.now c.args.place.now.class.0 (setting_of c.args.place.now.at) _ c.in-ThisCall.arguments c.in-ThisCall.span c.args.names.now c.args.rows.now c.in-ThisCall.is c.requires.kept

pub statement-returns-in-SuperCall : goal.statement-returns-in-SuperCall
statement-returns-in-SuperCall t c = super_walks c.args.place.now.program.now c.args.place.now.class.0 (setting_of c.args.place.now.at) _ c.in-SuperCall.arguments c.in-SuperCall.span c.args.names.now c.args.rows.now c.in-SuperCall.is c.requires.kept

pub statements-loop-tree-preserved : goal.statements-loop-tree-preserved
statements-loop-tree-preserved t c = (c.in_ok-statement.ensures.kept, λ last z more. c.loop-tree.invariant.1 last z (more_walks c.args.place.now.program.now c.args.place.now.class.0 (setting_of c.args.place.now.at) c.args.trees.now c.loop-tree.tree-index c.tree-item.result c.loop-tree.names c.statement.new.names last c.loop-tree.rows c.statement.new.rows z c.loop-tree-test.true c.tree-item.is c.in_ok-statement.ensures more))

pub statements-returns : goal.statements-returns
statements-returns t c = c.loop-tree.invariant.1 c.loop-tree.names c.loop-tree.rows (end_walks c.args.place.now.program.now c.args.place.now.class.0 (setting_of c.args.place.now.at) c.args.trees.now c.loop-tree.tree-index c.loop-tree.names c.loop-tree.rows c.loop-tree-test.false c.loop-tree.invariant.0)
