-- Sources and programs may be shared between threads.
use denote.Param.Send.{IsSync, sendable}
use Rattle.std.proofs.Crossing.{crosses}
use Rattle.std.specs.contracts.option.Option as Option
use Rattle.std.specs.contracts.vec.Vec as Vec
use Rattle.std.specs.contracts.boxed.Box as Box
use Rattle.std.specs.contracts.alloc.Global as Global
use Rattle.std.specs.contracts.impls.GlobalAllocator.TheImpl.{ghosts}
use Rattle.jn_trees.specs.contracts.expression.ElementType as ElementType
use Rattle.jn_trees.specs.contracts.expression.Expr as Expr
use Rattle.jn_trees.specs.contracts.statement.Declarator as Declarator
use Rattle.jn_trees.specs.contracts.statement.LocalDeclaration as LocalDeclaration
use Rattle.jn_trees.specs.contracts.statement.ForInit as ForInit
use Rattle.jn_trees.specs.contracts.statement.ForHead as ForHead
use Rattle.jn_trees.specs.contracts.statement.Stmt as Stmt
use Rattle.jn_trees.specs.contracts.declaration.Parameter as Parameter
use Rattle.jn_trees.specs.contracts.declaration.Member as Member
use Rattle.jn_base.proofs.place.Span.TheSendSync as Span-crosses
use Rattle.jn_base.proofs.number.NameNo.TheSendSync as NameNo-crosses
use Rattle.jn_trees.proofs.expression.Annotation.TheSendSync as Annotation-crosses
use Rattle.jn_trees.proofs.expression.AssignOperator.TheSendSync as AssignOperator-crosses
use Rattle.jn_trees.proofs.expression.Base.TheSendSync as Base-crosses
use Rattle.jn_trees.proofs.expression.BinaryOperator.TheSendSync as BinaryOperator-crosses
use Rattle.jn_trees.proofs.expression.ElementType.TheSendSync as ElementType-crosses
use Rattle.jn_trees.proofs.expression.Identifier.TheSendSync as Identifier-crosses
use Rattle.jn_trees.proofs.expression.Literal.TheSendSync as Literal-crosses
use Rattle.jn_trees.proofs.expression.Step.TheSendSync as Step-crosses
use Rattle.jn_trees.proofs.expression.UnaryOperator.TheSendSync as UnaryOperator-crosses
use Rattle.jn_trees.proofs.statement.LocalModifier.TheSendSync as LocalModifier-crosses
use Rattle.jn_trees.proofs.statement.TypeUse.TheSendSync as TypeUse-crosses
use Rattle.jn_trees.proofs.declaration.Modifier.TheSendSync as Modifier-crosses
use Rattle.jn_trees.proofs.declaration.Parameter.TheSendSync as Parameter-crosses
use Rattle.jn_trees.proofs.declaration.Receiver.TheSendSync as Receiver-crosses
use Rattle.jn_trees.proofs.declaration.ResultUse.TheSendSync as ResultUse-crosses
use Rattle.jn_trees.proofs.expression.Expr.TheLaws.TheKnot.{sync-Expr}
use Rattle.jn_trees.proofs.statement.Stmt.TheLaws.TheKnot.{sync-Stmt}

ruleset parts = (Span-crosses.the_sync, Span-crosses.the_field_sync, NameNo-crosses.the_sync, NameNo-crosses.the_field_sync, Annotation-crosses.the_sync, Annotation-crosses.the_field_sync, AssignOperator-crosses.the_sync, AssignOperator-crosses.the_field_sync, Base-crosses.the_sync, Base-crosses.the_field_sync, BinaryOperator-crosses.the_sync, BinaryOperator-crosses.the_field_sync, Identifier-crosses.the_sync, Identifier-crosses.the_field_sync, Literal-crosses.the_sync, Literal-crosses.the_field_sync, Step-crosses.the_sync, Step-crosses.the_field_sync, UnaryOperator-crosses.the_sync, UnaryOperator-crosses.the_field_sync, LocalModifier-crosses.the_sync, LocalModifier-crosses.the_field_sync, TypeUse-crosses.the_sync, TypeUse-crosses.the_field_sync, Modifier-crosses.the_sync, Modifier-crosses.the_field_sync, Parameter-crosses.the_sync, Parameter-crosses.the_field_sync, Receiver-crosses.the_sync, Receiver-crosses.the_field_sync, ResultUse-crosses.the_sync, ResultUse-crosses.the_field_sync)

element_field : IsSync (Box.the_field ElementType.the_row Global.the_row ghosts).row
element_field = search (sendable, crosses, ElementType-crosses.the_sync, parts) depth 20

expr_syncs : IsSync Expr.the_row
expr_syncs = search (sendable, crosses, sync-Expr, element_field, parts) depth 20

expr_field : IsSync (Box.the_field Expr.the_row Global.the_row ghosts).row
expr_field = search (sendable, crosses, expr_syncs) depth 20

expr_boxes : IsSync (Box.the_row Expr.the_row Global.the_row ghosts)
expr_boxes = search (sendable, crosses, expr_syncs) depth 20

expr_option_field : IsSync (Option.the_field (Box.the_row Expr.the_row Global.the_row ghosts)).row
expr_option_field = search (sendable, crosses, expr_boxes) depth 20

exprs_field : IsSync (Vec.the_field Expr.the_row Global.the_row ghosts).row
exprs_field = search (sendable, crosses, expr_syncs) depth 20

declarator_syncs : IsSync Declarator.the_row
declarator_syncs = search (sendable, crosses, expr_boxes, parts) depth 20

declarator_field : IsSync (Declarator.the_field).row
declarator_field = search (sendable, crosses, expr_option_field, parts) depth 20

local_syncs : IsSync LocalDeclaration.the_row
local_syncs = search (sendable, crosses, declarator_syncs, expr_boxes, parts) depth 20

local_field : IsSync (Box.the_field LocalDeclaration.the_row Global.the_row ghosts).row
local_field = search (sendable, crosses, local_syncs) depth 20

init_field : IsSync (ForInit.the_field).row
init_field = search (sendable, crosses, local_field, exprs_field, parts) depth 20

head_syncs : IsSync ForHead.the_row
head_syncs = search (sendable, crosses, init_field, expr_option_field, exprs_field) depth 20

head_field : IsSync (Box.the_field ForHead.the_row Global.the_row ghosts).row
head_field = search (sendable, crosses, head_syncs) depth 20

parameter_field : IsSync (Box.the_field Parameter.the_row Global.the_row ghosts).row
parameter_field = search (sendable, crosses, parts) depth 20

pub statement_syncs : IsSync Stmt.the_row
statement_syncs = search (sendable, crosses, sync-Stmt, head_field, local_field, parameter_field, expr_field, expr_option_field, exprs_field, parts) depth 20

statements_field : IsSync (Vec.the_field Stmt.the_row Global.the_row ghosts).row
statements_field = search (sendable, crosses, statement_syncs) depth 20

pub member_syncs : IsSync Member.the_row
member_syncs = search (sendable, crosses, statements_field, declarator_field, declarator_syncs, parts) depth 20
