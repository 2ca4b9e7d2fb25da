-- Members may cross threads.
use denote.Param.Send.{IsSend, sendable}
use Rattle.std.proofs.Crossing.{crosses}
use Rattle.std.specs.contracts.option.Option as Option
use Rattle.std.specs.contracts.vec.Vec as Vec
use Rattle.std.specs.contracts.boxed.Box as Box
use Rattle.std.specs.contracts.alloc.Global as Global
use Rattle.std.specs.contracts.impls.GlobalAllocator.TheImpl.{ghosts}
use Rattle.jn_trees.specs.contracts.expression.ElementType as ElementType
use Rattle.jn_trees.specs.contracts.expression.Expr as Expr
use Rattle.jn_trees.specs.contracts.statement.Declarator as Declarator
use Rattle.jn_trees.specs.contracts.statement.LocalDeclaration as LocalDeclaration
use Rattle.jn_trees.specs.contracts.statement.ForInit as ForInit
use Rattle.jn_trees.specs.contracts.statement.ForHead as ForHead
use Rattle.jn_trees.specs.contracts.statement.Stmt as Stmt
use Rattle.jn_trees.specs.contracts.declaration.Parameter as Parameter
use Rattle.jn_trees.specs.contracts.declaration.Member as Member
use Rattle.jn_base.proofs.place.Span.TheSendSync as Span-crosses
use Rattle.jn_base.proofs.number.NameNo.TheSendSync as NameNo-crosses
use Rattle.jn_trees.proofs.expression.Annotation.TheSendSync as Annotation-crosses
use Rattle.jn_trees.proofs.expression.AssignOperator.TheSendSync as AssignOperator-crosses
use Rattle.jn_trees.proofs.expression.Base.TheSendSync as Base-crosses
use Rattle.jn_trees.proofs.expression.BinaryOperator.TheSendSync as BinaryOperator-crosses
use Rattle.jn_trees.proofs.expression.ElementType.TheSendSync as ElementType-crosses
use Rattle.jn_trees.proofs.expression.Identifier.TheSendSync as Identifier-crosses
use Rattle.jn_trees.proofs.expression.Literal.TheSendSync as Literal-crosses
use Rattle.jn_trees.proofs.expression.Step.TheSendSync as Step-crosses
use Rattle.jn_trees.proofs.expression.UnaryOperator.TheSendSync as UnaryOperator-crosses
use Rattle.jn_trees.proofs.statement.LocalModifier.TheSendSync as LocalModifier-crosses
use Rattle.jn_trees.proofs.statement.TypeUse.TheSendSync as TypeUse-crosses
use Rattle.jn_trees.proofs.declaration.Modifier.TheSendSync as Modifier-crosses
use Rattle.jn_trees.proofs.declaration.Parameter.TheSendSync as Parameter-crosses
use Rattle.jn_trees.proofs.declaration.Receiver.TheSendSync as Receiver-crosses
use Rattle.jn_trees.proofs.declaration.ResultUse.TheSendSync as ResultUse-crosses
use Rattle.jn_trees.proofs.expression.Expr.TheLaws.TheKnot.{send-Expr}
use Rattle.jn_trees.proofs.statement.Stmt.TheLaws.TheKnot.{send-Stmt}

ruleset parts = (Span-crosses.the_send, Span-crosses.the_field_send, NameNo-crosses.the_send, NameNo-crosses.the_field_send, Annotation-crosses.the_send, Annotation-crosses.the_field_send, AssignOperator-crosses.the_send, AssignOperator-crosses.the_field_send, Base-crosses.the_send, Base-crosses.the_field_send, BinaryOperator-crosses.the_send, BinaryOperator-crosses.the_field_send, Identifier-crosses.the_send, Identifier-crosses.the_field_send, Literal-crosses.the_send, Literal-crosses.the_field_send, Step-crosses.the_send, Step-crosses.the_field_send, UnaryOperator-crosses.the_send, UnaryOperator-crosses.the_field_send, LocalModifier-crosses.the_send, LocalModifier-crosses.the_field_send, TypeUse-crosses.the_send, TypeUse-crosses.the_field_send, Modifier-crosses.the_send, Modifier-crosses.the_field_send, Parameter-crosses.the_send, Parameter-crosses.the_field_send, Receiver-crosses.the_send, Receiver-crosses.the_field_send, ResultUse-crosses.the_send, ResultUse-crosses.the_field_send)

element_field : IsSend (Box.the_field ElementType.the_row Global.the_row ghosts).row
element_field = search (sendable, crosses, ElementType-crosses.the_send, parts) depth 20

expr_sends : IsSend Expr.the_row
expr_sends = search (sendable, crosses, send-Expr, element_field, parts) depth 20

expr_field : IsSend (Box.the_field Expr.the_row Global.the_row ghosts).row
expr_field = search (sendable, crosses, expr_sends) depth 20

expr_boxes : IsSend (Box.the_row Expr.the_row Global.the_row ghosts)
expr_boxes = search (sendable, crosses, expr_sends) depth 20

expr_option_field : IsSend (Option.the_field (Box.the_row Expr.the_row Global.the_row ghosts)).row
expr_option_field = search (sendable, crosses, expr_boxes) depth 20

exprs_field : IsSend (Vec.the_field Expr.the_row Global.the_row ghosts).row
exprs_field = search (sendable, crosses, expr_sends) depth 20

declarator_sends : IsSend Declarator.the_row
declarator_sends = search (sendable, crosses, expr_boxes, parts) depth 20

declarator_field : IsSend (Declarator.the_field).row
declarator_field = search (sendable, crosses, expr_option_field, parts) depth 20

local_sends : IsSend LocalDeclaration.the_row
local_sends = search (sendable, crosses, declarator_sends, expr_boxes, parts) depth 20

local_field : IsSend (Box.the_field LocalDeclaration.the_row Global.the_row ghosts).row
local_field = search (sendable, crosses, local_sends) depth 20

init_field : IsSend (ForInit.the_field).row
init_field = search (sendable, crosses, local_field, exprs_field, parts) depth 20

head_sends : IsSend ForHead.the_row
head_sends = search (sendable, crosses, init_field, expr_option_field, exprs_field) depth 20

head_field : IsSend (Box.the_field ForHead.the_row Global.the_row ghosts).row
head_field = search (sendable, crosses, head_sends) depth 20

parameter_field : IsSend (Box.the_field Parameter.the_row Global.the_row ghosts).row
parameter_field = search (sendable, crosses, parts) depth 20

statement_sends : IsSend Stmt.the_row
statement_sends = search (sendable, crosses, send-Stmt, head_field, local_field, parameter_field, expr_field, expr_option_field, exprs_field, parts) depth 20

statements_field : IsSend (Vec.the_field Stmt.the_row Global.the_row ghosts).row
statements_field = search (sendable, crosses, statement_sends) depth 20

pub member_sends : IsSend Member.the_row
member_sends = search (sendable, crosses, statements_field, declarator_field, declarator_sends, parts) depth 20
