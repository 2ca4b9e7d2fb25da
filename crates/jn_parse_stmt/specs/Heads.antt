-- Statements from their parts.
use Rattle.std.specs.Prelude.{ℕ, List, Option, Some, None}
use Rattle.std.specs.Borrow.{Bor}
use Rattle.jn_trees.specs.declared.token.Token.{Token}
use Rattle.jn_trees.specs.declared.token.TokenKind.{TokenKind}
use Rattle.jn_trees.specs.declared.context.Context.{Context}
use Rattle.jn_trees.specs.Trees.{Tree, Statement, IfStatement, IfElseStatement, WhileStatement, ForStatement, ForEachStatement}
use Rattle.jn_trees.specs.View.{view, views, optional_view, init_view, local_marks, type_use_view}
use Rattle.jn_trees.specs.Longest.{TryStatement}
use Rattle.jn_trees.specs.Pieces.{kinds}
use Rattle.jn_parse_stmt_law.specs.StatementReader.{around, statement_reader}
use Rattle.jn_parse_stmt.specs.declared.loops.Head.{Head}
use Rattle.jn_parse_stmt.specs.declared.loops.Head.TheVariants.{While, For, ForEach}

-- the loop with this head around its body
abbrev pub body_of : Head → Statement → Statement
body_of (While c) s = WhileStatement (view c.value) s
body_of (For h) s = ForStatement (init_view h.value.init) (optional_view h.value.condition) (views h.value.update.items) s
body_of (ForEach v a) s = ForEachStatement (local_marks v.value.modifiers.items) (type_use_view v.value.type_use) v.value.name.name (view a.value) s

-- the loop whose head was read, with the body after it
abbrev pub with_body : (List TokenKind → TryStatement) → Option (Head × Bor (List Token)) → TryStatement
with_body one None = None
with_body one (Some r) = around (body_of r.0) (one (kinds r.1.now))

-- the `if` with what was read after `else`, or alone
abbrev pub if_ended : Tree → Statement → List TokenKind → TryStatement → TryStatement
if_ended e s ts None = Some (IfStatement e s, ts)
if_ended e s ts (Some r) = Some (IfElseStatement e s r.0, r.1)

-- what the reader of statements gives
unfoldable pub read_one : ℕ → Context → List TokenKind → TryStatement
read_one d c ts = statement_reader d c ts
