-- What a descent with a bound on nesting reads as a statement at the front of tokens (JLS 14).
use Rattle.std.specs.Prelude.{ℕ, zero, suc, List, ◌∷◌, length, Bool, Some, None, cond}
use Rattle.jn_trees.specs.declared.token.TokenKind.{TokenKind}
use Rattle.jn_trees.specs.declared.token.TokenKind.TheVariants.{Break, Continue, Do, Else, For, If, Return, Super, This, While, LeftParen, LeftBrace, RightBrace, Semicolon, Colon}
use Rattle.jn_trees.specs.declared.context.Context.{Context}
use Rattle.jn_trees.specs.Trees.{Tree, Trees, LocalTree, ParameterTree, InitTree, ExpressionsInit, DeclarationInit, Statement, Statements, BlockStatement, EmptyStatement, ExpressionStatement, BreakStatement, ContinueStatement, ReturnStatement, LocalStatement, IfStatement, IfElseStatement, WhileStatement, DoStatement, ForStatement, ForEachStatement, ThisCallStatement, SuperCallStatement, NoStatements, MoreStatements}
use Rattle.jn_trees.specs.WellFormed.{is_effect, ends_open, under, in_block, loop_body}
use Rattle.jn_trees.specs.Longest.{Try, TryStatement}
use Rattle.jn_parse_expr_law.specs.Reader.{reader, arguments_in}
use Rattle.jn_parse_stmt_law.specs.Parts.{Behind, Read, then_read, ended, closed, read_parameter, local_behind, read_initial, if_effects, read_optional}

-- a statement around the one that is read
abbrev pub around : (Statement → Statement) → TryStatement → TryStatement
around f None = None
around f (Some r) = Some (f r.0, r.1)

-- an expression in parentheses
abbrev pub in_parens : (List TokenKind → Try) → List TokenKind → Try
in_parens whole (LeftParen ∷ ts) = then_read (whole ts) closed
in_parens whole _ = None

abbrev pub effect_statement : Tree → List TokenKind → TryStatement
effect_statement e ts = cond (is_effect e) (ended (ExpressionStatement e) ts) None

abbrev pub local_statement : Behind LocalTree → TryStatement
local_statement l = ended (LocalStatement l.0) l.1

-- a declaration of locals where one begins, else an expression
abbrev pub simple_from : (List TokenKind → Try) → Bool → List TokenKind → Read ParameterTree → TryStatement
simple_from whole direct ts None = then_read (whole ts) effect_statement
simple_from whole direct ts (Some p) = cond direct (local_statement (local_behind whole p.0 p.1)) None

abbrev pub simple : (List TokenKind → Try) → Bool → List TokenKind → TryStatement
simple whole direct ts = simple_from whole direct ts (read_parameter ts)

-- a word that stands in a loop alone
abbrev pub loop_word : Bool → Statement → List TokenKind → TryStatement
loop_word in_loop s ts = cond in_loop (ended s ts) None

abbrev pub return_statement : (List TokenKind → Try) → List TokenKind → TryStatement
return_statement whole ts = then_read (read_optional whole ts) (λ e us. Some (ReturnStatement e, us))

-- a call of a constructor, after its opening parenthesis
abbrev pub constructor_call : (List TokenKind → Try) → Bool → (Trees → Statement) → List TokenKind → TryStatement
constructor_call whole leading f ts = cond leading (then_read (arguments_in whole ts) (λ es us. ended (f es) us)) None

-- the `if` alone, with `else` left over, where no statement is after `else`
abbrev pub with_else : Tree → Statement → List TokenKind → TryStatement → TryStatement
with_else e s ts None = Some (IfStatement e s, Else ∷ ts)
with_else e s ts (Some r) = Some (IfElseStatement e s r.0, r.1)

abbrev pub if_end : (List TokenKind → TryStatement) → Tree → Statement → List TokenKind → TryStatement
if_end one e s (Else ∷ ts) = cond (ends_open s) (Some (IfStatement e s, Else ∷ ts)) (with_else e s ts (one ts))
if_end one e s ts = Some (IfStatement e s, ts)

abbrev pub if_statement : (List TokenKind → Try) → (List TokenKind → TryStatement) → List TokenKind → TryStatement
if_statement whole one ts = then_read (in_parens whole ts) (λ e us. then_read (one us) (if_end one e))

abbrev pub while_statement : (List TokenKind → Try) → (List TokenKind → TryStatement) → List TokenKind → TryStatement
while_statement whole one ts = then_read (in_parens whole ts) (λ e us. around (WhileStatement e) (one us))

abbrev pub do_end : (List TokenKind → Try) → Statement → List TokenKind → TryStatement
do_end whole s (While ∷ ts) = then_read (in_parens whole ts) (λ e us. ended (DoStatement s e) us)
do_end whole s _ = None

abbrev pub do_statement : (List TokenKind → Try) → (List TokenKind → TryStatement) → List TokenKind → TryStatement
do_statement whole one ts = then_read (one ts) (do_end whole)

-- a for-each after its colon
abbrev pub for_each : (List TokenKind → Try) → (List TokenKind → TryStatement) → ParameterTree → List TokenKind → TryStatement
for_each whole one p ts = then_read (then_read (whole ts) closed) (λ e us. around (ForEachStatement p.marks p.type_use p.name e) (one us))

-- a `for` after its first semicolon
abbrev pub for_rest : (List TokenKind → Try) → (List TokenKind → TryStatement) → InitTree → List TokenKind → TryStatement
for_rest whole one i ts =
    then_read (read_optional whole ts) (λ c us. then_read (then_read (arguments_in whole us) if_effects) (λ es vs. around (ForStatement i c es) (one vs)))

abbrev pub for_local : (List TokenKind → Try) → (List TokenKind → TryStatement) → Behind LocalTree → TryStatement
for_local whole one l = then_read (ended (DeclarationInit l.0) l.1) (for_rest whole one)

-- a `for` after marks, a type use and a name
abbrev pub for_named : (List TokenKind → Try) → (List TokenKind → TryStatement) → ParameterTree → List TokenKind → TryStatement
for_named whole one p (Colon ∷ ts) = for_each whole one p ts
for_named whole one p ts = for_local whole one (local_behind whole p ts)

abbrev pub for_from : (List TokenKind → Try) → (List TokenKind → TryStatement) → List TokenKind → Read ParameterTree → TryStatement
for_from whole one ts None = then_read (then_read (read_initial whole ts) if_effects) (λ es us. for_rest whole one (ExpressionsInit es) us)
for_from whole one ts (Some p) = for_named whole one p.0 p.1

abbrev pub for_statement : (List TokenKind → Try) → (List TokenKind → TryStatement) → List TokenKind → TryStatement
for_statement whole one (LeftParen ∷ ts) = for_from whole one ts (read_parameter ts)
for_statement whole one _ = None

-- at most n statements and the closing brace
abbrev pub block_from : (List TokenKind → TryStatement) → ℕ → List TokenKind → Read Statements
block_from one zero ts = None
block_from one (suc n) (RightBrace ∷ ts) = Some (NoStatements, ts)
block_from one (suc n) ts = then_read (one ts) (λ s us. then_read (block_from one n us) (λ ss vs. Some (MoreStatements s ss, vs)))

-- statements and the closing brace
unfoldable pub read_block : (List TokenKind → TryStatement) → List TokenKind → Read Statements
read_block one ts = block_from one (suc (length ts)) ts

abbrev pub block_statement : (List TokenKind → TryStatement) → List TokenKind → TryStatement
block_statement one ts = then_read (read_block one ts) (λ ss us. Some (BlockStatement ss, us))

-- a statement in this context; expressions and statements within it are read one level deeper
abbrev pub statement_at : (List TokenKind → Try) → (Context → List TokenKind → TryStatement) → Context → List TokenKind → TryStatement
statement_at whole one c (LeftBrace ∷ ts) = block_statement (one (in_block c)) ts
statement_at whole one c (Semicolon ∷ ts) = Some (EmptyStatement, ts)
statement_at whole one c (Break ∷ ts) = loop_word c.in_loop BreakStatement ts
statement_at whole one c (Continue ∷ ts) = loop_word c.in_loop ContinueStatement ts
statement_at whole one c (Return ∷ ts) = return_statement whole ts
statement_at whole one c (If ∷ ts) = if_statement whole (one (under c)) ts
statement_at whole one c (While ∷ ts) = while_statement whole (one loop_body) ts
statement_at whole one c (Do ∷ ts) = do_statement whole (one loop_body) ts
statement_at whole one c (For ∷ ts) = for_statement whole (one loop_body) ts
statement_at whole one c (This ∷ LeftParen ∷ ts) = constructor_call whole c.leading ThisCallStatement ts
statement_at whole one c (Super ∷ LeftParen ∷ ts) = constructor_call whole c.leading SuperCallStatement ts
statement_at whole one c ts = simple whole c.direct ts

-- a statement of nesting at most d, where `whole d` reads an expression of nesting at most d
abbrev pub statement_by : (ℕ → List TokenKind → Try) → ℕ → Context → List TokenKind → TryStatement
statement_by whole zero c ts = None
statement_by whole (suc d) c ts = statement_at (whole d) (statement_by whole d) c ts

-- what is read as a statement in this context, with nesting at most d
abbrev pub statement_reader : ℕ → Context → List TokenKind → TryStatement
statement_reader d c ts = statement_by (λ n. (reader n).whole) d c ts
