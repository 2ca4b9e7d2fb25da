-- What the reader gives, of tokens that are hard to read.
use Rattle.std.specs.Prelude.{◌≡◌, [], ◌∷◌, Some, None, true, false}
use Rattle.std.proofs.Common.{refl}
use Rattle.jn_base.specs.declared.number.NameNo.{NameNo}
use Rattle.jn_trees.specs.declared.token.TokenKind.TheVariants.{Id, Break, Do, Else, Final, For, If, Int, Super, This, While, LeftParen, RightParen, LeftBrace, RightBrace, LeftBracket, RightBracket, Semicolon, Comma, Dot, At, Assign, Colon, PlusPlus}
use Rattle.jn_trees.specs.declared.expression.Step.TheVariants.{Increment}
use Rattle.jn_trees.specs.declared.expression.AssignOperator.TheVariants.{Assign as Simple}
use Rattle.jn_trees.specs.Trees.{ClassBase, IntBase, NameTree, IndexTree, PostfixTree, AssignTree, SuperCallTree, NoTrees, MoreTrees, AnnotationMark, FinalMark, ExpressionsInit, DeclarationInit, BlockStatement, EmptyStatement, ExpressionStatement, BreakStatement, LocalStatement, IfStatement, IfElseStatement, DoStatement, ForStatement, ForEachStatement, ThisCallStatement, NoStatements, MoreStatements}
use Rattle.jn_trees.specs.WellFormed.{body_context, loop_body}
use Rattle.jn_parse_expr_law.specs.Reader.{all_items}
use Rattle.jn_parse_stmt_law.specs.Parts.{all_declarators}
use Rattle.jn_parse_stmt_law.specs.StatementReader.{read_block, statement_reader}

-- `if (a) if (b) ; else ;`: the `else` goes with the last `if`
last_if : (a b : NameNo) → statement_reader 9 (body_context false) (If ∷ LeftParen ∷ Id a ∷ RightParen ∷ If ∷ LeftParen ∷ Id b ∷ RightParen ∷ Semicolon ∷ Else ∷ Semicolon ∷ [])
    ≡ Some (IfStatement (NameTree a) (IfElseStatement (NameTree b) EmptyStatement EmptyStatement), [])
last_if a b = refl

-- `if (a) ; else {;}` at nesting 2, and `if (a) ; else else`: the `if` alone
else_too_deep : (a : NameNo) → statement_reader 2 (body_context false) (If ∷ LeftParen ∷ Id a ∷ RightParen ∷ Semicolon ∷ Else ∷ LeftBrace ∷ Semicolon ∷ RightBrace ∷ []) ≡ Some (IfStatement (NameTree a) EmptyStatement, Else ∷ LeftBrace ∷ Semicolon ∷ RightBrace ∷ [])
unfolding read_block
else_too_deep a = refl

no_other : (a : NameNo) → statement_reader 9 (body_context false) (If ∷ LeftParen ∷ Id a ∷ RightParen ∷ Semicolon ∷ Else ∷ Else ∷ []) ≡ Some (IfStatement (NameTree a) EmptyStatement, Else ∷ Else ∷ [])
no_other a = refl

-- `a[] x, y = z;` declares, and `a[x] = y;` assigns
declared : (a x y z : NameNo) → statement_reader 9 (body_context false) (Id a ∷ LeftBracket ∷ RightBracket ∷ Id x ∷ Comma ∷ Id y ∷ Assign ∷ Id z ∷ Semicolon ∷ [])
    ≡ Some (LocalStatement (record { marks = []; type_use = record { base = ClassBase a; array = Some [] }; first = record { name = x; value = None }; more = record { name = y; value = Some (NameTree z) } ∷ [] }), [])
unfolding all_declarators
declared a x y z = refl

assigned : (a x y : NameNo) → statement_reader 9 (body_context false) (Id a ∷ LeftBracket ∷ Id x ∷ RightBracket ∷ Assign ∷ Id y ∷ Semicolon ∷ []) ≡ Some (ExpressionStatement (AssignTree (IndexTree (NameTree a) (NameTree x)) Simple (NameTree y)), [])
assigned a x y = refl

-- `final @A int @B [] x;`, and not with `final` twice
marked : (a b x : NameNo) → statement_reader 9 (body_context false) (Final ∷ At ∷ Id a ∷ Int ∷ At ∷ Id b ∷ LeftBracket ∷ RightBracket ∷ Id x ∷ Semicolon ∷ [])
    ≡ Some (LocalStatement (record { marks = FinalMark ∷ AnnotationMark a ∷ []; type_use = record { base = IntBase; array = Some (b ∷ []) }; first = record { name = x; value = None }; more = [] }), [])
unfolding all_declarators
marked a b x = refl

final_twice : (a x : NameNo) → statement_reader 9 (body_context false) (Final ∷ At ∷ Id a ∷ Final ∷ Int ∷ Id x ∷ Semicolon ∷ []) ≡ None
final_twice a x = refl

-- `if (a) int x;` declares where no block stands, and `break;` stands in no loop
not_direct : (a x : NameNo) → statement_reader 9 (body_context false) (If ∷ LeftParen ∷ Id a ∷ RightParen ∷ Int ∷ Id x ∷ Semicolon ∷ []) ≡ None
not_direct a x = refl

no_loop : statement_reader 9 (body_context false) (Break ∷ Semicolon ∷ []) ≡ None
no_loop = refl

-- `do { break; } while (a);`
in_loop : (a : NameNo) → statement_reader 9 (body_context false) (Do ∷ LeftBrace ∷ Break ∷ Semicolon ∷ RightBrace ∷ While ∷ LeftParen ∷ Id a ∷ RightParen ∷ Semicolon ∷ []) ≡ Some (DoStatement (BlockStatement (MoreStatements BreakStatement NoStatements)) (NameTree a), [])
unfolding read_block
in_loop a = refl

-- `for (a x : y) ;`, `for (a x = y; ; x++) ;`, `for (x++; ; ) ;`, `for (;;) ;`, and not `for (x; ; ) ;`
each : (a x y : NameNo) → statement_reader 9 (body_context false) (For ∷ LeftParen ∷ Id a ∷ Id x ∷ Colon ∷ Id y ∷ RightParen ∷ Semicolon ∷ []) ≡ Some (ForEachStatement [] (record { base = ClassBase a; array = None }) x (NameTree y) EmptyStatement, [])
each a x y = refl

counted : (a x y : NameNo) → statement_reader 9 (body_context false) (For ∷ LeftParen ∷ Id a ∷ Id x ∷ Assign ∷ Id y ∷ Semicolon ∷ Semicolon ∷ Id x ∷ PlusPlus ∷ RightParen ∷ Semicolon ∷ [])
    ≡ Some (ForStatement (DeclarationInit (record { marks = []; type_use = record { base = ClassBase a; array = None }; first = record { name = x; value = Some (NameTree y) }; more = [] })) None (MoreTrees (PostfixTree (NameTree x) Increment) NoTrees) EmptyStatement, [])
unfolding all_declarators all_items
counted a x y = refl

stepped : (x : NameNo) → statement_reader 9 (body_context false) (For ∷ LeftParen ∷ Id x ∷ PlusPlus ∷ Semicolon ∷ Semicolon ∷ RightParen ∷ Semicolon ∷ []) ≡ Some (ForStatement (ExpressionsInit (MoreTrees (PostfixTree (NameTree x) Increment) NoTrees)) None NoTrees EmptyStatement, [])
unfolding all_items
stepped x = refl

forever : statement_reader 9 (body_context false) (For ∷ LeftParen ∷ Semicolon ∷ Semicolon ∷ RightParen ∷ Semicolon ∷ []) ≡ Some (ForStatement (ExpressionsInit NoTrees) None NoTrees EmptyStatement, [])
forever = refl

no_effect : (x : NameNo) → statement_reader 9 (body_context false) (For ∷ LeftParen ∷ Id x ∷ Semicolon ∷ Semicolon ∷ RightParen ∷ Semicolon ∷ []) ≡ None
unfolding all_items
no_effect x = refl

-- `this();` leads alone, and `super.m();` stands anywhere
leading : statement_reader 9 (body_context true) (This ∷ LeftParen ∷ RightParen ∷ Semicolon ∷ []) ≡ Some (ThisCallStatement NoTrees, [])
leading = refl

late : statement_reader 9 (body_context false) (This ∷ LeftParen ∷ RightParen ∷ Semicolon ∷ []) ≡ None
late = refl

parent_method : (m : NameNo) → statement_reader 9 loop_body (Super ∷ Dot ∷ Id m ∷ LeftParen ∷ RightParen ∷ Semicolon ∷ []) ≡ Some (ExpressionStatement (SuperCallTree m NoTrees), [])
parent_method m = refl
