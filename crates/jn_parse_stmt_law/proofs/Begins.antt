-- What expressions begin with: neither a declaration of locals nor a call of a constructor, nor a word of a statement.
use Rattle.std.proofs.Common.{◌≡◌, List, [], ◌∷◌, ◌++◌, refl, ap, ◌∙◌, append_assoc, Some, None, Bool, true, false}
use Rattle.std.specs.Prelude.{not}
use Rattle.jn_base.specs.declared.number.NameNo.{NameNo}
use Rattle.jn_trees.specs.declared.token.TokenKind.{TokenKind}
use Rattle.jn_trees.specs.declared.token.TokenKind.TheVariants.{Id, Str, Number, Boolean, Break, Continue, Do, Final, For, If, Int, New, Return, Super, This, While, True, False, Null, LeftParen, RightParen, LeftBrace, LeftBracket, RightBracket, Semicolon, Dot, At, Not, Instanceof, Question, Colon, PlusPlus, MinusMinus, Plus, Minus}
use Rattle.jn_trees.specs.declared.expression.Literal.TheVariants.{Number as NumberLiteral, Str as StrLiteral, True as TrueLiteral, False as FalseLiteral, Null as NullLiteral}
use Rattle.jn_trees.specs.declared.expression.UnaryOperator.TheVariants.{Plus as PlusSign, Minus as MinusSign, Not as NotSign}
use Rattle.jn_trees.specs.declared.expression.Step.{Step}
use Rattle.jn_trees.specs.declared.expression.Step.TheVariants.{Increment, Decrement}
use Rattle.jn_trees.specs.declared.expression.BinaryOperator.{BinaryOperator}
use Rattle.jn_trees.specs.declared.expression.BinaryOperator.TheVariants.{Multiply, Divide, Remainder, Add, Subtract, Less as LessThan, Greater as GreaterThan, LessEqual as AtMost, GreaterEqual as AtLeast, Equal, NotEqual as Unequal, And, Or}
use Rattle.jn_trees.specs.declared.expression.AssignOperator.{AssignOperator}
use Rattle.jn_trees.specs.declared.expression.AssignOperator.TheVariants.{Assign as Simple, Add as AddTo, Subtract as SubtractFrom, Multiply as MultiplyBy, Divide as DivideBy, Remainder as RemainderBy}
use Rattle.jn_trees.specs.declared.context.Context.{Context}
use Rattle.jn_trees.specs.Trees.{Tree, LiteralTree, NameTree, ThisTree, FieldTree, CallTree, IndexTree, PostfixTree, PrefixTree, UnaryTree, BinaryTree, InstanceOfTree, ConditionalTree, AssignTree}
use Rattle.jn_trees.specs.Spelling.{step_token, operator_token, assign_token, spell, spell_list}
use Rattle.jn_trees.specs.Longest.{Try, TryStatement}
use Rattle.jn_parse_expr_law.specs.Reader.{bind_items, all_items, close_arguments, arguments_in}
use Rattle.jn_parse_stmt_law.specs.Parts.{then_read, ended, read_parameter, read_initial, read_optional}
use Rattle.jn_parse_stmt_law.specs.StatementReader.{simple, statement_at}

-- after a class, a type use or a declarator goes on here
abbrev pub declares : List TokenKind → Bool
declares (Id n ∷ ts) = true
declares (At ∷ ts) = true
declares (LeftBracket ∷ RightBracket ∷ ts) = true
declares _ = false

abbrev pub starts_paren : List TokenKind → Bool
starts_paren (LeftParen ∷ ts) = true
starts_paren _ = false

-- an expression can begin so, and no declaration or call of a constructor does
abbrev pub begins : List TokenKind → Bool
begins (Id n ∷ ts) = not (declares ts)
begins (This ∷ ts) = not (starts_paren ts)
begins (Super ∷ ts) = not (starts_paren ts)
begins (Str n ∷ ts) = true
begins (Number n ∷ ts) = true
begins (True ∷ ts) = true
begins (False ∷ ts) = true
begins (Null ∷ ts) = true
begins (New ∷ ts) = true
begins (LeftParen ∷ ts) = true
begins (Not ∷ ts) = true
begins (Plus ∷ ts) = true
begins (Minus ∷ ts) = true
begins (PlusPlus ∷ ts) = true
begins (MinusMinus ∷ ts) = true
begins _ = false

-- neither goes on there
abbrev pub Quiet : List TokenKind → Type 0
Quiet rest = (declares rest ≡ false) × (starts_paren rest ≡ false)

quiet_index : (ts : List TokenKind) → begins ts ≡ true → Quiet (LeftBracket ∷ ts)
quiet_index (RightBracket ∷ ts) e = cc
quiet_index _ e = (refl, refl)

quiet_step : (s : Step) (ts : List TokenKind) → Quiet (step_token s ∷ ts)
quiet_step Increment ts = (refl, refl)
quiet_step Decrement ts = (refl, refl)

quiet_operator : (o : BinaryOperator) (ts : List TokenKind) → Quiet (operator_token o ∷ ts)
quiet_operator Multiply ts = (refl, refl)
quiet_operator Divide ts = (refl, refl)
quiet_operator Remainder ts = (refl, refl)
quiet_operator Add ts = (refl, refl)
quiet_operator Subtract ts = (refl, refl)
quiet_operator LessThan ts = (refl, refl)
quiet_operator GreaterThan ts = (refl, refl)
quiet_operator AtMost ts = (refl, refl)
quiet_operator AtLeast ts = (refl, refl)
quiet_operator Equal ts = (refl, refl)
quiet_operator Unequal ts = (refl, refl)
quiet_operator And ts = (refl, refl)
quiet_operator Or ts = (refl, refl)

quiet_assign : (o : AssignOperator) (ts : List TokenKind) → Quiet (assign_token o ∷ ts)
quiet_assign Simple ts = (refl, refl)
quiet_assign AddTo ts = (refl, refl)
quiet_assign SubtractFrom ts = (refl, refl)
quiet_assign MultiplyBy ts = (refl, refl)
quiet_assign DivideBy ts = (refl, refl)
quiet_assign RemainderBy ts = (refl, refl)

-- a tree that the form begins with, and what stands after it
along : (p : Tree) (tail rest : List TokenKind) → begins (spell p ++ (tail ++ rest)) ≡ true → begins ((spell p ++ tail) ++ rest) ≡ true
along p tail rest e = ap begins (append_assoc (spell p) tail rest) ∙ e

pub begins_tree : (t : Tree) (rest : List TokenKind) → Quiet rest → begins (spell t ++ rest) ≡ true
begins_tree (LiteralTree (NumberLiteral n)) rest q = refl
begins_tree (LiteralTree (StrLiteral n)) rest q = refl
begins_tree (LiteralTree TrueLiteral) rest q = refl
begins_tree (LiteralTree FalseLiteral) rest q = refl
begins_tree (LiteralTree NullLiteral) rest q = refl
begins_tree (NameTree n) rest q = ap not q.0
begins_tree ThisTree rest q = ap not q.1
begins_tree (FieldTree p n) rest q = along p (Dot ∷ Id n ∷ []) rest (begins_tree p (Dot ∷ Id n ∷ rest) (refl, refl))
begins_tree (CallTree p n es) rest q = along p (Dot ∷ Id n ∷ LeftParen ∷ spell_list RightParen es) rest (begins_tree p (Dot ∷ Id n ∷ LeftParen ∷ (spell_list RightParen es ++ rest)) (refl, refl))
begins_tree (IndexTree p e) rest q =
    let inside = (spell e ++ RightBracket ∷ []) ++ rest in
    along p (LeftBracket ∷ (spell e ++ RightBracket ∷ [])) rest
    (begins_tree p (LeftBracket ∷ inside) (quiet_index inside (along e (RightBracket ∷ []) rest (begins_tree e (RightBracket ∷ rest) (refl, refl)))))
begins_tree (PostfixTree p s) rest q = along p (step_token s ∷ []) rest (begins_tree p (step_token s ∷ rest) (quiet_step s rest))
begins_tree (PrefixTree Increment p) rest q = refl
begins_tree (PrefixTree Decrement p) rest q = refl
begins_tree (UnaryTree PlusSign e) rest q = refl
begins_tree (UnaryTree MinusSign e) rest q = refl
begins_tree (UnaryTree NotSign e) rest q = refl
begins_tree (BinaryTree l o r) rest q = along l (operator_token o ∷ spell r) rest (begins_tree l (operator_token o ∷ (spell r ++ rest)) (quiet_operator o (spell r ++ rest)))
begins_tree (InstanceOfTree e n) rest q = along e (Instanceof ∷ Id n ∷ []) rest (begins_tree e (Instanceof ∷ Id n ∷ rest) (refl, refl))
begins_tree (ConditionalTree c a b) rest q =
    let tail = spell a ++ Colon ∷ spell b in
    along c (Question ∷ tail) rest (begins_tree c (Question ∷ (tail ++ rest)) (refl, refl))
begins_tree (AssignTree l o r) rest q = along l (assign_token o ∷ spell r) rest (begins_tree l (assign_token o ∷ (spell r ++ rest)) (quiet_assign o (spell r ++ rest)))
begins_tree _ rest q = refl

-- so no parameter stands there
no_name : (n : NameNo) (ts : List TokenKind) → declares ts ≡ false → read_parameter (Id n ∷ ts) ≡ None
no_name n (Id m ∷ ts) e = cc
no_name n (At ∷ ts) e = cc
no_name n (LeftBracket ∷ RightBracket ∷ ts) e = cc
no_name n _ e = refl

not_false : (b : Bool) → not b ≡ true → b ≡ false
not_false true e = cc
not_false false e = refl

pub no_parameter : (ts : List TokenKind) → begins ts ≡ true → read_parameter ts ≡ None
no_parameter (Id n ∷ ts) e = no_name n ts (not_false (declares ts) e)
no_parameter (At ∷ ts) e = cc
no_parameter (Final ∷ ts) e = cc
no_parameter (Int ∷ ts) e = cc
no_parameter (Boolean ∷ ts) e = cc
no_parameter _ e = refl

-- and what is read there isn't told by a word
pub simple_there : (whole : List TokenKind → Try) (one : Context → List TokenKind → TryStatement) (c : Context) (ts : List TokenKind) → begins ts ≡ true → statement_at whole one c ts ≡ simple whole c.direct ts
simple_there whole one c (LeftBrace ∷ ts) e = cc
simple_there whole one c (Semicolon ∷ ts) e = cc
simple_there whole one c (Break ∷ ts) e = cc
simple_there whole one c (Continue ∷ ts) e = cc
simple_there whole one c (Return ∷ ts) e = cc
simple_there whole one c (If ∷ ts) e = cc
simple_there whole one c (While ∷ ts) e = cc
simple_there whole one c (Do ∷ ts) e = cc
simple_there whole one c (For ∷ ts) e = cc
simple_there whole one c (This ∷ LeftParen ∷ ts) e = cc
simple_there whole one c (Super ∷ LeftParen ∷ ts) e = cc
simple_there whole one c _ e = refl

pub arguments_there : (whole : List TokenKind → Try) (ts : List TokenKind) → begins ts ≡ true → arguments_in whole ts ≡ bind_items (all_items whole ts) close_arguments
arguments_there whole (RightParen ∷ ts) e = cc
arguments_there whole _ e = refl

pub initial_there : (whole : List TokenKind → Try) (ts : List TokenKind) → begins ts ≡ true → read_initial whole ts ≡ then_read (all_items whole ts) ended
initial_there whole (Semicolon ∷ ts) e = cc
initial_there whole _ e = refl

pub optional_there : (whole : List TokenKind → Try) (ts : List TokenKind) → begins ts ≡ true → read_optional whole ts ≡ then_read (whole ts) (λ e us. ended (Some e) us)
optional_there whole (Semicolon ∷ ts) e = cc
optional_there whole _ e = refl
